-- The objects' side of the model after each kind of change.
use Rattle.std.proofs.Common.{◌≡◌, ℕ, List, arith, Bool, true, false}
use Rattle.std.specs.Prelude.{◌<◌, ◌≤◌, All, IsSomeAnd, slice_get, Some, None, if◌then◌else◌}
use Rattle.std.specs.List.Sorted.{IsStrictlySortedBy}
use Rattle.vt_base.specs.declared.numbers.ObjId.{ObjId}
use Rattle.vt_base.specs.declared.numbers.ClassId.{ClassId}
use Rattle.vt_base.specs.declared.numbers.AttrId.{AttrId}
use Rattle.vt_base.specs.declared.value.Value.{Value}
use Rattle.vt_model.specs.Metamodel.{Metamodel}
use Rattle.vt_model.specs.Model.{Model}
use Rattle.vt_model.specs.Creating.{is_taken, is_reserved, default_value, created}
use Rattle.vt_model.specs.Assigning.{value_order, without_value, with_value}
use Rattle.vt_model.specs.Linking.{stands, oriented, relinked, linked, unlinked}
use Rattle.vt_model.specs.Containing.{is_inside}
use Rattle.vt_model.specs.Deleting.{deleted}
use Rattle.vt_model.specs.Fits.{FitsAttribute, HasItsValues}
use Rattle.vt_model.specs.Sound.{IsSound}
use Rattle.vt_model.specs.declared.metamodel.AttrInfo.{AttrInfo}
use Rattle.vt_model.specs.declared.model.AttributeValue.{AttributeValue}
use Rattle.vt_model.specs.declared.model.Link.{Link}
use Rattle.vt_model.proofs.Valid.Sides.{ObjectSide}
use Rattle.vt_model.proofs.Valid.Objects.{objects_rise-created, numbers_below-created, gone_below-created, numbers_differ-created, names_differ-created, names_free-created, classes_concrete-created, without, objects_rise-without, gone_rise-without, numbers_below-without, gone_below-without, numbers_differ-without, names_differ-without, names_free-without, gone_names_free-without, classes_concrete-without}
use Rattle.vt_model.proofs.Valid.Values.{values_rise-created, values_fit-created, values_there-created, values_rise-without, values_fit-without, values_there-without}
use Rattle.vt_model.proofs.Valid.Assigned.{values_rise-without_value, values_fit-without_value, values_there-without_value, values_rise-with_value, values_fit-with_value, values_there-with_value}

-- ---- the new model of each kind of change

module _ (meta : Metamodel) (g : Model) (side : ObjectSide meta g) where
  -- a new object of a class that is there and isn't abstract, with a name that nobody had
  pub ObjectSide-created : IsSound meta → (name : List ℕ) (c : ClassId) (number : ℕ) → g.next ≤ number → number < 1048576
      → is_taken g name ≡ false → is_reserved name number ≡ false → IsSomeAnd (slice_get meta.classes c.0) (λ info. info.is_abstract ≡ false)
      → ObjectSide meta (created meta g name c number)
  ObjectSide-created sound name c number above below fresh free concrete = record {
    next_in_range = omega arith;
    objects_rise = objects_rise-created meta g side name c number above;
    gone_rise = side.gone_rise;
    numbers_below = numbers_below-created meta g side name c number above;
    gone_below = gone_below-created meta g side name c number above;
    numbers_differ = numbers_differ-created meta g side name c number above;
    names_differ = names_differ-created meta g side name c number above fresh;
    names_free = names_free-created meta g side name c number above free;
    gone_names_free = side.gone_names_free;
    classes_concrete = classes_concrete-created meta g side name c number above concrete;
    values_rise = values_rise-created meta g side name c number above;
    values_fit = values_fit-created meta g side name c number above sound;
    values_there = values_there-created meta g side name c number above;
  }

  -- the objects whose numbers pass a test go
  pub ObjectSide-without : (inside : ObjId → Bool) (links : List Link) → ObjectSide meta (without g inside links)
  ObjectSide-without inside links = record {
    next_in_range = side.next_in_range;
    objects_rise = objects_rise-without meta g side inside links;
    gone_rise = gone_rise-without meta g side inside links;
    numbers_below = numbers_below-without meta g side inside links;
    gone_below = gone_below-without meta g side inside links;
    numbers_differ = numbers_differ-without meta g side inside links;
    names_differ = names_differ-without meta g side inside links;
    names_free = names_free-without meta g side inside links;
    gone_names_free = gone_names_free-without meta g side inside links;
    classes_concrete = classes_concrete-without meta g side inside links;
    values_rise = values_rise-without meta g side inside links;
    values_fit = values_fit-without meta g side inside links;
    values_there = values_there-without meta g side inside links;
  }

  -- an object goes, with all that is in it
  pub ObjectSide-deleted : (o : ObjId) → ObjectSide meta (deleted meta g o)
  ObjectSide-deleted o = ObjectSide-without (λ x. is_inside meta g x o) (deleted meta g o).links

  -- other values, which rise, fit and are all there
  pub ObjectSide-values : (values : List AttributeValue) → IsStrictlySortedBy value_order values → All (FitsAttribute meta g.live) values → All (HasItsValues meta values) g.live
      → ObjectSide meta (record g { values = values })
  ObjectSide-values values rise fit there = record {
    next_in_range = side.next_in_range;
    objects_rise = side.objects_rise;
    gone_rise = side.gone_rise;
    numbers_below = side.numbers_below;
    gone_below = side.gone_below;
    numbers_differ = side.numbers_differ;
    names_differ = side.names_differ;
    names_free = side.names_free;
    gone_names_free = side.gone_names_free;
    classes_concrete = side.classes_concrete;
    values_rise = rise;
    values_fit = fit;
    values_there = there;
  }

  -- an attribute that has no default loses its value
  pub ObjectSide-without_value : (o : ObjId) (a : AttrId) (info : AttrInfo) → slice_get meta.attributes a.0 ≡ Some info → default_value info.kind ≡ None
      → ObjectSide meta (without_value g o a)
  ObjectSide-without_value o a info declared no_default =
      ObjectSide-values (without_value g o a).values (values_rise-without_value meta g side o a) (values_fit-without_value meta g side o a)
      (values_there-without_value meta g side o a info declared no_default)

  -- an attribute gets a value that fits
  pub ObjectSide-with_value : (o : ObjId) (a : AttrId) (v : Value) → FitsAttribute meta g.live (record { object = o; attribute = a; value = v })
      → ObjectSide meta (with_value g o a v)
  ObjectSide-with_value o a v fits =
      ObjectSide-values (with_value g o a v).values (values_rise-with_value meta g side o a v) (values_fit-with_value meta g side o a v fits)
      (values_there-with_value meta g side o a v)

  -- other links change nothing here
  pub ObjectSide-links : (links : List Link) → ObjectSide meta (record g { links = links })
  ObjectSide-links links = record {
    next_in_range = side.next_in_range;
    objects_rise = side.objects_rise;
    gone_rise = side.gone_rise;
    numbers_below = side.numbers_below;
    gone_below = side.gone_below;
    numbers_differ = side.numbers_differ;
    names_differ = side.names_differ;
    names_free = side.names_free;
    gone_names_free = side.gone_names_free;
    classes_concrete = side.classes_concrete;
    values_rise = side.values_rise;
    values_fit = side.values_fit;
    values_there = side.values_there;
  }

  -- a link comes
  pub ObjectSide-linked : (link : Link) → ObjectSide meta (linked meta g link)
  ObjectSide-linked link = by (stands g link)
    where
      by : (b : Bool) → ObjectSide meta (if b then g else relinked meta g (oriented meta link))
      by true = side
      by false = ObjectSide-links (relinked meta g (oriented meta link)).links

  -- a link goes
  pub ObjectSide-unlinked : (link : Link) → ObjectSide meta (unlinked meta g link)
  ObjectSide-unlinked link = ObjectSide-links (unlinked meta g link).links
