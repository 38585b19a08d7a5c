-- The values of a valid model, after an object came, and after some were deleted.
use Rattle.std.proofs.Common.{◌≡◌, ℕ, ◌+◌, List, [], ◌∷◌, ◌++◌, sym, ap, ap₂, subst, ◌∙◌, arith, Bool, true, false}
use Rattle.std.specs.Prelude.{◌<◌, ◌≤◌, ◌==◌, not, All, slice_get, filter, Some}
use Rattle.std.specs.List.Sorted.{IsStrictlySortedBy}
use Rattle.std.specs.declared.cmp.Ordering.TheVariants.{Less}
use Rattle.std.proofs.lemmas.Bool.{and_parts, eqb-true}
use Rattle.std.proofs.lemmas.List.Elements.{All-append, All-push, All-weaker, All-contains, Contains-append_left, Contains-push}
use Rattle.std.proofs.lemmas.List.Kept.{IsStrictlySortedBy-filter}
use Rattle.vt_base.specs.declared.numbers.ObjId.{ObjId}
use Rattle.vt_base.specs.declared.numbers.ClassId.{ClassId}
use Rattle.vt_base.specs.declared.numbers.AttrId.{AttrId}
use Rattle.vt_base.specs.declared.value.Value.{Value}
use Rattle.vt_model.specs.Metamodel.{Metamodel, isa}
use Rattle.vt_model.specs.Model.{Model}
use Rattle.vt_model.specs.Creating.{default_value, defaults_from, created}
use Rattle.vt_model.specs.Assigning.{value_order, is_value_of}
use Rattle.vt_model.specs.Fits.{IsLiveOf, FitsAttribute, HasItsValues}
use Rattle.vt_model.specs.Sound.{IsSound}
use Rattle.vt_model.specs.declared.metamodel.AttrInfo.{AttrInfo}
use Rattle.vt_model.specs.declared.model.Object.{Object}
use Rattle.vt_model.specs.declared.model.AttributeValue.{AttributeValue}
use Rattle.vt_model.specs.declared.model.Link.{Link}
use Rattle.vt_facts.proofs.OrderedLemmas.{IsStrictlySortedBy-append}
use Rattle.vt_model.proofs.Valid.Sides.{ObjectSide}
use Rattle.vt_facts.proofs.CountLemmas.{count_by-append, count_by-none, count_by-filter, All-filter_passes}
use Rattle.vt_model.proofs.Valid.Objects.{without}
use Rattle.vt_model.proofs.Valid.Kinds.{HasKind-default_value, IsStorable-default_value}
use Rattle.vt_model.proofs.Valid.Defaults.{value_order-object, is_value_of-other_object, All-defaults_from, defaults-object, defaults-rise, count_by-defaults}
use Rattle.vt_facts.proofs.MemberLemmas.{Contains-filter}

-- ---- live objects

-- who was live before others came is live
pub IsLiveOf-append : (meta : Metamodel) (live more : List Object) (o : ObjId) (c : ClassId) → IsLiveOf meta live o c → IsLiveOf meta (live ++ more) o c
IsLiveOf-append meta live more o c h = record {
  own = h.own;
  is_live = record { name = h.is_live.name; there = Contains-append_left live more (record { number = o; name = h.is_live.name; class = h.own }) h.is_live.there };
  below = h.below;
}

-- who is live and passes a test of numbers stays
pub IsLiveOf-filter : (meta : Metamodel) (live : List Object) (stays : ObjId → Bool) (o : ObjId) (c : ClassId) → stays o ≡ true
    → IsLiveOf meta live o c → IsLiveOf meta (filter (λ x. stays x.number) live) o c
IsLiveOf-filter meta live stays o c passes h = record {
  own = h.own;
  is_live = record { name = h.is_live.name; there = Contains-filter (λ x. stays x.number) live (record { number = o; name = h.is_live.name; class = h.own }) h.is_live.there passes };
  below = h.below;
}

-- ---- after an object came

-- each value's object has a number below the next
values-below : (meta : Metamodel) (g : Model) → ObjectSide meta g → All (λ t. t.object.0 < g.next) g.values
values-below meta g side =
    All-weaker (FitsAttribute meta g.live) (λ t. t.object.0 < g.next)
    (λ t h. All-contains (λ o. o.number.0 < g.next) g.live (record { number = t.object; name = h.owner.is_live.name; class = h.owner.own }) side.numbers_below h.owner.is_live.there) g.values side.values_fit

module _ (meta : Metamodel) (g : Model) (side : ObjectSide meta g) (name : List ℕ) (c : ClassId) (number : ℕ) (above : g.next ≤ number) where
  -- the new object
  abbrev object : Object
  object = record { number = record { 0 = number }; name = name; class = c }

  -- and its values
  abbrev defaults : List AttributeValue
  defaults = defaults_from meta c object.number 0 meta.attributes

  -- the new object's values come after all others
  pub values_rise-created : IsStrictlySortedBy value_order (created meta g name c number).values
  values_rise-created =
      IsStrictlySortedBy-append value_order g.values defaults side.values_rise (defaults-rise meta c object.number 0 meta.attributes)
      (All-weaker (λ t. t.object.0 < g.next) (λ t. All (λ u. value_order t u ≡ Less) defaults)
      (λ t below. All-weaker (λ u. u.object ≡ object.number) (λ u. value_order t u ≡ Less) (λ u is. value_order-object t u (later t u below is)) defaults (defaults-object meta c object.number 0 meta.attributes))
      g.values (values-below meta g side))
    where
      later : (t u : AttributeValue) → t.object.0 < g.next → u.object ≡ object.number → t.object.0 < u.object.0
      later t u below is = let e : u.object.0 ≡ number = ap (λ x. x.0) is in omega arith

  -- its values have their attributes' kinds, and those of other objects fit as before
  pub values_fit-created : IsSound meta → All (FitsAttribute meta (created meta g name c number).live) (created meta g name c number).values
  values_fit-created sound =
      All-append (FitsAttribute meta (g.live ++ object ∷ [])) g.values defaults
      (All-weaker (FitsAttribute meta g.live) (FitsAttribute meta (g.live ++ object ∷ []))
      (λ t h. record { info = h.info; declared = h.declared; owner = IsLiveOf-append meta g.live (object ∷ []) t.object h.info.class h.owner; kind = h.kind; storable = h.storable }) g.values side.values_fit)
      (All-defaults_from meta c object.number (FitsAttribute meta (g.live ++ object ∷ [])) 0 meta.attributes
      (λ k m info w at there class default. fits k m info w (place k m at) there class default))
    where
      place : (k m : ℕ) → m ≡ 0 + k → k ≡ m
      place k m at = omega arith

      fits : (k m : ℕ) (info : AttrInfo) (w : Value) → k ≡ m → slice_get meta.attributes k ≡ Some info → isa meta c info.class ≡ true → default_value info.kind ≡ Some w
          → FitsAttribute meta (g.live ++ object ∷ []) (record { object = object.number; attribute = record { 0 = m }; value = w })
      fits k m info w at there class default =
          let declared : slice_get meta.attributes m ≡ Some info = subst (λ i. slice_get meta.attributes i ≡ Some info) at there in
          record {
            info = info;
            declared = declared;
            owner = record { own = c; is_live = record { name = name; there = Contains-push g.live object }; below = class };
            kind = HasKind-default_value meta info.kind w (sound.kinds (record { 0 = m }) info declared) default;
            storable = IsStorable-default_value info.kind w default;
          }

  -- each object has its values, and the new one has its defaults
  pub values_there-created : All (HasItsValues meta (created meta g name c number).values) (created meta g name c number).live
  values_there-created =
      All-push (HasItsValues meta (g.values ++ defaults)) g.live object
      (All-weaker (λ o. HasItsValues meta g.values o × (o.number.0 < g.next)) (HasItsValues meta (g.values ++ defaults)) (λ o h. old o h.0 h.1)
      g.live (λ k d within. (side.values_there k d within, side.numbers_below k d within))) new
    where
      -- no default is of an older object
      others : (o : ObjId) (a : AttrId) → o.0 < number → All (λ t. is_value_of o a t ≡ false) defaults
      others o a below = All-weaker (λ t. t.object ≡ object.number) (λ t. is_value_of o a t ≡ false)
          (λ t is. let e : t.object.0 ≡ number = ap (λ x. x.0) is in is_value_of-other_object o a t (omega arith)) defaults (defaults-object meta c object.number 0 meta.attributes)

      -- no older value is of the new object
      none : (a : AttrId) → All (λ t. is_value_of object.number a t ≡ false) g.values
      none a = All-weaker (λ t. t.object.0 < g.next) (λ t. is_value_of object.number a t ≡ false)
          (λ t below. is_value_of-other_object object.number a t (omega arith)) g.values (values-below meta g side)

      old : (o : Object) → HasItsValues meta g.values o → o.number.0 < g.next → HasItsValues meta (g.values ++ defaults) o
      old o has below a info there class default =
          count_by-append (is_value_of o.number a) g.values defaults
          ∙ ap₂ (λ m n. m + n) (has a info there class default) (count_by-none (is_value_of o.number a) defaults (others o.number a (omega arith)))

      new : HasItsValues meta (g.values ++ defaults) object
      new a info there class default =
          count_by-append (is_value_of object.number a) g.values defaults
          ∙ ap₂ (λ m n. m + n) (count_by-none (is_value_of object.number a) g.values (none a))
          (count_by-defaults meta c object.number 0 a.0 a.0 meta.attributes info there class default (omega arith))

-- ---- after some were deleted

module _ (meta : Metamodel) (g : Model) (side : ObjectSide meta g) (inside : ObjId → Bool) (links : List Link) where
  -- the values that are left rise
  pub values_rise-without : IsStrictlySortedBy value_order (without g inside links).values
  values_rise-without = IsStrictlySortedBy-filter value_order (λ t. not (inside t.object)) g.values side.values_rise

  -- the owner of a value that is left is left
  pub values_fit-without : All (FitsAttribute meta (without g inside links).live) (without g inside links).values
  values_fit-without =
      All-weaker (λ t. FitsAttribute meta g.live t × (not (inside t.object) ≡ true)) (FitsAttribute meta (without g inside links).live)
      (λ t h. record { info = h.0.info; declared = h.0.declared; owner = IsLiveOf-filter meta g.live (λ o. not (inside o)) t.object h.0.info.class h.1 h.0.owner; kind = h.0.kind; storable = h.0.storable })
      (without g inside links).values (All-filter_passes (λ t. not (inside t.object)) (FitsAttribute meta g.live) g.values side.values_fit)

  -- who is left keeps its values
  pub values_there-without : All (HasItsValues meta (without g inside links).values) (without g inside links).live
  values_there-without =
      All-weaker (λ o. HasItsValues meta g.values o × (not (inside o.number) ≡ true)) (HasItsValues meta (without g inside links).values)
      (λ o h a info there class default. count_by-filter (is_value_of o.number a) (λ t. not (inside t.object)) (λ t is. same o t a is h.1) g.values ∙ h.0 a info there class default)
      (without g inside links).live (All-filter_passes (λ o. not (inside o.number)) (HasItsValues meta g.values) g.live side.values_there)
    where
      same : (o : Object) (t : AttributeValue) (a : AttrId) → is_value_of o.number a t ≡ true → not (inside o.number) ≡ true → not (inside t.object) ≡ true
      same o t a is stays =
          let number : o.number.0 ≡ t.object.0 = sym (eqb-true t.object.0 o.number.0 (and_parts (t.object.0 == o.number.0) (t.attribute.0 == a.0) is).0) in
          subst (λ n. not (inside (record { 0 = n })) ≡ true) number stays
