-- What was told stays the net change, edit by edit.
use Rattle.std.proofs.Common.{◌≡◌, ◌<◌, ℕ, zero, suc, Bool, true, List, [], ◌∷◌, length, replicate, refl, sym, ap, ap₂, subst, ◌∙◌, arith}
use Rattle.std.specs.Prelude.{pos, not, All, Some, slice_get, slice_index_or}
use Rattle.std.specs.Ordering.{nat_cmp, int_cmp, ordering_then}
use Rattle.std.specs.List.{list_any}
use Rattle.std.specs.List.Sorted.{IsStrictlySortedBy}
use Rattle.std.specs.declared.cmp.Ordering.{Ordering}
use Rattle.std.specs.declared.cmp.Ordering.TheVariants.{Less, Equal, Greater}
use Rattle.std.proofs.lemmas.Bool.Decides.{nat_tests}
use Rattle.std.proofs.lemmas.List.{length-map, length-replicate}
use Rattle.std.proofs.lemmas.List.Elements.{All-weaker, All-filter}
use Rattle.vt_facts.proofs.ChosenLemmas.{filter-all}
use Rattle.vt_base.specs.Order.{tuple_cmp}
use Rattle.vt_base.specs.Rows.{Ascends}
use Rattle.vt_delta.specs.Changes as changes
use Rattle.vt_delta.specs.Changes.{no_change, change_of, changes_of, net}
use Rattle.vt_delta.specs.Deltas.{HasCounts, AreEach, IsNet}
use Rattle.vt_delta.specs.declared.delta.Delta.{Delta}
use Rattle.vt_base.specs.declared.value.Value.{Value}
use Rattle.vt_base.specs.declared.value.Value.TheVariants.{Obj, Int}
use Rattle.vt_delta.proofs.DeltaLemmas.{net-itself}
use Rattle.vt_model.specs.Metamodel.{Metamodel}
use Rattle.vt_model.specs.Model.{Model}
use Rattle.vt_model.specs.Base.{counts_of, base_of}
use Rattle.vt_model.specs.Fits.{FitsAttribute, FitsReference}
use Rattle.vt_model.specs.Valid.{IsValid}
use Rattle.vt_model.specs.Assigning.{value_order}
use Rattle.vt_model.specs.declared.model.AttributeValue.{AttributeValue}
use Rattle.vt_model.specs.declared.model.Link.{Link}
use Rattle.vt_model.proofs.BaseLemmas.{IsStrictlySortedBy-chosen, Ascends-class_rows, Ascends-attribute_rows, Ascends-reference_rows}
use Rattle.vt_store.specs.Edits.{same_value, same_link, without, edit_of}
use Rattle.vt_change.specs.declared.telling.Told.{Told}
use Rattle.vt_change.specs.Inside.Telling.{object_rows, value_rows, link_rows, whole_rows, turned, change_at, Turns, HasPlaces, Tells, AreNet, IsTold}
use Rattle.vt_change.specs.Inside.Working.{AreKnown}
use Rattle.vt_change.proofs.FurtherNet.{net-further}
use Rattle.vt_change.proofs.RowLemmas.{without-value_rows, without-whole_rows, without-link_rows, without-object_rows, one_after, one_before}

-- ---- all values ascend

less_numbers : (m n : ℕ) → nat_cmp m n ≡ Less → int_cmp (pos m) (pos n) ≡ Less
less_numbers m n below = grind (arith, nat_tests)

less_behind : (first : Ordering) (m n : ℕ) (rest : Ordering) → ordering_then first (nat_cmp m n) ≡ Less → ordering_then first (ordering_then (int_cmp (pos m) (pos n)) rest) ≡ Less
less_behind Less m n rest below = refl
less_behind Equal m n rest below = rw (less_numbers m n below) refl
less_behind Greater m n rest below = below

Ascends-whole_rows : (values : List AttributeValue) → IsStrictlySortedBy value_order values → Ascends (whole_rows values)
Ascends-whole_rows values rise = subst (λ ts. Ascends (whole_rows ts)) (filter-all (λ t. true) values (λ t there. refl))
    (IsStrictlySortedBy-chosen value_order tuple_cmp (λ t. true) (λ (t : AttributeValue). Obj t.object ∷ Int (pos t.attribute.0) ∷ t.value ∷ [])
    (λ t u _ _ below. less_behind (nat_cmp t.object.0 u.object.0) t.attribute.0 u.attribute.0 _ below) values rise)

-- ---- net changes at each number

module _ (start now later gone came : ℕ → List (List Value)) (start_rise : (n : ℕ) → Ascends (start n)) (rise : (n : ℕ) → Ascends (now n)) (later_rise : (n : ℕ) → Ascends (later n))
    (gone_is : (n : ℕ) → gone n ≡ changes.without (later n) (now n)) (came_is : (n : ℕ) → came n ≡ changes.without (now n) (later n)) where
  AreNet-turned : (old new : List Delta) → Turns gone came old new → AreNet start now old → AreNet start later new
  AreNet-turned old new turns is n below =
      let within : n < length old = let e = turns.count in omega arith in
      turns.each n within
      ∙ ap (turned (gone n) (came n)) (is n within)
      ∙ ap₂ (λ out more. turned out more (net (start n) (now n))) (gone_is n) (came_is n)
      ∙ net-further (start n) (start_rise n) (now n) (later n) (rise n) (later_rise n)

-- ---- a further edit

module _ (meta : Metamodel) (start g after : Model) (begun : IsValid meta start) (valid : IsValid meta g) (still : IsValid meta after) (known : AreKnown g after) where
  pub IsTold-tells : (old new : Told) → IsTold meta start g old → Tells meta (edit_of g after) old new → IsTold meta start after new
  IsTold-tells old new told tells = record {
    counts = record {
      classes = tells.classes.count ∙ told.counts.classes;
      attributes = tells.attributes.count ∙ told.counts.attributes;
      references = tells.references.count ∙ told.counts.references;
    };
    classes = AreNet-turned (object_rows meta start.live) (object_rows meta g.live) (object_rows meta after.live) (object_rows meta (edit_of g after).live.removed) (object_rows meta (edit_of g after).live.added)
        (λ n. Ascends-class_rows meta start (record { 0 = n }) begun.objects_rise) (λ n. Ascends-class_rows meta g (record { 0 = n }) valid.objects_rise) (λ n. Ascends-class_rows meta after (record { 0 = n }) still.objects_rise)
        (without-object_rows meta g.live after.live (one_before meta g after valid known)) (without-object_rows meta after.live g.live (one_after meta g after valid known))
        old.delta.classes new.delta.classes tells.classes told.classes;
    attributes = AreNet-turned (value_rows start.values) (value_rows g.values) (value_rows after.values) (value_rows (edit_of g after).values.removed) (value_rows (edit_of g after).values.added)
        (λ n. Ascends-attribute_rows start (record { 0 = n }) begun.values_rise) (λ n. Ascends-attribute_rows g (record { 0 = n }) valid.values_rise) (λ n. Ascends-attribute_rows after (record { 0 = n }) still.values_rise)
        (without-value_rows g.values after.values) (without-value_rows after.values g.values)
        old.delta.attributes new.delta.attributes tells.attributes told.attributes;
    references = AreNet-turned (link_rows start.links) (link_rows g.links) (link_rows after.links) (link_rows (edit_of g after).links.removed) (link_rows (edit_of g after).links.added)
        (λ n. Ascends-reference_rows start (record { 0 = n }) begun.links_rise) (λ n. Ascends-reference_rows g (record { 0 = n }) valid.links_rise) (λ n. Ascends-reference_rows after (record { 0 = n }) still.links_rise)
        (without-link_rows g.links after.links) (without-link_rows after.links g.links)
        old.delta.references new.delta.references tells.references told.references;
    values = tells.values
        ∙ ap (turned (whole_rows (edit_of g after).values.removed) (whole_rows (edit_of g after).values.added)) told.values
        ∙ ap₂ (λ out more. turned out more (net (whole_rows start.values) (whole_rows g.values))) (without-whole_rows g.values after.values) (without-whole_rows after.values g.values)
        ∙ net-further (whole_rows start.values) (Ascends-whole_rows start.values begun.values_rise) (whole_rows g.values) (whole_rows after.values)
        (Ascends-whole_rows g.values valid.values_rise) (Ascends-whole_rows after.values still.values_rise);
  }

-- ---- places for the rows of an edit

below_some : {X : Type 0} (xs : List X) (n : ℕ) (x : X) → slice_get xs n ≡ Some x → n < length xs
below_some [] n x e = cc
below_some (y ∷ xs) zero x e = omega arith
below_some (y ∷ xs) (suc n) x e = let rest = below_some xs n x e in omega (arith, rest)

values_placed : (meta : Metamodel) (g : Model) (count : ℕ) → IsValid meta g → count ≡ length meta.attributes → All (λ (t : AttributeValue). t.attribute.0 < count) g.values
values_placed meta g count valid is = All-weaker (FitsAttribute meta g.live) (λ t. t.attribute.0 < count)
    (λ t fits. subst (λ n. t.attribute.0 < n) (sym is) (below_some meta.attributes t.attribute.0 fits.info fits.declared)) g.values valid.values_fit

links_placed : (meta : Metamodel) (g : Model) (count : ℕ) → IsValid meta g → count ≡ length meta.references → All (λ (l : Link). l.reference.0 < count) g.links
links_placed meta g count valid is = All-weaker (FitsReference meta g.live) (λ l. l.reference.0 < count)
    (λ l fits. subst (λ n. l.reference.0 < n) (sym is) (below_some meta.references l.reference.0 fits.info fits.declared)) g.links valid.links_fit

-- what one list has without another
fewer : {T : Type 0} (same : T → T → Bool) (P : T → Type 0) (others xs : List T) → All P xs → All P (without same others xs)
fewer same P others xs all = All-filter (λ x. not (list_any (same x) others)) P xs all

pub HasPlaces-edit : (meta : Metamodel) (g after : Model) (told : Told) → IsValid meta g → IsValid meta after → HasCounts (counts_of meta) told.delta → HasPlaces meta (edit_of g after) told
HasPlaces-edit meta g after told valid still counts = record {
  classes = counts.classes;
  values_added = fewer same_value (λ t. t.attribute.0 < length told.delta.attributes) g.values after.values (values_placed meta after (length told.delta.attributes) still counts.attributes);
  values_removed = fewer same_value (λ t. t.attribute.0 < length told.delta.attributes) after.values g.values (values_placed meta g (length told.delta.attributes) valid counts.attributes);
  links_added = fewer same_link (λ l. l.reference.0 < length told.delta.references) g.links after.links (links_placed meta after (length told.delta.references) still counts.references);
  links_removed = fewer same_link (λ l. l.reference.0 < length told.delta.references) after.links g.links (links_placed meta g (length told.delta.references) valid counts.references);
}

-- ---- nothing was told

none_at : (count n : ℕ) → slice_index_or (replicate count no_change) n no_change ≡ no_change
none_at zero n = refl
none_at (suc count) zero = refl
none_at (suc count) (suc n) = none_at count n

AreNet-none : (rows : ℕ → List (List Value)) (deltas : List Delta) (count : ℕ) → changes_of deltas ≡ replicate count no_change → AreNet rows rows deltas
AreNet-none rows deltas count is n below = ap (λ cs. slice_index_or cs n no_change) is ∙ none_at count n ∙ sym (net-itself (rows n))

-- ---- the change of all rows

change_at-got : (deltas : List Delta) (n : ℕ) (delta : Delta) → slice_get deltas n ≡ Some delta → (n < length deltas) × (change_at deltas n ≡ change_of delta)
change_at-got [] n delta e = cc
change_at-got (d ∷ deltas) zero delta e = (omega arith, ap change_of (the d delta e))
  where
    the : (d delta : Delta) → Some d ≡ Some delta → d ≡ delta
    the d delta e = cc
change_at-got (d ∷ deltas) (suc n) delta e = let rest = change_at-got deltas n delta e in (let below = rest.0 in omega (arith, below), rest.1)

AreEach-net : (before after : ℕ → List (List Value)) (deltas : List Delta) → AreNet before after deltas → AreEach (λ n delta. change_of delta ≡ net (before n) (after n)) deltas
AreEach-net before after deltas are n delta at = let got = change_at-got deltas n delta at in sym got.1 ∙ are n got.0

pub IsNet-told : (meta : Metamodel) (before after : Model) (told : Told) → IsTold meta before after told → IsNet (base_of meta before) (base_of meta after) told.delta
IsNet-told meta before after told is = record {
  counts = is.counts;
  classes = AreEach-net (object_rows meta before.live) (object_rows meta after.live) told.delta.classes is.classes;
  attributes = AreEach-net (value_rows before.values) (value_rows after.values) told.delta.attributes is.attributes;
  references = AreEach-net (link_rows before.links) (link_rows after.links) told.delta.references is.references;
}

-- ---- at the beginning

pub IsTold-none : (meta : Metamodel) (g : Model) (told : Told) → changes_of told.delta.classes ≡ replicate (length meta.classes) no_change
    → changes_of told.delta.attributes ≡ replicate (length meta.attributes) no_change → changes_of told.delta.references ≡ replicate (length meta.references) no_change
    → change_of told.values ≡ no_change → IsTold meta g g told
IsTold-none meta g told classes attributes references values = record {
  counts = record {
    classes = count told.delta.classes (length meta.classes) classes;
    attributes = count told.delta.attributes (length meta.attributes) attributes;
    references = count told.delta.references (length meta.references) references;
  };
  classes = AreNet-none (object_rows meta g.live) told.delta.classes (length meta.classes) classes;
  attributes = AreNet-none (value_rows g.values) told.delta.attributes (length meta.attributes) attributes;
  references = AreNet-none (link_rows g.links) told.delta.references (length meta.references) references;
  values = values ∙ sym (net-itself (whole_rows g.values));
}
  where
    count : (deltas : List Delta) (n : ℕ) → changes_of deltas ≡ replicate n no_change → length deltas ≡ n
    count deltas n is = sym (length-map deltas change_of) ∙ ap (λ cs. length cs) is ∙ length-replicate n no_change
