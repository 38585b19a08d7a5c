-- Objects that were created go, and objects that were deleted come back.
use Rattle.std.proofs.Common.{◌≡◌, List, [], ◌∷◌, map, reverse, refl, sym, ap, subst, ◌∙◌, ◌⊎◌, inl, inr, Bool, true, false, not, arith}
use Rattle.std.specs.Prelude.{◌==◌, ◌||◌, Contains, filter, find, fold, Some}
use Rattle.std.specs.BTreeSet.{insert_key}
use Rattle.std.specs.Cmp.{IsTotalOrder}
use Rattle.std.specs.List.Sorted.{IsStrictlySortedBy}
use Rattle.std.specs.declared.cmp.Ordering.{Ordering}
use Rattle.std.specs.declared.cmp.Ordering.TheVariants.{Less, Equal}
use Rattle.std.proofs.lemmas.Bool.{both_ways, eqb-true, eq-eqb, false_from_ne_true}
use Rattle.std.proofs.lemmas.Bool.Decides.{nat_tests}
use Rattle.std.proofs.lemmas.Grind.{fold-append, reverse_onto}
use Rattle.std.proofs.lemmas.List.Sorted.{IsPermutation-reverse, IsPermutation-sym, Contains-permutation}
use Rattle.std.proofs.lemmas.Map.Keys.{sorted_tail}
use Rattle.vt_model.specs.Model.{Model}
use Rattle.vt_model.specs.Deleting.{gone_order}
use Rattle.vt_model.specs.Valid.{object_order}
use Rattle.vt_model.specs.declared.model.Object.{Object}
use Rattle.vt_model.specs.declared.model.GoneObject.{GoneObject}
use Rattle.vt_facts.proofs.MemberLemmas.{Contains-head, Contains-behind, Contains-find, find-some, Contains-from_map}
use Rattle.vt_facts.proofs.ChosenLemmas.{filter-agree}
use Rattle.vt_graph.specs.Held.{Buried}
use Rattle.vt_graph.specs.Passing.{with_raised}
use Rattle.vt_store.specs.Edits.{same_object, same_gone, without}
use Rattle.vt_store.specs.Inside.Kept.{gone_of, objects_of, raised_back}
use Rattle.vt_store.proofs.EditLemmas.{known, Contains-without, Contains-from_without}
use Rattle.vt_store.proofs.RisingLemmas.{inserted_is}
use Rattle.vt_store.proofs.SameLemmas.{Decides-same_object, Decides-same_gone}
use Rattle.vt_store.proofs.UndoneLemmas.{object_order_total, gone_order_total}
use Rattle.vt_store.proofs.Linking.Lists.{without-none, without-then}
use Rattle.vt_facts.proofs.RisingLemmas.{not_below_itself, first_below, tied_is}

-- ---- lists

-- the only item that passes is found
pub find_only : {X : Type 0} (p : X → Bool) (xs : List X) (x : X) → Contains xs x → p x ≡ true → ((y : X) → Contains xs y → p y ≡ true → y ≡ x) → find p xs ≡ Some x
find_only p xs x there passes only =
    let some = find-some p xs x there passes in
    let found = Contains-find p xs some.0 some.1 in
    some.1 ∙ ap Some (only some.0 found.0 found.1)

module _ {K : Type 0} (R : K → K → Ordering) where
  -- items that are put in, the last first
  abbrev pub insert_back : List K → List K → List K
  insert_back xs [] = xs
  insert_back xs (y ∷ ys) = insert_key R (insert_back xs ys) y

  -- as they are from the first to the last, where the list is turned
  insert_back-reverse : (xs ys : List K) → insert_back xs ys ≡ fold (insert_key R) xs (reverse ys)
  insert_back-reverse xs [] = refl
  insert_back-reverse xs (y ∷ ys) =
      ap (λ l. insert_key R l y) (insert_back-reverse xs ys)
      ∙ sym (ap (fold (insert_key R) xs) (reverse_onto ys y []) ∙ fold-append (insert_key R) xs (reverse ys) (y ∷ []))

  -- where they and what was there are all items of a list that rises, the outcome is that list
  pub inserted_back_is : IsTotalOrder R → (whole : List K) → IsStrictlySortedBy R whole → (xs ys : List K) → IsStrictlySortedBy R xs
      → ((z : K) → Contains xs z → Contains whole z) → ((z : K) → Contains ys z → Contains whole z) → ((z : K) → Contains whole z → Contains xs z ⊎ Contains ys z)
      → insert_back xs ys ≡ whole
  inserted_back_is total whole rise xs ys sorted old new all =
      insert_back-reverse xs ys
      ∙ inserted_is R total whole rise xs (reverse ys) sorted old
      (λ z there. new z (Contains-permutation (reverse ys) ys z (IsPermutation-sym ys (reverse ys) (IsPermutation-reverse ys)) there))
      (λ z there. elim (all z there) [ inl older ↦ inl older | inr newer ↦ inr (Contains-permutation ys (reverse ys) z (IsPermutation-reverse ys) newer) ])

-- ---- objects by number

object_order-tied : (o p : Object) → o.number.0 ≡ p.number.0 → object_order o p ≡ Equal
object_order-tied o p same = grind (arith, nat_tests)

gone_order-tied : (o p : GoneObject) → o.number.0 ≡ p.number.0 → gone_order o p ≡ Equal
gone_order-tied o p same = grind (arith, nat_tests)

-- of objects that rise one has a number
pub one_object : (objects : List Object) → IsStrictlySortedBy object_order objects → (o p : Object) → Contains objects o → Contains objects p → o.number.0 ≡ p.number.0 → o ≡ p
one_object objects rise o p one other same = tied_is object_order object_order_total objects rise o p one other (object_order-tied o p same)

pub one_gone : (gone : List GoneObject) → IsStrictlySortedBy gone_order gone → (o p : GoneObject) → Contains gone o → Contains gone p → o.number.0 ≡ p.number.0 → o ≡ p
one_gone gone rise o p one other same = tied_is gone_order gone_order_total gone rise o p one other (gone_order-tied o p same)

-- a test that is alone among others
or_none : (b : Bool) → (b || false) ≡ b
or_none true = refl
or_none false = refl

-- ---- an object that was created

-- it goes by its number
pub without_created : (objects : List Object) (o : Object) → IsStrictlySortedBy object_order objects → Contains objects o
    → filter (λ x. not (x.number.0 == o.number.0)) objects ≡ without same_object (o ∷ []) objects
without_created objects o rise one =
    filter-agree (λ x. not (x.number.0 == o.number.0)) (λ x. not (same_object x o || false)) objects (λ x there. ap not (same x there ∙ sym (or_none (same_object x o))))
  where
    same : (x : Object) → Contains objects x → (x.number.0 == o.number.0) ≡ same_object x o
    same x there = elim (known (x.number.0 == o.number.0)) [
      | inl is ↦ is ∙ sym ((Decides-same_object x o).1 (one_object objects rise x o there one (eqb-true x.number.0 o.number.0 is)))
      | inr differs ↦ differs ∙ sym (false_from_ne_true (same_object x o)
          (λ e. both_ways (x.number.0 == o.number.0) differs (eq-eqb x.number.0 o.number.0 (ap (λ y. y.number.0) ((Decides-same_object x o).0 e)))))
    ]

-- ---- objects that were deleted

-- the objects of the list were deleted
abbrev pub AreGone : Model → List Buried → Type 0
AreGone g deleted = (o : Object) → Contains (objects_of deleted) o → Contains g.gone (gone_of o)

module _ (g : Model) (gone_rise : IsStrictlySortedBy gone_order g.gone) where
  -- what is still deleted after some came back
  abbrev pub still_gone : List Buried → List GoneObject
  still_gone deleted = without same_gone (map gone_of (objects_of deleted)) g.gone

  -- of two objects that rise the first is not deleted no more where the other came back
  pub gone_first : (b : Buried) (bs : List Buried) → IsStrictlySortedBy object_order (objects_of (b ∷ bs)) → AreGone g (b ∷ bs) → Contains (still_gone bs) (gone_of b.object)
  gone_first b bs rise are = Contains-without same_gone Decides-same_gone (map gone_of (objects_of bs)) g.gone (gone_of b.object) (are b.object (Contains-head b.object (objects_of bs))) apart
    where
      apart : Contains (map gone_of (objects_of bs)) (gone_of b.object) → ⊥
      apart came =
          let of = Contains-from_map gone_of (objects_of bs) (gone_of b.object) came in
          let same : of.0.number.0 ≡ b.object.number.0 = ap (λ y. y.number.0) of.2 in
          let is = one_object (objects_of (b ∷ bs)) rise of.0 b.object (Contains-behind b.object of.0 (objects_of bs) of.1) (Contains-head b.object (objects_of bs)) same in
          not_below_itself object_order object_order_total b.object (subst (λ y. object_order b.object y ≡ Less) is (first_below object_order b.object (objects_of bs) rise of.0 of.1))

  -- so it is found by its number
  pub gone_at-first : (b : Buried) (bs : List Buried) → IsStrictlySortedBy object_order (objects_of (b ∷ bs)) → AreGone g (b ∷ bs)
      → find (λ y. y.number.0 == b.object.number.0) (still_gone bs) ≡ Some (gone_of b.object)
  gone_at-first b bs rise are =
      find_only (λ y. y.number.0 == b.object.number.0) (still_gone bs) (gone_of b.object) (gone_first b bs rise are) (eq-eqb b.object.number.0 b.object.number.0 refl)
      (λ y there is. one_gone g.gone gone_rise y (gone_of b.object) (Contains-from_without same_gone Decides-same_gone (map gone_of (objects_of bs)) g.gone y there).0
      (are b.object (Contains-head b.object (objects_of bs))) (eqb-true y.number.0 b.object.number.0 is))

  -- it is deleted no more
  gone_less : (b : Buried) (bs : List Buried) → AreGone g (b ∷ bs) → filter (λ y. not (y.number.0 == b.object.number.0)) (still_gone bs) ≡ still_gone (b ∷ bs)
  gone_less b bs are =
      filter-agree (λ y. not (y.number.0 == b.object.number.0)) (λ y. not (same_gone y (gone_of b.object))) (still_gone bs) (λ y there. ap not (same y there))
      ∙ without-then same_gone (gone_of b.object) (map gone_of (objects_of bs)) g.gone
    where
      same : (y : GoneObject) → Contains (still_gone bs) y → (y.number.0 == b.object.number.0) ≡ same_gone y (gone_of b.object)
      same y there = elim (known (y.number.0 == b.object.number.0)) [
        | inl is ↦ is ∙ sym ((Decides-same_gone y (gone_of b.object)).1 (one_gone g.gone gone_rise y (gone_of b.object)
            (Contains-from_without same_gone Decides-same_gone (map gone_of (objects_of bs)) g.gone y there).0 (are b.object (Contains-head b.object (objects_of bs)))
            (eqb-true y.number.0 b.object.number.0 is)))
        | inr differs ↦ differs ∙ sym (false_from_ne_true (same_gone y (gone_of b.object))
            (λ e. both_ways (y.number.0 == b.object.number.0) differs (eq-eqb y.number.0 b.object.number.0 (ap (λ z. z.number.0) ((Decides-same_gone y (gone_of b.object)).0 e)))))
      ]

  -- the model in which they live again
  abbrev pub living : List Buried → Model
  living deleted = record g { live = insert_back object_order g.live (objects_of deleted); gone = still_gone deleted }

  pub raised_back_is : (deleted : List Buried) → IsStrictlySortedBy object_order (objects_of deleted) → AreGone g deleted → raised_back g deleted ≡ living deleted
  raised_back_is [] rise are = ap (λ gs. record g { gone = gs }) (sym (without-none same_gone g.gone))
  raised_back_is (b ∷ bs) rise are =
      ap (λ h. with_raised h b.object) (raised_back_is bs (sorted_tail object_order b.object (objects_of bs) rise) (λ o later. are o (Contains-behind b.object o (objects_of bs) later)))
      ∙ ap (λ gs. record g { live = insert_back object_order g.live (objects_of (b ∷ bs)); gone = gs }) (gone_less b bs are)
