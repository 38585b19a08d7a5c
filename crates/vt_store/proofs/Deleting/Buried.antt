-- What is left of a model where objects are buried one by one.
use Rattle.std.proofs.Common.{◌≡◌, List, [], ◌∷◌, refl, sym, ap, subst, ◌∙◌, Bool, true}
use Rattle.std.specs.Prelude.{◌&&◌, ◌==◌, not, filter, fold, Contains, Some}
use Rattle.std.specs.List.{list_any, filter_map, cons_option}
use Rattle.std.specs.List.Sorted.{IsStrictlySortedBy}
use Rattle.std.specs.Ordering.{nat_cmp}
use Rattle.std.specs.declared.cmp.Ordering.TheVariants.{Equal}
use Rattle.std.proofs.lemmas.Bool.{not_from_false, eqb-true, eq-eqb, ne_eqb}
use Rattle.std.proofs.lemmas.Cmp.{nat_cmp_total, tied_itself}
use Rattle.std.proofs.lemmas.List.Kept.{IsStrictlySortedBy-filter}
use Rattle.std.proofs.lemmas.Map.Keys.{sorted_tail}
use Rattle.vt_base.specs.declared.numbers.ObjId.{ObjId}
use Rattle.vt_model.specs.Model.{Model}
use Rattle.vt_model.specs.Deleting.{with_gone}
use Rattle.vt_model.specs.Valid.{object_order}
use Rattle.vt_model.specs.declared.model.Object.{Object}
use Rattle.vt_facts.proofs.MemberLemmas.{Contains-head, Contains-behind, Contains-filter, Contains-from_filter, Contains-find, find-some}
use Rattle.vt_model.proofs.Valid.Containment.{same_object}
use Rattle.vt_store.specs.Inside.Levels.{numbers, object_at, without_object, buried}
use Rattle.vt_store.proofs.Deleting.Taken.{same_test, not_either, list_any-there, list_any-item}
use Rattle.vt_facts.proofs.RisingLemmas.{tied_is, first_below}
use Rattle.vt_facts.proofs.ChosenLemmas.{filter-all, filter-filter, filter-agree}
use Rattle.vt_store.proofs.UndoneLemmas.{object_order_total}

-- objects of one number are tied
tied_numbers : (y z : Object) → y.number.0 ≡ z.number.0 → object_order y z ≡ Equal
tied_numbers y z same = subst (λ n. nat_cmp y.number.0 n ≡ Equal) same (tied_itself nat_cmp_total y.number.0)

-- among live objects that rise, a number finds its object
pub object_at-live : (g : Model) → IsStrictlySortedBy object_order g.live → (y : Object) → Contains g.live y → object_at g y.number ≡ Some y
object_at-live g rise y there =
    let found = find-some (λ z. z.number.0 == y.number.0) g.live y there (eq-eqb y.number.0 y.number.0 refl) in
    let was = Contains-find (λ z. z.number.0 == y.number.0) g.live found.0 found.1 in
    found.1 ∙ ap Some (tied_is object_order object_order_total g.live rise found.0 y was.0 there (tied_numbers found.0 y (eqb-true found.0.number.0 y.number.0 was.1)))

-- so several live objects are found by their numbers
pub objects_at-live : (g : Model) → IsStrictlySortedBy object_order g.live → (ys : List Object) → ((y : Object) → Contains ys y → Contains g.live y) → filter_map (object_at g) (numbers ys) ≡ ys
objects_at-live g rise [] live = refl
objects_at-live g rise (y ∷ ys) live =
    ap (λ found. cons_option found (filter_map (object_at g) (numbers ys))) (object_at-live g rise y (live y (Contains-head y ys)))
    ∙ ap (λ zs. y ∷ zs) (objects_at-live g rise ys (λ z there. live z (Contains-behind y z ys there)))

-- of objects that rise, a later one has another number
pub other_number : (y z : Object) (ys : List Object) → IsStrictlySortedBy object_order (y ∷ ys) → Contains ys z → z.number.0 ≡ y.number.0 → ⊥
other_number y z ys rise there same =
    let below = first_below object_order y ys rise z there in
    let tied = tied_numbers y z (sym same) in
    cc

-- one of several objects has the number
abbrev is_one_of : List Object → Object → Bool
is_one_of ys z = list_any (λ y. z.number.0 == y.number.0) ys

-- objects that are buried one by one are all that went, in their order
buried_each : (g : Model) (ys : List Object) → IsStrictlySortedBy object_order g.live → IsStrictlySortedBy object_order ys → ((y : Object) → Contains ys y → Contains g.live y)
    → fold buried g (numbers ys) ≡ record g { live = filter (λ z. not (is_one_of ys z)) g.live; gone = fold with_gone g.gone ys }
buried_each g [] rise sorted live = ap (λ l. record g { live = l }) (sym (filter-all (λ z. true) g.live (λ _ _. refl)))
buried_each g (y ∷ ys) rise sorted live =
    ap (λ found. fold buried (without_object g y.number found) (numbers ys)) (object_at-live g rise y (live y (Contains-head y ys)))
    ∙ buried_each (without_object g y.number (Some y)) ys
    (IsStrictlySortedBy-filter object_order (λ z. not (z.number.0 == y.number.0)) g.live rise) (sorted_tail object_order y ys sorted) stays
    ∙ ap (λ l. record g { live = l; gone = fold with_gone g.gone (y ∷ ys) })
    (filter-filter (λ z. not (is_one_of ys z)) (λ z. not (z.number.0 == y.number.0)) g.live
    ∙ filter-agree (λ z. not (z.number.0 == y.number.0) && not (is_one_of ys z)) (λ z. not (is_one_of (y ∷ ys) z)) g.live
    (λ z _. not_either (z.number.0 == y.number.0) (is_one_of ys z)))
  where
    stays : (z : Object) → Contains ys z → Contains (filter (λ z. not (z.number.0 == y.number.0)) g.live) z
    stays z there = Contains-filter (λ z. not (z.number.0 == y.number.0)) g.live z (live z (Contains-behind y z ys there))
        (not_from_false (z.number.0 == y.number.0) (ne_eqb z.number.0 y.number.0 (other_number y z ys sorted there)))

-- the live objects that pass a test go
pub buried_is : (g : Model) (test : ObjId → Bool) → IsStrictlySortedBy object_order g.live
    → fold buried g (numbers (filter (λ y. test y.number) g.live))
    ≡ record g { live = filter (λ y. not (test y.number)) g.live; gone = fold with_gone g.gone (filter (λ y. test y.number) g.live) }
buried_is g test rise =
    buried_each g go rise (IsStrictlySortedBy-filter object_order (λ y. test y.number) g.live rise) (λ y there. (Contains-from_filter (λ y. test y.number) g.live y there).0)
    ∙ ap (λ l. record g { live = l; gone = fold with_gone g.gone go })
    (filter-agree (λ z. not (is_one_of go z)) (λ y. not (test y.number)) g.live
    (λ z there. ap not (same_test (is_one_of go z) (test z.number) (passes z) (stands z there))))
  where
    go : List Object
    go = filter (λ y. test y.number) g.live

    passes : (z : Object) → is_one_of go z ≡ true → test z.number ≡ true
    passes z any =
        let by = list_any-item (λ y. z.number.0 == y.number.0) go any in
        ap test (same_object z.number by.0.number (eqb-true z.number.0 by.0.number.0 by.2)) ∙ (Contains-from_filter (λ y. test y.number) g.live by.0 by.1).1

    stands : (z : Object) → Contains g.live z → test z.number ≡ true → is_one_of go z ≡ true
    stands z there passed = list_any-there (λ y. z.number.0 == y.number.0) go z (Contains-filter (λ y. test y.number) g.live z there passed) (eq-eqb z.number.0 z.number.0 refl)
