-- The live objects of a model, from a number on.
use Rattle.std.proofs.Common.{◌≡◌, ◌≢◌, ℕ, ◌+◌, ◌<◌, ◌≤◌, ◌==◌, List, [], ◌∷◌, filter, refl, sym, ap, subst, ◌∙◌, arith, cond, false, ◌⊎◌, inl, inr, eq-eqb}
use Rattle.std.specs.Prelude.{nat_le, Contains, Option, Some, None, option_map, unwrap_or}
use Rattle.std.specs.List.Sorted.{IsStrictlySortedBy}
use Rattle.std.proofs.lemmas.Bool.{le-leb, lt-leb}
use Rattle.std.proofs.lemmas.Bool.Decides.{nat_tests}
use Rattle.std.proofs.lemmas.List.Elements.{All-contains}
use Rattle.serde_json.specs.Data.{Items, no_items, item}
use Rattle.vt_base.specs.declared.numbers.ClassId.{ClassId}
use Rattle.vt_model.specs.Metamodel.{Metamodel}
use Rattle.vt_model.specs.Model.{Model}
use Rattle.vt_model.specs.Valid.{IsValid, object_order}
use Rattle.vt_model.specs.declared.model.Object.{Object}
use Rattle.vt_facts.proofs.MemberLemmas.{Contains-nil, Contains-cons_cases, Contains-find, find-some}
use Rattle.vt_slots.proofs.PlaceLemmas.{below}
use Rattle.vt_graph.specs.Asked.{live_at, gone_at, class_at, or_gone}
use Rattle.vt_facts.proofs.RisingLemmas.{first_below, rest_rises}
use Rattle.vt_graph.proofs.SlotLemmas.{equal_numbers}
use Rattle.vt_facts.proofs.ChosenLemmas.{filter-all, filter-agree, filter-none}
use Rattle.vt_model_json.specs.Dump.{object_data, objects_data}
use Rattle.vt_model_json.specs.Inside.Shown.{shown_name}

-- the objects with this number or a greater one
abbrev pub objects_from : ℕ → List Object → List Object
objects_from n os = filter (λ o. nat_le n o.number.0) os

-- ---- in a list

-- two neighbours are told apart by one number alone
same_test : (n m : ℕ) → m ≢ n → nat_le n m ≡ nat_le (n + 1) m
same_test n m differ = grind (arith, nat_tests)

-- a number that no object has adds none
from_none : (n : ℕ) (os : List Object) → ((o : Object) → Contains os o → o.number.0 ≢ n) → objects_from n os ≡ objects_from (n + 1) os
from_none n os none = filter-agree (λ o. nat_le n o.number.0) (λ o. nat_le (n + 1) o.number.0) os (λ o there. same_test n o.number.0 (none o there))

-- an object with the number comes first, where numbers rise
from_some : (n : ℕ) (os : List Object) → IsStrictlySortedBy object_order os → (x : Object) → Contains os x → x.number.0 ≡ n → objects_from n os ≡ x ∷ objects_from (n + 1) os
from_some n [] rise x there is = absurd (Contains-nil x there)
from_some n (y ∷ ys) rise x there is = by (λ later. from_some n ys (rest_rises object_order y ys rise) x later is) (Contains-cons_cases y x ys there)
  where
    above : (z : Object) → Contains ys z → y.number.0 < z.number.0
    above z later = below y.number.0 z.number.0 (first_below object_order y ys rise z later)

    -- the first one has the number
    first : y.number.0 ≡ n → objects_from n (y ∷ ys) ≡ y ∷ objects_from (n + 1) (y ∷ ys)
    first number =
        ap (λ t. cond t (y ∷ objects_from n ys) (objects_from n ys)) (le-leb n y.number.0 (omega (arith, number)))
        ∙ ap (λ rest. y ∷ rest) (from_none n ys (λ z later same. let up = above z later in omega (arith, number, same, up)))
        ∙ ap (λ t. y ∷ cond t (y ∷ objects_from (n + 1) ys) (objects_from (n + 1) ys)) (sym (lt-leb (n + 1) y.number.0 (omega (arith, number))))

    by : (Contains ys x → objects_from n ys ≡ x ∷ objects_from (n + 1) ys) → (y ≡ x) ⊎ Contains ys x → objects_from n (y ∷ ys) ≡ x ∷ objects_from (n + 1) (y ∷ ys)
    by rest (inl same) = first (ap (λ o. o.number.0) same ∙ is) ∙ ap (λ o. o ∷ objects_from (n + 1) (y ∷ ys)) same
    by rest (inr later) =
        let less : y.number.0 < n = subst (λ m. y.number.0 < m) is (above x later) in
        ap (λ t. cond t (y ∷ objects_from n ys) (objects_from n ys)) (lt-leb n y.number.0 less)
        ∙ rest later
        ∙ ap (λ t. x ∷ cond t (y ∷ objects_from (n + 1) ys) (objects_from (n + 1) ys)) (sym (lt-leb (n + 1) y.number.0 (omega (arith, less))))

-- ---- in a model

module _ (meta : Metamodel) (g : Model) where
  -- the dump's items of the objects from a number on
  abbrev pub items_from : ℕ → Items
  items_from n = objects_data meta g (objects_from n g.live)

  -- from 0 on there are all
  pub items_first : items_from 0 ≡ objects_data meta g g.live
  items_first = ap (objects_data meta g) (filter-all (λ o. nat_le 0 o.number.0) g.live (λ o there. le-leb 0 o.number.0 (omega arith)))

  -- a number without a class is no live object's
  pub item_absent : (n : ℕ) → class_at g (record { 0 = n }) ≡ None → items_from n ≡ items_from (n + 1)
  item_absent n e = by (live_at g (record { 0 = n })) refl e
    where
      by : (r : Option Object) → live_at g (record { 0 = n }) ≡ r → option_map (λ o. o.class) r ≡ None → items_from n ≡ items_from (n + 1)
      by (Some x) found e = cc
      by None found e = ap (objects_data meta g) (from_none n g.live (λ o there is. let some = find-some (λ x. x.number.0 == n) g.live o there (eq-eqb o.number.0 n is) in cc))

  module _ (valid : IsValid meta g) where
    -- from the next number on there is none
    pub items_last : (n : ℕ) → g.next ≤ n → items_from n ≡ no_items
    items_last n past = ap (objects_data meta g) (filter-none (λ o. nat_le n o.number.0) g.live above)
      where
        above : (o : Object) → Contains g.live o → nat_le n o.number.0 ≡ false
        above o there =
            let less = All-contains (λ o. o.number.0 < g.next) g.live o valid.numbers_below there in
            lt-leb n o.number.0 (omega (arith, less, past))

    -- a number with a class is that of the live object which comes next
    pub item_there : (n : ℕ) (class : ClassId) → class_at g (record { 0 = n }) ≡ Some class
        → items_from n ≡ item (object_data meta g (record { number = record { 0 = n }; name = shown_name g (record { 0 = n }); class = class })) (items_from (n + 1))
    item_there n class e = by (live_at g (record { 0 = n })) refl e
      where
        by : (r : Option Object) → live_at g (record { 0 = n }) ≡ r → option_map (λ o. o.class) r ≡ Some class
            → items_from n ≡ item (object_data meta g (record { number = record { 0 = n }; name = shown_name g (record { 0 = n }); class = class })) (items_from (n + 1))
        by None found e = cc
        by (Some x) found e =
            let there = Contains-find (λ o. o.number.0 == n) g.live x found in
            let number : x.number.0 ≡ n = equal_numbers x.number.0 n there.1 in
            let name : x.name ≡ shown_name g (record { 0 = n }) = sym (ap (λ r. unwrap_or (or_gone r (gone_at g (record { 0 = n }))) []) found) in
            let of : x.class ≡ class = cc in
            let is : x ≡ record { number = record { 0 = n }; name = shown_name g (record { 0 = n }); class = class } =
            λ i. record { number = record { 0 = number i }; name = name i; class = of i } in
            ap (objects_data meta g) (from_some n g.live valid.objects_rise x there.0 number) ∙ ap (λ o. item (object_data meta g o) (items_from (n + 1))) is
