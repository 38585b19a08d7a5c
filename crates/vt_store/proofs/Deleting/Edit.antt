-- What deleting an object puts into a model and takes out of it.
use Rattle.std.proofs.Common.{◌≡◌, List, [], ◌∷◌, map, refl, sym, ap, subst, ◌∙◌, Bool, true, false, ◌⊎◌, inl, inr}
use Rattle.std.specs.Prelude.{not, filter, fold, Contains}
use Rattle.std.specs.List.{list_any}
use Rattle.std.specs.List.Sorted.{IsStrictlySortedBy}
use Rattle.std.specs.BTreeSet.{insert_key}
use Rattle.std.specs.declared.cmp.Ordering.TheVariants.{Equal}
use Rattle.std.proofs.lemmas.Bool.{not_from_false, not_from_true, not-true, false_from_ne_true, false≢true}
use Rattle.std.proofs.lemmas.List.Kept.{IsStrictlySortedBy-filter}
use Rattle.std.proofs.lemmas.Map.Keys.{sorted_tail}
use Rattle.std.proofs.lemmas.Map.Lookups.{exact_unsigned}
use Rattle.vt_base.specs.declared.numbers.ObjId.{ObjId}
use Rattle.vt_model.specs.Metamodel.{Metamodel}
use Rattle.vt_model.specs.Model.{Model}
use Rattle.vt_model.specs.Containing.{is_inside}
use Rattle.vt_model.specs.Deleting.{gone_order, with_gone, deleted}
use Rattle.vt_model.specs.Valid.{object_order, IsValid}
use Rattle.vt_model.specs.declared.model.Object.{Object}
use Rattle.vt_model.specs.declared.model.GoneObject.{GoneObject}
use Rattle.vt_facts.proofs.MemberLemmas.{Contains-nil, Contains-head, Contains-behind, Contains-cons_cases, Contains-filter, Contains-from_filter, Contains-insert_key_cases, Contains-from_map}
use Rattle.vt_facts.proofs.ChosenLemmas.{filter-agree, filter-none}
use Rattle.vt_model.proofs.Valid.Containment.{same_object as one_number}
use Rattle.vt_model.proofs.Valid.Gone.{gone_of, IsStrictlySortedBy-with_gone}
use Rattle.vt_store.specs.Edits.{without, net, edit_of, same_object, same_gone, same_value, same_link}
use Rattle.vt_store.specs.Inside.Levels.{objects_inside, touches}
use Rattle.vt_store.proofs.RisingLemmas.{Contains-inserted_cases, Contains-inserted_old}
use Rattle.vt_store.proofs.Deleting.ListLemmas.{rises-map}
use Rattle.vt_store.proofs.Deleting.Taken.{same_test, list_any-there, list_any-item}
use Rattle.vt_store.proofs.Deleting.Buried.{other_number}
use Rattle.vt_store.proofs.Deleting.Same.{TellsEqual, TellsEqual-object, TellsEqual-gone, TellsEqual-value, TellsEqual-link}
use Rattle.vt_facts.proofs.RisingLemmas.{same_items, Contains-insert_key_there}
use Rattle.vt_store.proofs.UndoneLemmas.{gone_order_total}

-- ---- a list that a filter leaves

not_not : (b : Bool) → not (not b) ≡ b
not_not true = refl
not_not false = refl

module _ {T : Type 0} (same : T → T → Bool) (tells : TellsEqual same) where
  -- an item is one of a list where the test of all says so
  list_any-same : (xs : List T) (x : T) → list_any (same x) xs ≡ true → Contains xs x
  list_any-same xs x any = let by = list_any-item (same x) xs any in subst (Contains xs) (sym (tells.exact x by.0 by.2)) by.1

  same-list_any : (xs : List T) (x : T) → Contains xs x → list_any (same x) xs ≡ true
  same-list_any xs x there = list_any-there (same x) xs x there (tells.itself x)

  -- nothing is new where all stood before
  without-all : (others xs : List T) → ((x : T) → Contains xs x → Contains others x) → without same others xs ≡ []
  without-all others xs stood = filter-none (λ x. not (list_any (same x) others)) xs (λ x there. not_from_true (list_any (same x) others) (same-list_any others x (stood x there)))

  -- what passes a test went
  pub net-filter : (test : T → Bool) (before : List T) → net same before (filter (λ x. not (test x)) before) ≡ record { added = []; removed = filter test before }
  net-filter test before = λ i. record {
    added = without-all before after (λ x there. (Contains-from_filter (λ y. not (test y)) before x there).0) i;
    removed = filter-agree (λ x. not (list_any (same x) after)) test before
        (λ x there. ap not (same_test (list_any (same x) after) (not (test x))
        (λ any. (Contains-from_filter (λ y. not (test y)) before x (list_any-same after x any)).1)
        (λ kept. same-list_any after x (Contains-filter (λ y. not (test y)) before x there kept))) ∙ not_not (test x)) i;
  }
    where
      after : List T
      after = filter (λ x. not (test x)) before

  -- where what goes is what passes a test, what doesn't is left
  pub without-filter : (test : T → Bool) (before : List T) → without same (filter test before) before ≡ filter (λ x. not (test x)) before
  without-filter test before =
      ap (λ l. without same l before) (filter-agree test (λ x. not (not (test x))) before (λ x _. sym (not_not (test x))))
      ∙ ap (λ change. change.removed) (net-filter (λ x. not (test x)) before)

-- ---- the deleted objects

-- objects are buried as they are put into the list of the deleted
with_gone-inserted : (gone : List GoneObject) (ys : List Object) → fold with_gone gone ys ≡ fold (insert_key gone_order) gone (map gone_of ys)
with_gone-inserted gone [] = refl
with_gone-inserted gone (y ∷ ys) = with_gone-inserted (with_gone gone y) ys

-- no deleted object has the number of one of these
abbrev HaveOtherNumbers : List GoneObject → List Object → Type 0
HaveOtherNumbers gone ys = (y : Object) (z : GoneObject) → Contains ys y → Contains gone z → y.number ≡ z.number → ⊥

-- what the order of the deleted doesn't tell apart has one number
gone_tied : (y z : GoneObject) → gone_order y z ≡ Equal → y.number ≡ z.number
gone_tied y z tied = one_number y.number z.number (exact_unsigned y.number.0 z.number.0 tied)

-- after the first came, none has the number of a later one
other_numbers-more : (gone : List GoneObject) (y : Object) (ys : List Object) → IsStrictlySortedBy object_order (y ∷ ys) → HaveOtherNumbers gone (y ∷ ys) → HaveOtherNumbers (with_gone gone y) ys
other_numbers-more gone y ys rise apart w z one other same = elim (Contains-insert_key_cases gone_order (gone_of y) gone z other) [
  | inl old ↦ apart w z (Contains-behind y w ys one) old same
  | inr is ↦ other_number y w ys rise one (ap (λ n. n.0) (same ∙ ap (λ x. x.number) (sym is)))
]

-- each of them stands among the deleted
pub Contains-with_gone : (gone : List GoneObject) (ys : List Object) → IsStrictlySortedBy object_order ys → HaveOtherNumbers gone ys
    → (z : GoneObject) → Contains (map gone_of ys) z → Contains (fold with_gone gone ys) z
Contains-with_gone gone [] rise apart z there = absurd (Contains-nil z there)
Contains-with_gone gone (y ∷ ys) rise apart z there =
    by (Contains-with_gone (with_gone gone y) ys (sorted_tail object_order y ys rise) (other_numbers-more gone y ys rise apart) z) (Contains-cons_cases (gone_of y) z (map gone_of ys) there)
  where
    first : Contains (fold with_gone (with_gone gone y) ys) (gone_of y)
    first = subst (λ l. Contains l (gone_of y)) (sym (with_gone-inserted (with_gone gone y) ys))
        (Contains-inserted_old gone_order (with_gone gone y) (map gone_of ys) (gone_of y)
        (Contains-insert_key_there gone_order (gone_of y) gone (λ x stood tied. absurd (apart y x (Contains-head y ys) stood (gone_tied (gone_of y) x tied)))))

    by : (Contains (map gone_of ys) z → Contains (fold with_gone (with_gone gone y) ys) z) → (gone_of y ≡ z) ⊎ Contains (map gone_of ys) z → Contains (fold with_gone (with_gone gone y) ys) z
    by rest (inl is) = subst (Contains (fold with_gone (with_gone gone y) ys)) is first
    by rest (inr later) = rest later

-- they came, and nothing went
net-with_gone : (gone : List GoneObject) (ys : List Object) → IsStrictlySortedBy gone_order gone → IsStrictlySortedBy object_order ys → HaveOtherNumbers gone ys
    → net same_gone gone (fold with_gone gone ys) ≡ record { added = map gone_of ys; removed = [] }
net-with_gone gone ys rise sorted apart = λ i. record {
  added = same_items gone_order gone_order_total (without same_gone gone after) (map gone_of ys)
      (IsStrictlySortedBy-filter gone_order (λ x. not (list_any (same_gone x) gone)) after after_rises)
      (rises-map object_order gone_order gone_of (λ x y below. below) ys sorted) there back i;
  removed = without-all same_gone TellsEqual-gone after gone stays i;
}
  where
    after : List GoneObject
    after = fold with_gone gone ys

    after_rises : IsStrictlySortedBy gone_order after
    after_rises = IsStrictlySortedBy-with_gone gone ys rise

    stays : (z : GoneObject) → Contains gone z → Contains after z
    stays z stood = subst (λ l. Contains l z) (sym (with_gone-inserted gone ys)) (Contains-inserted_old gone_order gone (map gone_of ys) z stood)

    there : (z : GoneObject) → Contains (without same_gone gone after) z → Contains (map gone_of ys) z
    there z stands =
        let was = Contains-from_filter (λ x. not (list_any (same_gone x) gone)) after z stands in
        elim (Contains-inserted_cases gone_order gone (map gone_of ys) z (subst (λ l. Contains l z) (with_gone-inserted gone ys) was.0)) [
          | inl old ↦ absurd (false≢true (sym (not-true (list_any (same_gone z) gone) was.1) ∙ same-list_any same_gone TellsEqual-gone gone z old))
          | inr new ↦ new
        ]

    back : (z : GoneObject) → Contains (map gone_of ys) z → Contains (without same_gone gone after) z
    back z stands =
        let by = Contains-from_map gone_of ys z stands in
        Contains-filter (λ x. not (list_any (same_gone x) gone)) after z (Contains-with_gone gone ys sorted apart z stands)
        (not_from_false (list_any (same_gone z) gone) (false_from_ne_true (list_any (same_gone z) gone)
        (λ any. apart by.0 z by.1 (list_any-same same_gone TellsEqual-gone gone z any) (ap (λ x. x.number) by.2))))

-- ---- the edit

-- an object went with all that is in it, with their values and with the links that touch them
pub edit_of_deleted : (meta : Metamodel) (g : Model) (o : ObjId) → IsValid meta g
    → edit_of g (deleted meta g o) ≡ record {
      next = g.next;
      live = record { added = []; removed = objects_inside meta g o };
      gone = record { added = map gone_of (objects_inside meta g o); removed = [] };
      values = record { added = []; removed = filter (λ t. is_inside meta g t.object o) g.values };
      links = record { added = []; removed = filter (touches meta g o) g.links };
    }
edit_of_deleted meta g o valid = λ i. record {
  next = g.next;
  live = net-filter same_object TellsEqual-object (λ x. is_inside meta g x.number o) g.live i;
  gone = net-with_gone g.gone (objects_inside meta g o) valid.gone_rise
      (IsStrictlySortedBy-filter object_order (λ x. is_inside meta g x.number o) g.live valid.objects_rise)
      (λ y z there gone same. valid.numbers_differ y z (Contains-from_filter (λ x. is_inside meta g x.number o) g.live y there).0 gone same) i;
  values = net-filter same_value TellsEqual-value (λ t. is_inside meta g t.object o) g.values i;
  links = net-filter same_link TellsEqual-link (touches meta g o) g.links i;
}
