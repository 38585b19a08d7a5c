-- The ends of one object on a side: the list of a reference, and its objects.
use Rattle.std.proofs.Common.{◌≡◌, ◌≢◌, ℕ, List, [], refl, sym, ap, subst, ◌∙◌, ◌⊎◌, inl, inr, not, true, Option, Some, None, option_map, unwrap_or, eq-eqb, ne_eqb, arith}
use Rattle.std.specs.Prelude.{◌==◌, Contains}
use Rattle.std.specs.Cmp.{IsTotalOrder, nat_cmp_total}
use Rattle.std.specs.Ordering.{nat_cmp}
use Rattle.std.specs.declared.cmp.Ordering.TheVariants.{Equal}
use Rattle.std.proofs.lemmas.Bool.{cases_eq, not_from_false}
use Rattle.std.proofs.lemmas.Bool.Decides.{nat_tests}
use Rattle.std.proofs.lemmas.Cmp.{on_total, tied_itself}
use Rattle.std.proofs.lemmas.List.Elements.{All-contains}
use Rattle.vt_base.specs.declared.numbers.ObjId.{ObjId}
use Rattle.vt_base.specs.declared.numbers.RefId.{RefId}
use Rattle.vt_facts.proofs.MemberLemmas.{Contains-nil, Contains-filter, Contains-from_filter, Contains-find, Contains-insert_key_cases, Contains-insert_key_old, Contains-insert_key_new}
use Rattle.vt_slots.specs.Ends.{EndList, number_order, ObjectsRise, reference_order, list_of, objects_of, AddsEnd, DropsEnd}
use Rattle.vt_slots.proofs.EndsLemmas.{reference_number, object_number}
use Rattle.vt_graph.specs.Inside.Ended.{EndsRise}
use Rattle.vt_facts.proofs.RisingLemmas.{rises-none, find_is}
use Rattle.vt_graph.proofs.SlotLemmas.{same_object, equal_numbers}

-- ---- numbers

pub same_reference : (r s : RefId) → r.0 ≡ s.0 → r ≡ s
same_reference r s e = ap (λ (n : ℕ). record { 0 = n }) e

pub number_order_total : IsTotalOrder number_order
number_order_total = on_total object_number nat_cmp_total

reference_order_total : IsTotalOrder reference_order
reference_order_total = on_total reference_number nat_cmp_total

-- equal numbers are tied
tied : (n m : ℕ) → n ≡ m → nat_cmp n m ≡ Equal
tied n m e = subst (λ k. nat_cmp n k ≡ Equal) e (tied_itself nat_cmp_total n)

equal_from_tied : (n m : ℕ) → nat_cmp n m ≡ Equal → n ≡ m
equal_from_tied n m e = grind (arith, nat_tests)

-- objects that the order doesn't tell apart are the same
pub number_order-Equal : (o p : ObjId) → number_order o p ≡ Equal → o ≡ p
number_order-Equal o p e = same_object o p (equal_from_tied o.0 p.0 e)

-- ---- the list of a reference

-- what a list that is found has
abbrev list_objects : Option EndList → List ObjId
list_objects found = unwrap_or (option_map (λ l. l.objects) found) []

-- an object of a reference stands in a list of it
pub list_with : (lists : List EndList) (r : RefId) (x : ObjId) → Contains (objects_of lists r) x
    → (l : EndList) × Contains lists l × (l.reference ≡ r) × Contains l.objects x
list_with lists r x there = by (list_of lists r) refl there
  where
    by : (f : Option EndList) → list_of lists r ≡ f → Contains (list_objects f) x → (l : EndList) × Contains lists l × (l.reference ≡ r) × Contains l.objects x
    by None e none = absurd (Contains-nil x none)
    by (Some l) e of =
        let found = Contains-find (λ m. m.reference.0 == r.0) lists l e in
        (l, found.0, same_reference l.reference r (equal_numbers l.reference.0 r.0 found.1), of)

module _ (lists : List EndList) (rise : EndsRise lists) where
  -- a list is that of its reference
  list_of_is : (l : EndList) → Contains lists l → list_of lists l.reference ≡ Some l
  list_of_is l there = find_is reference_order reference_order_total (λ m. m.reference.0 == l.reference.0) lists rise.references
      (λ m n first second. tied m.reference.0 n.reference.0 (equal_numbers m.reference.0 l.reference.0 first ∙ sym (equal_numbers n.reference.0 l.reference.0 second)))
      l there (eq-eqb l.reference.0 l.reference.0 refl)

  pub objects_of_is : (l : EndList) → Contains lists l → objects_of lists l.reference ≡ l.objects
  objects_of_is l there = ap list_objects (list_of_is l there)

  -- the objects of a reference rise
  pub objects_of_rise : (r : RefId) → ObjectsRise (objects_of lists r)
  objects_of_rise r = by (list_of lists r) refl
    where
      by : (f : Option EndList) → list_of lists r ≡ f → ObjectsRise (list_objects f)
      by None e = rises-none number_order
      by (Some l) e = All-contains (λ m. ObjectsRise m.objects) lists l rise.objects (Contains-find (λ m. m.reference.0 == r.0) lists l e).0

-- ---- one object more or one less

-- a reference is this one, or another
pub reference_cases : (s r : RefId) → (s ≡ r) ⊎ (s.0 ≢ r.0)
reference_cases s r = by (cases_eq s.0 r.0)
  where
    by : (s.0 ≡ r.0) ⊎ (s.0 ≢ r.0) → (s ≡ r) ⊎ (s.0 ≢ r.0)
    by (inl is) = inl (same_reference s r is)
    by (inr apart) = inr apart

module _ (old new : List EndList) (r : RefId) (o : ObjId) where
  module _ (adds : AddsEnd old new r o) where
    -- what stands there stood before, or is the new one
    pub added_cases : (s : RefId) (x : ObjId) → Contains (objects_of new s) x → Contains (objects_of old s) x ⊎ ((s ≡ r) × (x ≡ o))
    added_cases s x there = by (reference_cases s r)
      where
        by : (s ≡ r) ⊎ (s.0 ≢ r.0) → Contains (objects_of old s) x ⊎ ((s ≡ r) × (x ≡ o))
        by (inr apart) = inl (subst (λ os. Contains os x) (adds.others s apart) there)
        by (inl is) = elim (Contains-insert_key_cases number_order o (objects_of old r) x (subst (λ os. Contains os x) (ap (objects_of new) is ∙ adds.there) there)) [
          | inl before ↦ inl (subst (λ t. Contains (objects_of old t) x) (sym is) before)
          | inr own ↦ inr (is, sym own)
        ]

    -- what stood before stands
    pub added_old : (s : RefId) (x : ObjId) → Contains (objects_of old s) x → Contains (objects_of new s) x
    added_old s x before = by (reference_cases s r)
      where
        by : (s ≡ r) ⊎ (s.0 ≢ r.0) → Contains (objects_of new s) x
        by (inr apart) = subst (λ os. Contains os x) (sym (adds.others s apart)) before
        by (inl is) = subst (λ os. Contains os x) (sym (ap (objects_of new) is ∙ adds.there))
            (Contains-insert_key_old number_order o (objects_of old r) x (subst (λ t. Contains (objects_of old t) x) is before))

    -- and the new one does
    pub added_new : Contains (objects_of new r) o
    added_new = subst (λ os. Contains os o) (sym adds.there) (Contains-insert_key_new number_order o (λ x e. number_order-Equal o x e) (objects_of old r))

  module _ (drops : DropsEnd old new r o) where
    -- what stands stood before, and is another one
    pub dropped_cases : (s : RefId) (x : ObjId) → Contains (objects_of new s) x → Contains (objects_of old s) x × (s ≡ r → x ≡ o → ⊥)
    dropped_cases s x there = by (reference_cases s r)
      where
        by : (s ≡ r) ⊎ (s.0 ≢ r.0) → Contains (objects_of old s) x × (s ≡ r → x ≡ o → ⊥)
        by (inr apart) = (subst (λ os. Contains os x) (drops.others s apart) there, λ is own. apart (ap (λ (t : RefId). t.0) is))
        by (inl is) =
            let was = Contains-from_filter (λ y. not (y.0 == o.0)) (objects_of old r) x (subst (λ os. Contains os x) (ap (objects_of new) is ∙ drops.there) there) in (
              subst (λ t. Contains (objects_of old t) x) (sym is) was.0,
              λ same own. let both : (x.0 == o.0) ≡ true = eq-eqb x.0 o.0 (ap (λ (p : ObjId). p.0) own) in let other : not (x.0 == o.0) ≡ true = was.1 in cc,
            )

    -- what stood before stands, where it is another one
    pub dropped_old : (s : RefId) (x : ObjId) → Contains (objects_of old s) x → (s ≡ r → x ≡ o → ⊥) → Contains (objects_of new s) x
    dropped_old s x before apart_from = by (reference_cases s r)
      where
        by : (s ≡ r) ⊎ (s.0 ≢ r.0) → Contains (objects_of new s) x
        by (inr apart) = subst (λ os. Contains os x) (sym (drops.others s apart)) before
        by (inl is) = subst (λ os. Contains os x) (sym (ap (objects_of new) is ∙ drops.there))
            (Contains-filter (λ y. not (y.0 == o.0)) (objects_of old r) x (subst (λ t. Contains (objects_of old t) x) is before)
            (not_from_false (x.0 == o.0) (ne_eqb x.0 o.0 (λ e. apart_from is (same_object x o e)))))
