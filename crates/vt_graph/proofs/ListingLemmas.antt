-- The listings of classes, after an object was added or taken out.
use Rattle.std.proofs.Common.{◌≡◌, ◌≢◌, ℕ, suc, ◌+◌, ◌-◌, ◌<◌, ◌≤◌, ◌==◌, List, [], ◌∷◌, ◌++◌, length, map, set, get_or, take, filter, refl, sym, ap, subst, ◌∙◌, ◌⊎◌, inl, inr, cond, Bool, true, false, arith, Option, Some, length-set, length-append}
use Rattle.std.specs.Prelude.{Contains, All, slice_get}
use Rattle.std.specs.List.Sorted.{IsStrictlySortedBy}
use Rattle.std.specs.Ordering.{nat_cmp}
use Rattle.std.specs.Cmp.{nat_cmp_is, nat_cmp_total}
use Rattle.std.specs.declared.cmp.Ordering.{Ordering}
use Rattle.std.specs.declared.cmp.Ordering.TheVariants.{Less}
use Rattle.std.proofs.lemmas.Bool.{cases_eq, cases_order}
use Rattle.std.proofs.lemmas.Cmp.{on_total}
use Rattle.std.proofs.lemmas.List.{map-append, append-nil, get_or-set_same, get_or-set_other}
use Rattle.std.proofs.lemmas.List.Elements.{filter-append}
use Rattle.std.proofs.lemmas.Option.{get_or_from_slice_get, slice_get_read, slice_get_cases, slice_get_past}
use Rattle.vt_base.specs.declared.numbers.ObjId.{ObjId}
use Rattle.vt_base.specs.declared.numbers.ClassId.{ClassId}
use Rattle.vt_model.specs.Metamodel.{Metamodel, isa}
use Rattle.vt_model.specs.declared.metamodel.ClassInfo.{ClassInfo}
use Rattle.vt_facts.proofs.MemberLemmas.{Contains-nil, Contains-head, Contains-behind, Contains-cons_cases, All-from_contains}
use Rattle.vt_slots.specs.Slots.{with_body}
use Rattle.vt_slots.specs.declared.slot.Body.{Body}
use Rattle.vt_slots.specs.declared.slot.Slot.{Slot}
use Rattle.vt_graph.specs.Inside.Planned.{above_from, listing, AreListings}
use Rattle.vt_graph.specs.Inside.Making.{changed_at, with_last, without_last}
use Rattle.vt_facts.proofs.RisingLemmas.{rises-none, rises-cons, first_below, rest_rises, not_below_itself}

-- ---- one listing among others

module _ {X : Type 0} (xs : List X) (i : ℕ) (x : X) where
  -- what is put in a place stands there
  set_here : i < length xs → slice_get (set xs i x) i ≡ Some x
  set_here few = slice_get_read (set xs i x) (length xs) i x (sym (length-set xs i x)) few (sym (get_or-set_same xs i x x few))

  -- and each other place is as before
  set_elsewhere : (j : ℕ) → j ≢ i → slice_get (set xs i x) j ≡ slice_get xs j
  set_elsewhere j apart = elim (slice_get_cases xs j).1 [
    | inl at ↦ slice_get_read (set xs i x) (length xs) j at.0 (sym (length-set xs i x)) at.1 (sym (get_or-set_other xs i j x at.0 apart ∙ at.3)) ∙ sym at.2
    | inr past ↦ slice_get_past (set xs i x) j (subst (λ n. n ≤ j) (sym (length-set xs i x)) past.0) ∙ sym past.1
  ]

abbrev pub class_order : ClassId → ClassId → Ordering
class_order c d = nat_cmp c.0 d.0

same_class : (c d : ClassId) → c.0 ≡ d.0 → c ≡ d
same_class c d e = ap (λ (n : ℕ). record { 0 = n }) e

module _ (f : List ObjId → List ObjId) where
  pub length-changed_at : (classes : List ClassId) (listings : List (List ObjId)) → length (changed_at f classes listings) ≡ length listings
  length-changed_at [] listings = refl
  length-changed_at (c ∷ classes) listings = length-changed_at classes (set listings c.0 (f (get_or listings c.0 []))) ∙ length-set listings c.0 (f (get_or listings c.0 []))

  -- a class that is not among them keeps its listing
  pub changed_at-other : (classes : List ClassId) (listings : List (List ObjId)) (d : ClassId) → (Contains classes d → ⊥) → slice_get (changed_at f classes listings) d.0 ≡ slice_get listings d.0
  changed_at-other [] listings d out = refl
  changed_at-other (c ∷ classes) listings d out =
      changed_at-other classes (set listings c.0 (f (get_or listings c.0 []))) d (λ later. out (Contains-behind c d classes later))
      ∙ set_elsewhere listings c.0 (f (get_or listings c.0 [])) d.0 (λ e. out (subst (Contains (c ∷ classes)) (same_class c d (sym e)) (Contains-head c classes)))

  -- the listing of one that is among them is changed once
  pub changed_at-own : (classes : List ClassId) (listings : List (List ObjId)) (d : ClassId) (objects : List ObjId)
      → IsStrictlySortedBy class_order classes → Contains classes d → slice_get listings d.0 ≡ Some objects → d.0 < length listings → slice_get (changed_at f classes listings) d.0 ≡ Some (f objects)
  changed_at-own [] listings d objects rise there at few = absurd (Contains-nil d there)
  changed_at-own (c ∷ classes) listings d objects rise there at few =
      by (λ later. changed_at-own classes (set listings c.0 (f (get_or listings c.0 []))) d objects (rest_rises class_order c classes rise) later) (Contains-cons_cases c d classes there)
    where
      here : (e : ClassId) → slice_get listings e.0 ≡ Some objects → e.0 < length listings → (Contains classes e → ⊥)
          → slice_get (changed_at f classes (set listings e.0 (f (get_or listings e.0 [])))) e.0 ≡ Some (f objects)
      here e at few out =
          changed_at-other classes (set listings e.0 (f (get_or listings e.0 []))) e out
          ∙ set_here listings e.0 (f (get_or listings e.0 [])) few
          ∙ ap (λ xs. Some (f xs)) (get_or_from_slice_get listings e.0 objects [] at)

      by : (Contains classes d → slice_get (set listings c.0 (f (get_or listings c.0 []))) d.0 ≡ Some objects → d.0 < length (set listings c.0 (f (get_or listings c.0 [])))
          → slice_get (changed_at f classes (set listings c.0 (f (get_or listings c.0 [])))) d.0 ≡ Some (f objects))
          → (c ≡ d) ⊎ Contains classes d → slice_get (changed_at f (c ∷ classes) listings) d.0 ≡ Some (f objects)
      by rest (inl is) = subst (λ e. slice_get (changed_at f (e ∷ classes) listings) d.0 ≡ Some (f objects)) (sym is)
          (here d at few (λ later. not_below_itself class_order (on_total (λ (e : ClassId). e.0) nat_cmp_total) d (subst (λ e. class_order e d ≡ Less) is (first_below class_order c classes rise d later))))
      by rest (inr later) =
          rest later
          (set_elsewhere listings c.0 (f (get_or listings c.0 [])) d.0 (λ e. not_below_itself class_order (on_total (λ (x : ClassId). x.0) nat_cmp_total) d
          (subst (λ x. class_order x d ≡ Less) (same_class c d (sym e)) (first_below class_order c classes rise d later))) ∙ at)
          (subst (λ n. d.0 < n) (sym (length-set listings c.0 (f (get_or listings c.0 [])))) few)

-- ---- the classes above one

module _ (meta : Metamodel) (c : ClassId) where
  -- each is above it, and stands between the place from which they are looked for and the end
  pub above_is : (a : ℕ) (infos : List ClassInfo) (d : ClassId) → Contains (above_from meta c a infos) d → (isa meta c d ≡ true) × (a ≤ d.0) × (d.0 < a + length infos)
  above_is a [] d there = absurd (Contains-nil d there)
  above_is a (info ∷ infos) d there = by (above_is (a + 1) infos d) (isa meta c (record { 0 = a })) refl there
    where
      by : (Contains (above_from meta c (a + 1) infos) d → (isa meta c d ≡ true) × (a + 1 ≤ d.0) × (d.0 < a + 1 + length infos)) → (b : Bool) → isa meta c (record { 0 = a }) ≡ b
          → Contains (cond b (record { 0 = a } ∷ above_from meta c (a + 1) infos) (above_from meta c (a + 1) infos)) d → (isa meta c d ≡ true) × (a ≤ d.0) × (d.0 < a + suc (length infos))
      by rest true e there = elim (Contains-cons_cases (record { 0 = a }) d (above_from meta c (a + 1) infos) there) [
        | inl is ↦ let at : a ≡ d.0 = ap (λ (x : ClassId). x.0) is in (subst (λ x. isa meta c x ≡ true) is e, omega arith, omega arith)
        | inr later ↦ let more = rest later in (more.0, omega (arith, more.1), omega (arith, more.2))
      ]
      by rest false e there = let more = rest there in (more.0, omega (arith, more.1), omega (arith, more.2))

  -- and each that is above it stands there
  pub above_there : (a : ℕ) (infos : List ClassInfo) (d : ClassId) → isa meta c d ≡ true → a ≤ d.0 → d.0 < a + length infos → Contains (above_from meta c a infos) d
  above_there a [] d is from few = absurd (omega arith)
  above_there a (info ∷ infos) d is from few = by (above_there (a + 1) infos d is) (cases_eq a d.0) (isa meta c (record { 0 = a })) refl
    where
      after : a ≢ d.0 → a + 1 ≤ d.0
      after apart = elim (cases_order a d.0) [
        | inl same ↦ absurd (apart same)
        | inr (inl less) ↦ omega arith
        | inr (inr more) ↦ absurd (omega (arith, from, more))
      ]

      by : (a + 1 ≤ d.0 → d.0 < a + 1 + length infos → Contains (above_from meta c (a + 1) infos) d) → (a ≡ d.0) ⊎ (a ≢ d.0) → (b : Bool) → isa meta c (record { 0 = a }) ≡ b
          → Contains (cond b (record { 0 = a } ∷ above_from meta c (a + 1) infos) (above_from meta c (a + 1) infos)) d
      by rest (inl here) true e = subst (λ x. Contains (x ∷ above_from meta c (a + 1) infos) d) (same_class d (record { 0 = a }) (sym here)) (Contains-head d (above_from meta c (a + 1) infos))
      by rest (inl here) false e = let is_not : isa meta c d ≡ false = subst (λ x. isa meta c x ≡ false) (same_class (record { 0 = a }) d here) e in cc
      by rest (inr apart) true e = Contains-behind (record { 0 = a }) d (above_from meta c (a + 1) infos) (rest (after apart) (omega (arith, few)))
      by rest (inr apart) false e = rest (after apart) (omega (arith, few))

  -- they rise
  pub above_rise : (a : ℕ) (infos : List ClassInfo) → IsStrictlySortedBy class_order (above_from meta c a infos)
  above_rise a [] = rises-none class_order
  above_rise a (info ∷ infos) = by (above_rise (a + 1) infos) (isa meta c (record { 0 = a }))
    where
      by : IsStrictlySortedBy class_order (above_from meta c (a + 1) infos) → (b : Bool)
          → IsStrictlySortedBy class_order (cond b (record { 0 = a } ∷ above_from meta c (a + 1) infos) (above_from meta c (a + 1) infos))
      by rest true = rises-cons class_order (record { 0 = a }) (above_from meta c (a + 1) infos)
          (λ d there. sym (nat_cmp_is a d.0 Less (let more = above_is (a + 1) infos d there in omega (arith, more.1)))) rest
      by rest false = rest

-- each class above one has a listing
pub above_within : (meta : Metamodel) (c : ClassId) (slots : List Slot) (listings : List (List ObjId)) → AreListings meta slots listings → All (λ d. d.0 < length listings) (above_from meta c 0 meta.classes)
above_within meta c slots listings are = All-from_contains (λ d. d.0 < length listings) (above_from meta c 0 meta.classes)
    (λ d there. let is = above_is meta c 0 meta.classes d there in subst (λ n. d.0 < n) (sym are.many) (omega (arith, is.2)))

-- ---- the listings

-- the front of a list, as long as it is
take_front : {X : Type 0} (xs ys : List X) → take (length xs) (xs ++ ys) ≡ xs
take_front [] ys = refl
take_front (x ∷ xs) ys = ap (λ zs. x ∷ zs) (take_front xs ys)

module _ (meta : Metamodel) where
  listing_pushed : (slots : List Slot) (s : Slot) (c : ClassId) → listing meta (slots ++ s ∷ []) c ≡ cond (isa meta s.class c) (with_last s.number (listing meta slots c)) (listing meta slots c)
  listing_pushed slots s c =
      ap (map (λ t. t.number)) (filter-append (λ t. isa meta t.class c) slots (s ∷ [])) ∙ by (isa meta s.class c)
    where
      by : (b : Bool) → map (λ t. t.number) (filter (λ t. isa meta t.class c) slots ++ cond b (s ∷ []) []) ≡ cond b (with_last s.number (listing meta slots c)) (listing meta slots c)
      by true = map-append (λ (t : Slot). t.number) (filter (λ t. isa meta t.class c) slots) (s ∷ [])
      by false = ap (map (λ (t : Slot). t.number)) (append-nil (filter (λ t. isa meta t.class c) slots))

  without_with : (o : ObjId) (objects : List ObjId) → without_last (with_last o objects) ≡ objects
  without_with o objects =
      let long : length (objects ++ o ∷ []) - 1 ≡ length objects = ap (λ n. n - 1) (length-append objects (o ∷ [])) ∙ omega arith in
      ap (λ n. take n (objects ++ o ∷ [])) long ∙ take_front objects (o ∷ [])

  module _ (slots : List Slot) (s : Slot) (listings : List (List ObjId)) where
    pub are_listings_pushed : AreListings meta slots listings → AreListings meta (slots ++ s ∷ []) (changed_at (with_last s.number) (above_from meta s.class 0 meta.classes) listings)
    are_listings_pushed are = record {
      many = length-changed_at (with_last s.number) (above_from meta s.class 0 meta.classes) listings ∙ are.many;
      each = λ c few. by c few (isa meta s.class c) refl;
    }
      where
        by : (c : ClassId) → c.0 < length meta.classes → (b : Bool) → isa meta s.class c ≡ b
            → slice_get (changed_at (with_last s.number) (above_from meta s.class 0 meta.classes) listings) c.0 ≡ Some (listing meta (slots ++ s ∷ []) c)
        by c few true e =
            changed_at-own (with_last s.number) (above_from meta s.class 0 meta.classes) listings c (listing meta slots c) (above_rise meta s.class 0 meta.classes)
            (above_there meta s.class 0 meta.classes c e (omega arith) (omega (arith, few))) (are.each c few) (subst (λ n. c.0 < n) (sym are.many) few)
            ∙ ap Some (sym (listing_pushed slots s c ∙ ap (λ b. cond b (with_last s.number (listing meta slots c)) (listing meta slots c)) e))
        by c few false e =
            changed_at-other (with_last s.number) (above_from meta s.class 0 meta.classes) listings c (λ there. let is = (above_is meta s.class 0 meta.classes c there).0 in cc)
            ∙ are.each c few
            ∙ ap Some (sym (listing_pushed slots s c ∙ ap (λ b. cond b (with_last s.number (listing meta slots c)) (listing meta slots c)) e))

    pub are_listings_popped : AreListings meta (slots ++ s ∷ []) listings → AreListings meta slots (changed_at without_last (above_from meta s.class 0 meta.classes) listings)
    are_listings_popped are = record {
      many = length-changed_at without_last (above_from meta s.class 0 meta.classes) listings ∙ are.many;
      each = λ c few. by c few (isa meta s.class c) refl;
    }
      where
        by : (c : ClassId) → c.0 < length meta.classes → (b : Bool) → isa meta s.class c ≡ b
            → slice_get (changed_at without_last (above_from meta s.class 0 meta.classes) listings) c.0 ≡ Some (listing meta slots c)
        by c few true e =
            changed_at-own without_last (above_from meta s.class 0 meta.classes) listings c (with_last s.number (listing meta slots c)) (above_rise meta s.class 0 meta.classes)
            (above_there meta s.class 0 meta.classes c e (omega arith) (omega (arith, few)))
            (are.each c few ∙ ap Some (listing_pushed slots s c ∙ ap (λ b. cond b (with_last s.number (listing meta slots c)) (listing meta slots c)) e))
            (subst (λ n. c.0 < n) (sym are.many) few)
            ∙ ap Some (without_with s.number (listing meta slots c))
        by c few false e =
            changed_at-other without_last (above_from meta s.class 0 meta.classes) listings c (λ there. let is = (above_is meta s.class 0 meta.classes c there).0 in cc)
            ∙ are.each c few
            ∙ ap Some (listing_pushed slots s c ∙ ap (λ b. cond b (with_last s.number (listing meta slots c)) (listing meta slots c)) e)

  -- a body that comes or goes leaves them
  listing_with_body : (slots : List Slot) (o : ObjId) (body : Option Body) (c : ClassId) → listing meta (with_body slots o body) c ≡ listing meta slots c
  listing_with_body [] o body c = refl
  listing_with_body (s ∷ slots) o body c = by (s.number.0 == o.0) (listing_with_body slots o body c)
    where
      more : (b : Bool) → listing meta (with_body slots o body) c ≡ listing meta slots c
          → map (λ t. t.number) (cond b (record s { body = body } ∷ filter (λ t. isa meta t.class c) (with_body slots o body)) (filter (λ t. isa meta t.class c) (with_body slots o body)))
          ≡ map (λ t. t.number) (cond b (s ∷ filter (λ t. isa meta t.class c) slots) (filter (λ t. isa meta t.class c) slots))
      more true rest = ap (λ objects. s.number ∷ objects) rest
      more false rest = rest

      same : (b : Bool) → listing meta (with_body slots o body) c ≡ listing meta slots c
          → map (λ t. t.number) (cond b (s ∷ filter (λ t. isa meta t.class c) (with_body slots o body)) (filter (λ t. isa meta t.class c) (with_body slots o body)))
          ≡ map (λ t. t.number) (cond b (s ∷ filter (λ t. isa meta t.class c) slots) (filter (λ t. isa meta t.class c) slots))
      same true rest = ap (λ objects. s.number ∷ objects) rest
      same false rest = rest

      by : (b : Bool) → listing meta (with_body slots o body) c ≡ listing meta slots c → listing meta (cond b (record s { body = body }) s ∷ with_body slots o body) c ≡ listing meta (s ∷ slots) c
      by true rest = more (isa meta s.class c) rest
      by false rest = same (isa meta s.class c) rest

  pub are_listings_with_body : (slots : List Slot) (o : ObjId) (body : Option Body) (listings : List (List ObjId)) → AreListings meta slots listings → AreListings meta (with_body slots o body) listings
  are_listings_with_body slots o body listings are = record {
    many = are.many;
    each = λ c few. are.each c few ∙ ap Some (sym (listing_with_body slots o body c));
  }
