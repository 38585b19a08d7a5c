-- The tables of a metamodel hold what the definitions say.
use Rattle.std.proofs.Common.{◌≡◌, ℕ, List, [], ◌∷◌, length, map, refl, sym, ap, subst, ◌∙◌, ◌⊎◌, inl, inr, ⊎_elim, Bool, true, false, arith}
use Rattle.std.specs.Prelude.{◌<◌, ◌≤◌, ◌==◌, nat_eq, All, Contains, slice_get, unwrap_or, Option, Some, None}
use Rattle.std.specs.List.{list_any, range_with_len}
use Rattle.std.specs.Option.{option_map_or}
use Rattle.std.proofs.lemmas.Bool.{cases_lt, false_from_ne_true, eqb-true, eq-eqb}
use Rattle.std.proofs.lemmas.List.{length-map}
use Rattle.std.proofs.lemmas.List.FromFn.{length-map-range_with_len, get_or-map-range_with_len}
use Rattle.std.proofs.lemmas.List.Elements.{All-contains, All-map, All-weaker}
use Rattle.std.proofs.lemmas.Option.{slice_get-get_or, slice_get_past}
use Rattle.vt_base.specs.declared.numbers.ClassId.{ClassId}
use Rattle.vt_model.specs.Metamodel.{IsPath, is_within, supers_of}
use Rattle.vt_model.specs.Above.{class_id, ids, class_places, places, supers_at, AreThere, IsAbove}
use Rattle.vt_model.specs.Inside.Tables.{above_row, above_table, MarksAbove}
use Rattle.vt_model.proofs.IsaLemmas.{same_number, path-is_within, is_within-path, below-supers_of}
use Rattle.vt_model.proofs.AboveLemmas.{same_bool, supers_of-ids, there-ids}
use Rattle.vt_facts.proofs.BoolLemmas.{or-false}

-- the marks of the classes that a walk has come to
pub row_is : (supers : List (List ℕ)) (c : ℕ) (keys : List ℕ) → IsAbove supers (c ∷ []) keys
    → map (λ d. list_any (nat_eq d) keys) (range_with_len 0 (length supers)) ≡ above_row supers c
row_is supers c keys w =
    λ i. map (λ d. (w.exact d ∙ or-false (is_within (ids supers) (length supers) (class_id c) (class_id d))) i) (range_with_len 0 (length supers))

slice_get-made : {X : Type 0} (f : ℕ → X) (n i : ℕ) → i < n → slice_get (map f (range_with_len 0 n)) i ≡ Some (f i)
slice_get-made f n i below =
    let within : i < length (map f (range_with_len 0 n)) = subst (λ m. i < m) (sym (length-map-range_with_len f 0 n)) below in
    slice_get-get_or (map f (range_with_len 0 n)) i (f i) within ∙ ap Some (get_or-map-range_with_len f 0 n i i (f i) below (omega arith))

slice_get-made_past : {X : Type 0} (f : ℕ → X) (n i : ℕ) → n ≤ i → slice_get (map f (range_with_len 0 n)) i ≡ None
slice_get-made_past f n i past = slice_get_past (map f (range_with_len 0 n)) i (subst (λ m. m ≤ i) (sym (length-map-range_with_len f 0 n)) past)

module _ (supers : List (List ℕ)) (there : AreThere supers) where
  -- a path ends where it begins, or at a class that is there
  end-path : (path : List ClassId) (c d : ClassId) → IsPath (ids supers) c path d → (c ≡ d) ⊎ (d.0 < length supers)
  end-path [] c d is = inl is
  end-path (e ∷ path) c d is =
      let below : e.0 < length supers = All-contains (λ (x : ClassId). x.0 < length supers) (supers_of (ids supers) c) e (below-supers_of (ids supers) (length supers) (there-ids supers there) c) is.0 in
      ⊎_elim (λ same. inr (subst (λ (x : ClassId). x.0 < length supers) same below)) (λ there. inr there) (end-path path e d is.1)

  no-path : (path : List ClassId) (c d : ClassId) → length supers ≤ c.0 → IsPath (ids supers) c path d → c ≡ d
  no-path [] c d past is = is
  no-path (e ∷ path) c d past is =
      let none : supers_at supers c.0 ≡ [] = ap (λ r. unwrap_or r []) (slice_get_past supers c.0 past) in
      let step : Contains [] e = subst (λ l. Contains l e) (supers_of-ids supers c.0 ∙ ap (map class_id) none) is.0 in
      absurd (omega (arith, step.1))

  abbrev within : ClassId → ClassId → Bool
  within c d = is_within (ids supers) (length supers) c d

  abbrev mark : Option (List Bool) → ClassId → ClassId → Bool
  mark row c d = option_map_or (λ row. unwrap_or (slice_get row d.0) false) row (c.0 == d.0)

  -- a class that is there, and another number
  in_row : (c d : ClassId) → c.0 < length supers → unwrap_or (slice_get (above_row supers c.0) d.0) false ≡ within c d
  in_row c d here = ⊎_elim
      (λ there. ap (λ r. unwrap_or r false) (slice_get-made (λ d. within c (class_id d)) (length supers) d.0 there))
      (λ past. ap (λ r. unwrap_or r false) (slice_get-made_past (λ d. within c (class_id d)) (length supers) d.0 past) ∙ sym (false_from_ne_true (within c d) (outside past)))
      (cases_lt d.0 (length supers))
    where
      outside : length supers ≤ d.0 → within c d ≡ true → ⊥
      outside past e =
          let p = path-is_within (ids supers) (length supers) c d e in
          ⊎_elim (λ same. let is : c.0 ≡ d.0 = ap (λ (x : ClassId). x.0) same in omega arith) (λ below. omega arith) (end-path p.0 c d p.1)

  -- no class
  pub alone : (c d : ClassId) → length supers ≤ c.0 → (c.0 == d.0) ≡ within c d
  alone c d past = same_bool (c.0 == d.0) (within c d)
      (λ e. is_within-path (ids supers) [] (length supers) c d (same_number (eqb-true c.0 d.0 e)) (omega arith))
      (λ e. let p = path-is_within (ids supers) (length supers) c d e in eq-eqb c.0 d.0 (ap (λ (x : ClassId). x.0) (no-path p.0 c d past p.1)))

  pub table_marks : MarksAbove (ids supers) (length supers) (above_table supers)
  table_marks c d = ⊎_elim
      (λ here. ap (λ r. mark r c d) (slice_get-made (above_row supers) (length supers) c.0 here) ∙ in_row c d here)
      (λ past. ap (λ r. mark r c d) (slice_get-made_past (above_row supers) (length supers) c.0 past) ∙ alone c d past)
      (cases_lt c.0 (length supers))

-- ---- the same by the numbers of classes

ids-class_places : (classes : List ClassId) → map class_id (class_places classes) ≡ classes
ids-class_places [] = refl
ids-class_places (c ∷ classes) = ap (λ l. c ∷ l) (ids-class_places classes)

ids-places : (supers : List (List ClassId)) → ids (places supers) ≡ supers
ids-places [] = refl
ids-places (classes ∷ supers) = (λ i. ids-class_places classes i ∷ ids-places supers i)

module _ (supers : List (List ClassId)) (there : All (All (λ (e : ClassId). e.0 < length supers)) supers) where
  length-places : length (places supers) ≡ length supers
  length-places = length-map supers class_places

  pub there_places : AreThere (places supers)
  there_places = subst (λ n. All (All (λ e. e < n)) (places supers)) (sym length-places)
      (All-map (All (λ e. e < length supers)) class_places supers
      (All-weaker (All (λ (e : ClassId). e.0 < length supers)) (λ l. All (λ e. e < length supers) (class_places l))
      (λ l all. All-map (λ e. e < length supers) (λ (e : ClassId). e.0) l all) supers there))

  pub table_of_classes : MarksAbove supers (length supers) (above_table (places supers))
  table_of_classes c d = table_marks (places supers) there_places c d ∙ (λ i. is_within (ids-places supers i) (length-places i) c d)

  -- a class that isn't there is below no other
  pub alone_of_classes : (c d : ClassId) → length supers ≤ c.0 → (c.0 == d.0) ≡ is_within supers (length supers) c d
  alone_of_classes c d past = alone (places supers) there_places c d (subst (λ n. n ≤ c.0) (sym length-places) past) ∙ (λ i. is_within (ids-places supers i) (length-places i) c d)
