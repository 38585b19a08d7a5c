-- What stands in the levels below an object: it, and what is in it.
use Rattle.std.proofs.Common.{◌≡◌, ◌++◌, ℕ, zero, suc, List, [], ◌∷◌, refl, sym, ap, subst, ◌∙◌, arith, append_assoc, append-nil, Bool, true, false, inl, inr}
use Rattle.std.specs.Prelude.{◌+◌, ◌-◌, ◌<◌, ◌≤◌, ◌==◌, ◌&&◌, length, find, filter, Contains, Option, Some, None, option_map}
use Rattle.std.specs.Option.{option_map_or}
use Rattle.std.proofs.lemmas.Bool.{and_parts, and_from, or_cases, eqb-true, eq-eqb}
use Rattle.std.proofs.lemmas.List.{nil_from_length}
use Rattle.std.proofs.lemmas.List.Elements.{Contains-append_left, Contains-append_right, Contains-append_cases}
use Rattle.vt_base.specs.declared.numbers.ObjId.{ObjId}
use Rattle.vt_model.specs.Metamodel.{Metamodel}
use Rattle.vt_model.specs.Model.{Model}
use Rattle.vt_model.specs.Linking.{is_containment}
use Rattle.vt_model.specs.Containing.{Holds, holder, is_within, is_inside}
use Rattle.vt_model.specs.declared.model.Link.{Link}
use Rattle.vt_facts.proofs.MemberLemmas.{Contains-nil, Contains-head, Contains-cons_cases, Contains-map, Contains-filter, Contains-from_filter, Contains-find, Contains-from_map}
use Rattle.vt_model.proofs.Valid.Containment.{same_object, IsAtOrIn, IsIn-Holds, IsIn-of_at_or_in}
use Rattle.vt_store.specs.Inside.Levels.{holds_by, children, level_below, levels_from, level_at}
use Rattle.vt_facts.proofs.ChosenLemmas.{Contains-flat_map, Contains-from_flat_map}

module _ (meta : Metamodel) (g : Model) where
  -- ---- what an object contains directly

  -- what it holds is one of its children
  pub Contains-children : (p x : ObjId) → Holds meta g p x → Contains (children meta g p) x
  Contains-children p x holds =
      let passes = and_from (holds.link.source.0 == p.0) (is_containment meta holds.link.reference) (eq-eqb holds.link.source.0 p.0 (ap (λ o. o.0) holds.from)) holds.containment in
      let there = Contains-filter (holds_by meta p) g.links holds.link holds.there passes in
      subst (Contains (children meta g p)) holds.to (Contains-map (λ link. link.target) (filter (holds_by meta p) g.links) holds.link there)

  -- and it holds each of them
  pub Holds-children : (p x : ObjId) → Contains (children meta g p) x → Holds meta g p x
  Holds-children p x there =
      let by = Contains-from_map (λ link. link.target) (filter (holds_by meta p) g.links) x there in
      let was = Contains-from_filter (holds_by meta p) g.links by.0 by.1 in
      let passes = and_parts (by.0.source.0 == p.0) (is_containment meta by.0.reference) was.1 in
      record { link = by.0; there = was.0; containment = passes.1; from = same_object by.0.source p (eqb-true by.0.source.0 p.0 passes.0); to = by.2 }

  -- ---- a level and the next

  -- what an object of a level holds stands in the next
  pub Contains-level_below : (level : List ObjId) (p x : ObjId) → Contains level p → Holds meta g p x → Contains (level_below meta g level) x
  Contains-level_below level p x there holds = Contains-flat_map (children meta g) level p x there (Contains-children p x holds)

  -- and what stands there an object of the level holds
  pub Holds-level_below : (level : List ObjId) (x : ObjId) → Contains (level_below meta g level) x → (p : ObjId) × Contains level p × Holds meta g p x
  Holds-level_below level x there =
      let by = Contains-from_flat_map (children meta g) level x there in
      (by.0, by.1, Holds-children by.0 x by.2)

  -- ---- all levels

  -- below an empty level there is nothing
  pub levels_from-none : (n : ℕ) → levels_from meta g n [] ≡ []
  levels_from-none zero = refl
  levels_from-none (suc n) = levels_from-none n

  -- ---- so many levels, one after another

  -- what was found, and then the levels that are left, stay the whole where a level is passed on to
  pub levels_more : (n k : ℕ) (found level grown next whole : List ObjId) → k < n → found ++ levels_from meta g (n - k) level ≡ whole
      → grown ≡ found ++ level → next ≡ level_below meta g level → grown ++ levels_from meta g (n - (k + 1)) next ≡ whole
  levels_more n k found level grown next whole more so_far longer below =
      let left : n - k ≡ suc (n - (k + 1)) = omega arith in
      rw (longer, below) (append_assoc found level (levels_from meta g (n - (k + 1)) (level_below meta g level))
      ∙ ap (λ m. found ++ levels_from meta g m level) (sym left) ∙ so_far)

  -- at an empty level all is found
  pub levels_done : (n : ℕ) (found level whole : List ObjId) → found ++ levels_from meta g n level ≡ whole → length level ≡ 0 → found ≡ whole
  levels_done n found level whole so_far empty =
      sym (append-nil found) ∙ ap (λ l. found ++ l) (sym (levels_from-none n) ∙ ap (levels_from meta g n) (sym (nil_from_length level empty))) ∙ so_far

  -- more levels are fewer, and then those that are further below
  pub levels_from-append : (n m : ℕ) (level : List ObjId) → levels_from meta g (n + m) level ≡ levels_from meta g n level ++ levels_from meta g m (level_at meta g n level)
  levels_from-append zero m level = let none : zero + m ≡ m = omega arith in ap (λ k. levels_from meta g k level) none
  levels_from-append (suc n) m level =
      let more : suc n + m ≡ suc (n + m) = omega arith in
      ap (λ k. levels_from meta g k level) more
      ∙ ap (λ l. level ++ l) (levels_from-append n m (level_below meta g level))
      ∙ sym (append_assoc level (levels_from meta g n (level_below meta g level)) (levels_from meta g m (level_at meta g n (level_below meta g level))))

  -- ---- what stands in the levels

  -- more levels have what fewer have
  pub Contains-levels_from-more : (n m : ℕ) (level : List ObjId) (x : ObjId) → n ≤ m → Contains (levels_from meta g n level) x → Contains (levels_from meta g m level) x
  Contains-levels_from-more zero m level x fewer there = absurd (Contains-nil x there)
  Contains-levels_from-more (suc n) zero level x fewer there = absurd (omega arith)
  Contains-levels_from-more (suc n) (suc m) level x fewer there = elim (Contains-append_cases level (levels_from meta g n (level_below meta g level)) x there) [
    | inl own ↦ Contains-append_left level (levels_from meta g m (level_below meta g level)) x own
    | inr below ↦ Contains-append_right level (levels_from meta g m (level_below meta g level)) x
        (Contains-levels_from-more n m (level_below meta g level) x (omega arith) below)
  ]

  -- the first level stands in them
  pub Contains-levels_from-first : (n : ℕ) (level : List ObjId) (x : ObjId) → Contains level x → Contains (levels_from meta g (suc n) level) x
  Contains-levels_from-first n level x there = Contains-append_left level (levels_from meta g n (level_below meta g level)) x there

  -- what one of their objects holds stands one level further
  pub Contains-levels_from-held : (n : ℕ) (level : List ObjId) (p x : ObjId) → Contains (levels_from meta g n level) p → Holds meta g p x → Contains (levels_from meta g (suc n) level) x
  Contains-levels_from-held zero level p x there holds = absurd (Contains-nil p there)
  Contains-levels_from-held (suc n) level p x there holds = Contains-append_right level (levels_from meta g (suc n) (level_below meta g level)) x
      (elim (Contains-append_cases level (levels_from meta g n (level_below meta g level)) p there) [
        | inl own ↦ Contains-levels_from-first n (level_below meta g level) x (Contains-level_below level p x own holds)
        | inr below ↦ Contains-levels_from-held n (level_below meta g level) p x below holds
      ])

  -- what stands in them is an object of the first level or in one
  pub IsAtOrIn-levels_from : (n : ℕ) (level : List ObjId) (x : ObjId) → Contains (levels_from meta g n level) x → (p : ObjId) × Contains level p × IsAtOrIn meta g x p
  IsAtOrIn-levels_from zero level x there = absurd (Contains-nil x there)
  IsAtOrIn-levels_from (suc n) level x there = elim (Contains-append_cases level (levels_from meta g n (level_below meta g level)) x there) [
    | inl own ↦ (x, own, inl refl)
    | inr below ↦
        let inner = IsAtOrIn-levels_from n (level_below meta g level) x below in
        let above = Holds-level_below level inner.0 inner.1 in
        (above.0, above.1, inr (IsIn-of_at_or_in meta g above.0 inner.0 x (IsIn-Holds meta g above.0 inner.0 above.2) inner.2))
  ]

  -- below one object it is that or in it
  pub IsAtOrIn-levels_from_one : (n : ℕ) (o x : ObjId) → Contains (levels_from meta g n (o ∷ [])) x → IsAtOrIn meta g x o
  IsAtOrIn-levels_from_one n o x there =
      let by = IsAtOrIn-levels_from n (o ∷ []) x there in
      elim (Contains-cons_cases o by.0 [] by.1) [
        | inl is ↦ subst (IsAtOrIn meta g x) (sym is) by.2
        | inr none ↦ absurd (Contains-nil by.0 none)
      ]

  -- ---- the steps of the test

  -- a link by which an object is held
  abbrev pub is_holding : ObjId → Link → Bool
  is_holding o link = link.target.0 == o.0 && is_containment meta link.reference

  -- the holder that is found holds
  pub Holds-holder : (o h : ObjId) → holder meta g o ≡ Some h → Holds meta g h o
  Holds-holder o h is = by (find (is_holding o) g.links) refl is
    where
      by : (found : Option Link) → find (is_holding o) g.links ≡ found → option_map (λ link. link.source) found ≡ Some h → Holds meta g h o
      by None at is = cc
      by (Some link) at is =
          let there = Contains-find (is_holding o) g.links link at in
          let passes = and_parts (link.target.0 == o.0) (is_containment meta link.reference) there.1 in
          record { link = link; there = there.0; containment = passes.1; from = cc; to = same_object link.target o (eqb-true link.target.0 o.0 passes.0) }

  -- what comes to an object by so many steps stands in one level more
  Contains-levels_from-within : (n : ℕ) (x o : ObjId) → is_within meta g n x o ≡ true → Contains (levels_from meta g (suc n) (o ∷ [])) x
  Contains-levels_from-within zero x o is = let same : x ≡ o = same_object x o (eqb-true x.0 o.0 is) in
      subst (λ y. Contains (levels_from meta g (suc zero) (o ∷ [])) y) (sym same) (Contains-levels_from-first zero (o ∷ []) o (Contains-head o []))
  Contains-levels_from-within (suc n) x o is =
      elim (or_cases (x.0 == o.0) (option_map_or (λ h. is_within meta g n h o) (holder meta g x) false) is) [
        | inl equal ↦ let same : x ≡ o = same_object x o (eqb-true x.0 o.0 equal) in
            subst (λ y. Contains (levels_from meta g (suc (suc n)) (o ∷ [])) y) (sym same) (Contains-levels_from-first (suc n) (o ∷ []) o (Contains-head o []))
        | inr above ↦ by (λ h found. Contains-levels_from-within n h o found) (holder meta g x) refl above
      ]
    where
      by : ((h : ObjId) → is_within meta g n h o ≡ true → Contains (levels_from meta g (suc n) (o ∷ [])) h)
          → (found : Option ObjId) → holder meta g x ≡ found → option_map_or (λ h. is_within meta g n h o) found false ≡ true
          → Contains (levels_from meta g (suc (suc n)) (o ∷ [])) x
      by rest None at above = cc
      by rest (Some h) at above = Contains-levels_from-held (suc n) (o ∷ []) h x (rest h above) (Holds-holder x h at)

  -- so does what is inside the object
  pub Contains-levels_from-inside : (x o : ObjId) → is_inside meta g x o ≡ true → Contains (levels_from meta g (suc (length g.live)) (o ∷ [])) x
  Contains-levels_from-inside x o is = Contains-levels_from-within (length g.live) x o is
