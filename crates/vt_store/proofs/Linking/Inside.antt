-- What an object is in directly, by the links that lead to it, and the steps of the test for containment.
use Rattle.std.proofs.Common.{◌≡◌, ℕ, zero, suc, ◌+◌, ◌-◌, ◌<◌, ◌≤◌, List, [], ◌∷◌, refl, sym, ap, subst, ◌∙◌, arith, Bool, true, false, Option, Some, None, inl, inr}
use Rattle.std.specs.Prelude.{◌==◌, ◌&&◌, find, Contains, if◌then◌else◌, option_map, unwrap_or}
use Rattle.std.specs.List.Sorted.{IsStrictlySortedBy}
use Rattle.std.specs.Ordering.{nat_cmp}
use Rattle.std.proofs.lemmas.Bool.{and_parts, and_from, eqb-true, eq-eqb, both_ways}
use Rattle.std.proofs.lemmas.List.Elements.{All-contains}
use Rattle.vt_base.specs.declared.numbers.ObjId.{ObjId}
use Rattle.vt_base.specs.declared.numbers.RefId.{RefId}
use Rattle.vt_model.specs.Metamodel.{Metamodel}
use Rattle.vt_model.specs.Model.{Model}
use Rattle.vt_model.specs.Linking.{is_containment}
use Rattle.vt_model.specs.Containing.{holder, is_within}
use Rattle.vt_model.specs.Valid.{IsValid, IsOnlyContainer}
use Rattle.vt_model.specs.declared.model.Link.{Link}
use Rattle.vt_facts.proofs.MemberLemmas.{Contains-nil, Contains-head, Contains-behind, Contains-cons_cases, Contains-find, find-some}
use Rattle.vt_store.specs.Inside.Displaced.{sources_of, first_or, holder_in}
use Rattle.vt_store.proofs.Linking.Ends.{from_to, AreSources, listed_stands, stands_listed}
use Rattle.vt_graph.proofs.SlotLemmas.{same_object}

-- ---- the steps

module _ (meta : Metamodel) (g : Model) (o outer : ObjId) where
  -- an object is within itself by any number of steps
  pub within_itself : (n : ℕ) → (o.0 == outer.0) ≡ true → is_within meta g n o outer ≡ true
  within_itself zero same = same
  within_itself (suc n) same = rw same refl

  -- where nothing holds it, it is within no other
  pub within_none : (n : ℕ) → (o.0 == outer.0) ≡ false → holder meta g o ≡ None → is_within meta g n o outer ≡ false
  within_none zero differs none = differs
  within_none (suc n) differs none = rw (differs, none) refl

  -- else one step fewer is left from what holds it
  pub within_step : (n k : ℕ) (h : ObjId) → k < n → (o.0 == outer.0) ≡ false → holder meta g o ≡ Some h
      → is_within meta g (n - (k + 1)) h outer ≡ is_within meta g (n - k) o outer
  within_step n k h more differs held =
      let left : n - k ≡ suc (n - (k + 1)) = omega arith in
      rw (left, differs, held) refl

  -- at the last step only itself is left
  pub within_end : (n k : ℕ) → n ≤ k → is_within meta g (n - k) o outer ≡ (o.0 == outer.0)
  within_end n k last =
      let none : n - k ≡ 0 = omega arith in
      rw none refl

-- ---- what holds an object

module _ (meta : Metamodel) (g : Model) (valid : IsValid meta g) (o : ObjId) where
  -- a containment that leads to the object
  abbrev is_holding : Link → Bool
  is_holding link = link.target.0 == o.0 && is_containment meta link.reference

  holding : (l : Link) → l.target ≡ o → is_containment meta l.reference ≡ true → is_holding l ≡ true
  holding l target contains = and_from (l.target.0 == o.0) (is_containment meta l.reference) (eq-eqb l.target.0 o.0 (ap (λ x. x.0) target)) contains

  -- it is the source of the only one
  pub holder_some : (l : Link) → Contains g.links l → is_containment meta l.reference ≡ true → l.target ≡ o → holder meta g o ≡ Some l.source
  holder_some l there contains target =
      let found = find-some is_holding g.links l there (holding l target contains) in
      let at = Contains-find is_holding g.links found.0 found.1 in
      let parts = and_parts (found.0.target.0 == o.0) (is_containment meta found.0.reference) at.1 in
      let is : found.0 ≡ l = All-contains (IsOnlyContainer meta g) g.links l valid.containers there contains found.0 at.0 parts.1
      (same_object found.0.target o (eqb-true found.0.target.0 o.0 parts.0) ∙ sym target) in
      ap (option_map (λ link. link.source)) (found.1 ∙ ap Some is)

  -- and none where there is none
  pub holder_none : ((l : Link) → Contains g.links l → is_containment meta l.reference ≡ true → l.target ≡ o → ⊥) → holder meta g o ≡ None
  holder_none none = by (find is_holding g.links) refl
    where
      by : (f : Option Link) → find is_holding g.links ≡ f → option_map (λ link. link.source) f ≡ None
      by None at = refl
      by (Some l) at =
          let was = Contains-find is_holding g.links l at in
          let parts = and_parts (l.target.0 == o.0) (is_containment meta l.reference) was.1 in
          absurd (none l was.0 parts.1 (same_object l.target o (eqb-true l.target.0 o.0 parts.0)))

  -- ---- by the lists of what leads to the object

  module _ {E : Type 0} (reference : E → RefId) (objects : E → List ObjId) (lists : List E) (ends : AreSources reference objects g o lists) where
    -- what some of the lists give, where they have all that holds it
    abbrev HoldAll : List E → Type 0
    HoldAll some = (l : Link) → Contains g.links l → is_containment meta l.reference ≡ true → l.target ≡ o
        → (e : E) × Contains some e × (reference e ≡ l.reference) × Contains (objects e) l.source

    among : (some : List E) → ((e : E) → Contains some e → Contains lists e) → HoldAll some → holder_in reference objects meta some ≡ holder meta g o
    among [] old all = sym (holder_none (λ l there contains target. Contains-nil (all l there contains target).0 (all l there contains target).1))
    among (e ∷ es) old all = by (among es (λ x there. old x (Contains-behind e x es there))) (is_containment meta (reference e)) refl (objects e) refl
      where
        -- a list that gives none leaves all to the others
        rest : ((l : Link) → is_containment meta l.reference ≡ true → reference e ≡ l.reference → Contains (objects e) l.source → ⊥) → HoldAll es
        rest none l there contains target =
            let at = all l there contains target in
            elim (Contains-cons_cases e at.0 es at.1) [
              | inl is ↦ absurd (none l contains (ap reference is ∙ at.2) (subst (λ x. Contains (objects x) l.source) (sym is) at.3))
              | inr later ↦ (at.0, later, at.2, at.3)
            ]

        by : (HoldAll es → holder_in reference objects meta es ≡ holder meta g o) → (b : Bool) → is_containment meta (reference e) ≡ b → (os : List ObjId) → objects e ≡ os
            → (if b then first_or os (holder_in reference objects meta es) else holder_in reference objects meta es) ≡ holder meta g o
        by later true contains [] none = later (rest (λ l _ _ of. Contains-nil l.source (subst (λ os. Contains os l.source) none of)))
        by later true contains (s ∷ os) of =
            let first : Contains (objects e) s = subst (λ os. Contains os s) (sym of) (Contains-head s os) in
            sym (holder_some (from_to s (reference e) o) (listed_stands reference objects g o lists ends e s (old e (Contains-head e es)) first) contains refl)
        by later false plain os of = later (rest (λ l contains is _. both_ways (is_containment meta l.reference) (ap (is_containment meta) (sym is) ∙ plain) contains))

    holder_among : holder_in reference objects meta lists ≡ holder meta g o
    holder_among = among lists (λ e there. there) (λ l there contains target. stands_listed reference objects g o lists ends l there target)

  -- the first object of the first list that isn't empty, of those of containments
  pub holder_in_is : {E : Type 0} (reference : E → RefId) (objects : E → List ObjId) (lists : List E) → IsStrictlySortedBy (λ a b. nat_cmp (reference a).0 (reference b).0) lists
      → ((r : RefId) → unwrap_or (option_map objects (find (λ e. (reference e).0 == r.0) lists)) [] ≡ sources_of g o r) → holder_in reference objects meta lists ≡ holder meta g o
  holder_in_is reference objects lists rise objects_are = holder_among reference objects lists (record { rise = rise; objects_are = objects_are })
