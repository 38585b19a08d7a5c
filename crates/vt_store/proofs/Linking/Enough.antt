-- The test for containment with more steps than are needed.
use Rattle.std.proofs.Common.{◌≡◌, ℕ, zero, suc, ◌≤◌, ◌<◌, map, refl, sym, ap, subst, ◌∙◌, ◌⊎◌, inl, inr, arith, Bool, true, false}
use Rattle.std.specs.Prelude.{◌&&◌, ◌==◌, find, length, Option, Some, None, option_map}
use Rattle.std.specs.Option.{option_map_or}
use Rattle.std.proofs.lemmas.Bool.{eqb-true, eq-eqb, and_parts, or_cases, or_left, or_right}
use Rattle.std.specs.Ordering.{nat_cmp}
use Rattle.std.proofs.lemmas.List.{length-map}
use Rattle.std.proofs.lemmas.List.Elements.{All-map}
use Rattle.std.proofs.lemmas.Map.Views.{length-le_from_below}
use Rattle.vt_graph.proofs.HadLemmas.{rises-map}
use Rattle.vt_base.specs.declared.numbers.ObjId.{ObjId}
use Rattle.vt_model.specs.Metamodel.{Metamodel}
use Rattle.vt_model.specs.Model.{Model}
use Rattle.vt_model.specs.Linking.{is_containment}
use Rattle.vt_model.specs.Containing.{Holds, holder, is_within, is_inside}
use Rattle.vt_model.specs.Valid.{IsValid}
use Rattle.vt_model.specs.declared.model.Link.{Link}
use Rattle.vt_facts.proofs.MemberLemmas.{Contains-find}
use Rattle.vt_model.proofs.Valid.Sides.{LinkSide-valid}
use Rattle.vt_model.proofs.Valid.Containment.{same_object, IsAtOrIn, IsIn-Holds, IsIn-at_or_in, is_inside-iff}

module _ (meta : Metamodel) (g : Model) where
  -- the holder that is found holds
  Holds-holder : (o h : ObjId) → holder meta g o ≡ Some h → Holds meta g h o
  Holds-holder o h is = by (find (λ link. link.target.0 == o.0 && is_containment meta link.reference) g.links) refl is
    where
      by : (found : Option Link) → find (λ link. link.target.0 == o.0 && is_containment meta link.reference) g.links ≡ found
          → option_map (λ link. link.source) found ≡ Some h → Holds meta g h o
      by None at is = cc
      by (Some link) at is =
          let there = Contains-find (λ link. link.target.0 == o.0 && is_containment meta link.reference) g.links link at in
          let passes = and_parts (link.target.0 == o.0) (is_containment meta link.reference) there.1 in
          record { link = link; there = there.0; containment = passes.1; from = cc; to = same_object link.target o (eqb-true link.target.0 o.0 passes.0) }

  abbrev held_within : ℕ → ObjId → ObjId → Bool
  held_within n o outer = option_map_or (λ h. is_within meta g n h outer) (holder meta g o) false

  -- an object within one step more is the outer one, or what holds it is within so many steps
  within-cases : (n : ℕ) (o outer : ObjId) → is_within meta g (suc n) o outer ≡ true
      → (o ≡ outer) ⊎ ((h : ObjId) × (holder meta g o ≡ Some h) × (is_within meta g n h outer ≡ true))
  within-cases n o outer is =
      elim (or_cases (o.0 == outer.0) (held_within n o outer) is) [ inl same ↦ inl (same_object o outer (eqb-true o.0 outer.0 same)) | inr above ↦ inr (by (holder meta g o) refl above) ]
    where
      by : (found : Option ObjId) → holder meta g o ≡ found → option_map_or (λ h. is_within meta g n h outer) found false ≡ true
          → (h : ObjId) × (holder meta g o ≡ Some h) × (is_within meta g n h outer ≡ true)
      by None at above = cc
      by (Some h) at above = (h, at, above)

  -- so many steps from holder to holder are a path
  IsAtOrIn-within : (n : ℕ) (o outer : ObjId) → is_within meta g n o outer ≡ true → IsAtOrIn meta g o outer
  IsAtOrIn-within zero o outer is = inl (same_object o outer (eqb-true o.0 outer.0 is))
  IsAtOrIn-within (suc n) o outer is = elim (within-cases n o outer is) [
    | inl same ↦ inl same
    | inr above ↦ inr (IsIn-at_or_in meta g outer above.0 o (IsAtOrIn-within n above.0 outer above.2) (IsIn-Holds meta g above.0 o (Holds-holder o above.0 above.1)))
  ]

  -- no step is needed where the objects are the same
  within-same : (n : ℕ) (o : ObjId) → is_within meta g n o o ≡ true
  within-same zero o = eq-eqb o.0 o.0 refl
  within-same (suc n) o = or_left (o.0 == o.0) (held_within n o o) (eq-eqb o.0 o.0 refl)

  -- more steps find no less
  within-more : (n m : ℕ) (o outer : ObjId) → is_within meta g n o outer ≡ true → n ≤ m → is_within meta g m o outer ≡ true
  within-more zero m o outer is fewer = subst (λ p. is_within meta g m o p ≡ true) (same_object o outer (eqb-true o.0 outer.0 is)) (within-same m o)
  within-more (suc n) zero o outer is fewer = absurd (omega arith)
  within-more (suc n) (suc m) o outer is fewer = elim (within-cases n o outer is) [
    | inl same ↦ subst (λ p. is_within meta g (suc m) o p ≡ true) same (within-same (suc m) o)
    | inr above ↦ or_right (o.0 == outer.0) (held_within m o outer)
        (ap (λ found. option_map_or (λ h. is_within meta g m h outer) found false) above.1 ∙ within-more n m above.0 outer above.2 (omega arith))
  ]

  -- no more steps are needed than there are live objects
  pub within_enough : IsValid meta g → (n : ℕ) (o outer : ObjId) → length g.live ≤ n → is_within meta g n o outer ≡ is_inside meta g o outer
  within_enough valid n o outer enough = by (is_within meta g n o outer) refl (is_inside meta g o outer) refl
    where
      by : (a : Bool) → is_within meta g n o outer ≡ a → (b : Bool) → is_inside meta g o outer ≡ b → is_within meta g n o outer ≡ is_inside meta g o outer
      by true is true inside = is ∙ sym inside
      by true is false outside = let inside = (is_inside-iff meta g (LinkSide-valid meta g valid) o outer).1 (IsAtOrIn-within n o outer is) in is ∙ sym inside
      by false is true inside = within-more (length g.live) n o outer inside enough ∙ sym inside
      by false is false outside = is ∙ sym outside

  -- there are no more live objects than numbers that were given out
  pub few_live : IsValid meta g → length g.live ≤ g.next
  few_live valid = subst (λ n. n ≤ g.next) (length-map g.live (λ o. o.number.0))
      (length-le_from_below g.next (map (λ o. o.number.0) g.live) (rises-map nat_cmp (λ o. o.number.0) g.live valid.objects_rise)
      (All-map (λ n. n < g.next) (λ o. o.number.0) g.live valid.numbers_below))

  -- so as many steps are enough
  pub within_all : IsValid meta g → (o outer : ObjId) → is_within meta g g.next o outer ≡ is_inside meta g o outer
  within_all valid o outer = within_enough valid g.next o outer (few_live valid)
