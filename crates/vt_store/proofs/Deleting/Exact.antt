-- A level is what comes to an object of the first one by exactly so many steps from holder to holder.
use Rattle.std.proofs.Common.{◌≡◌, ℕ, zero, suc, List, [], ◌∷◌, refl, sym, ap, subst, ◌∙◌, inl, inr, ◌↔◌}
use Rattle.std.specs.Prelude.{◌==◌, Contains, Option, Some, None, option_map, option_and_then}
use Rattle.std.proofs.lemmas.Bool.{and_from, eq-eqb}
use Rattle.vt_base.specs.declared.numbers.ObjId.{ObjId}
use Rattle.vt_model.specs.Metamodel.{Metamodel}
use Rattle.vt_model.specs.Model.{Model}
use Rattle.vt_model.specs.Linking.{is_containment}
use Rattle.vt_model.specs.Containing.{Holds, holder}
use Rattle.vt_facts.proofs.MemberLemmas.{Contains-nil, Contains-head, Contains-cons_cases, find-some}
use Rattle.vt_model.proofs.Valid.Sides.{LinkSide}
use Rattle.vt_store.specs.Inside.Levels.{level_below, level_at, holder_after}
use Rattle.vt_store.proofs.Deleting.Levels.{Holds-holder, is_holding, Contains-level_below, Holds-level_below}
use Rattle.vt_store.proofs.Deleting.Counted.{same_holder}

module _ (meta : Metamodel) (g : Model) (side : LinkSide meta g) where
  -- what holds an object is the holder that is found
  holder-Holds : (h x : ObjId) → Holds meta g h x → holder meta g x ≡ Some h
  holder-Holds h x holds =
      let passes = and_from (holds.link.target.0 == x.0) (is_containment meta holds.link.reference) (eq-eqb holds.link.target.0 x.0 (ap (λ o. o.0) holds.to)) holds.containment in
      let found = find-some (is_holding meta g x) g.links holds.link holds.there passes in
      let at : holder meta g x ≡ Some found.0.source = ap (option_map (λ link. link.source)) found.1 in
      at ∙ ap Some (same_holder meta g side found.0.source h x (Holds-holder meta g x found.0.source at) holds)

  -- what stands so far below comes to an object of the first level by so many steps
  holder_after-level_at : (n : ℕ) (level : List ObjId) (x : ObjId) → Contains (level_at meta g n level) x → (p : ObjId) × Contains level p × (holder_after meta g n x ≡ Some p)
  holder_after-level_at zero level x there = (x, there, refl)
  holder_after-level_at (suc n) level x there =
      let below = holder_after-level_at n (level_below meta g level) x there in
      let above = Holds-level_below meta g level below.0 below.1 in
      (above.0, above.1, ap (option_and_then (holder meta g)) below.2 ∙ holder-Holds above.0 below.0 above.2)

  -- and what comes to one stands there
  Contains-level_at : (n : ℕ) (level : List ObjId) (x p : ObjId) → Contains level p → holder_after meta g n x ≡ Some p → Contains (level_at meta g n level) x
  Contains-level_at zero level x p there comes = let is : x ≡ p = cc in subst (Contains level) (sym is) there
  Contains-level_at (suc n) level x p there comes = by (λ q below at. Contains-level_at n (level_below meta g level) x q below at) (holder_after meta g n x) refl comes
    where
      by : ((q : ObjId) → Contains (level_below meta g level) q → holder_after meta g n x ≡ Some q → Contains (level_at meta g n (level_below meta g level)) x)
          → (found : Option ObjId) → holder_after meta g n x ≡ found → option_and_then (holder meta g) found ≡ Some p → Contains (level_at meta g n (level_below meta g level)) x
      by rest None at comes = cc
      by rest (Some q) at comes = rest q (Contains-level_below meta g level p q there (Holds-holder meta g q p comes)) at

  -- below one object
  pub level_at-iff : (n : ℕ) (o x : ObjId) → Contains (level_at meta g n (o ∷ [])) x ↔ (holder_after meta g n x ≡ Some o)
  level_at-iff n o x = (
    λ there.
        let by = holder_after-level_at n (o ∷ []) x there in
        elim (Contains-cons_cases o by.0 [] by.1) [ inl is ↦ by.2 ∙ ap Some (sym is) | inr none ↦ absurd (Contains-nil by.0 none) ],
    λ comes. Contains-level_at n (o ∷ []) x o (Contains-head o []) comes,
  )
