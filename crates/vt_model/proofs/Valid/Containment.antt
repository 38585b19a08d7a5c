-- What is in what: paths of containments, and the test that follows them from the inner object to the outer one.
use Rattle.std.proofs.Common.{◌≡◌, ℕ, zero, suc, List, [], ◌∷◌, ◌++◌, map, refl, sym, ap, subst, ◌∙◌, arith, Bool, true, false, ◌⊎◌, inl, inr, ◌↔◌}
use Rattle.std.specs.Prelude.{◌≤◌, ◌==◌, ◌&&◌, length, find, All, Contains, Option, Some, None, option_map}
use Rattle.std.specs.Option.{option_map_or}
use Rattle.std.proofs.lemmas.Bool.{and_parts, and_from, or_cases, or_left, or_right, eqb-true, eq-eqb}
use Rattle.std.proofs.lemmas.List.{length-map}
use Rattle.std.proofs.lemmas.List.Elements.{All-cons, All-nil, All-contains}
use Rattle.vt_base.specs.declared.numbers.ObjId.{ObjId}
use Rattle.vt_model.specs.Metamodel.{Metamodel}
use Rattle.vt_model.specs.Model.{Model}
use Rattle.vt_model.specs.Linking.{is_containment}
use Rattle.vt_model.specs.Containing.{Holds, LeadsOver, IsIn, holder, is_within, is_inside}
use Rattle.vt_model.specs.Fits.{FitsReference}
use Rattle.vt_model.specs.Valid.{IsOnlyContainer}
use Rattle.vt_model.specs.declared.model.Link.{Link}
use Rattle.vt_facts.proofs.MemberLemmas.{Contains-find, find-some, Contains-map, Contains-cons_cases, Contains-nil, AreDifferent, length-different}
use Rattle.vt_model.proofs.Valid.Sides.{LinkSide}

-- equal numbers are of one object
pub same_object : (o p : ObjId) → o.0 ≡ p.0 → o ≡ p
same_object o p same = ap (λ n. record { 0 = n }) same

-- the one object is the other or in it
abbrev pub IsAtOrIn : Metamodel → Model → ObjId → ObjId → Type 0
IsAtOrIn meta g inner outer = (inner ≡ outer) ⊎ IsIn meta g inner outer

module _ (meta : Metamodel) (g : Model) where
  -- ---- paths

  -- a path, and then another one from where it ends
  LeadsOver-append : (a b c : ObjId) (path rest : List ObjId) → LeadsOver meta g a path b → LeadsOver meta g b rest c → LeadsOver meta g a (path ++ b ∷ rest) c
  LeadsOver-append a b c [] rest first then = (first, then)
  LeadsOver-append a b c (o ∷ path) rest first then = (first.0, LeadsOver-append o b c path rest first.1 then)

  -- what is in an object is in whatever that is in
  pub IsIn-trans : (a b c : ObjId) → IsIn meta g b a → IsIn meta g c b → IsIn meta g c a
  IsIn-trans a b c outer inner = (outer.0 ++ b ∷ inner.0, LeadsOver-append a b c outer.0 inner.0 outer.1 inner.1)

  -- what is held directly is in
  pub IsIn-Holds : (outer inner : ObjId) → Holds meta g outer inner → IsIn meta g inner outer
  IsIn-Holds outer inner holds = ([], holds)

  -- the same where the middle object may be the outer one
  pub IsIn-at_or_in : (a b c : ObjId) → IsAtOrIn meta g b a → IsIn meta g c b → IsIn meta g c a
  IsIn-at_or_in a b c (inl is) inner = subst (IsIn meta g c) is inner
  IsIn-at_or_in a b c (inr outer) inner = IsIn-trans a b c outer inner

  -- where the inner object may be the middle one
  pub IsIn-of_at_or_in : (a b c : ObjId) → IsIn meta g b a → IsAtOrIn meta g c b → IsIn meta g c a
  IsIn-of_at_or_in a b c outer (inl is) = subst (λ x. IsIn meta g x a) (sym is) outer
  IsIn-of_at_or_in a b c outer (inr inner) = IsIn-trans a b c outer inner

  -- and where both may be
  pub IsAtOrIn-trans : (a b c : ObjId) → IsAtOrIn meta g b a → IsAtOrIn meta g c b → IsAtOrIn meta g c a
  IsAtOrIn-trans a b c outer (inl is) = subst (λ x. IsAtOrIn meta g x a) (sym is) outer
  IsAtOrIn-trans a b c outer (inr inner) = inr (IsIn-at_or_in a b c outer inner)

  -- ---- what the test says is so

  -- a link by which an object is held
  abbrev is_holding : ObjId → Link → Bool
  is_holding o link = link.target.0 == o.0 && is_containment meta link.reference

  -- the holder that is found holds
  Holds-holder : (o h : ObjId) → holder meta g o ≡ Some h → Holds meta g h o
  Holds-holder o h is = by (find (is_holding o) g.links) refl is
    where
      by : (found : Option Link) → find (is_holding o) g.links ≡ found → option_map (λ link. link.source) found ≡ Some h → Holds meta g h o
      by None at is = cc
      by (Some link) at is =
          let there = Contains-find (is_holding o) g.links link at in
          let passes = and_parts (link.target.0 == o.0) (is_containment meta link.reference) there.1 in
          record { link = link; there = there.0; containment = passes.1; from = cc; to = same_object link.target o (eqb-true link.target.0 o.0 passes.0) }

  -- what holds the object is within so many steps of the outer one
  abbrev holder_is_within : ℕ → ObjId → ObjId → Bool
  holder_is_within n o outer = option_map_or (λ h. is_within meta g n h outer) (holder meta g o) false

  -- something holds the object, and is within so many steps of the outer one
  abbrev IsHeldWithin : ℕ → ObjId → ObjId → Type 0
  IsHeldWithin n o outer = (h : ObjId) × (holder meta g o ≡ Some h) × (is_within meta g n h outer ≡ true)

  -- an object within one step more is the outer one, or what holds it is within so many steps
  is_within-cases : (n : ℕ) (o outer : ObjId) → is_within meta g (suc n) o outer ≡ true → (o ≡ outer) ⊎ IsHeldWithin n o outer
  is_within-cases n o outer is =
      elim (or_cases (o.0 == outer.0) (holder_is_within n o outer) is) [ inl same ↦ inl (same_object o outer (eqb-true o.0 outer.0 same)) | inr above ↦ inr (by (holder meta g o) refl above) ]
    where
      by : (found : Option ObjId) → holder meta g o ≡ found → option_map_or (λ h. is_within meta g n h outer) found false ≡ true → IsHeldWithin n o outer
      by None at above = cc
      by (Some h) at above = (h, at, above)

  -- so many steps from holder to holder are a path
  IsAtOrIn-is_within : (n : ℕ) (o outer : ObjId) → is_within meta g n o outer ≡ true → IsAtOrIn meta g o outer
  IsAtOrIn-is_within zero o outer is = inl (same_object o outer (eqb-true o.0 outer.0 is))
  IsAtOrIn-is_within (suc n) o outer is = elim (is_within-cases n o outer is) [
    | inl same ↦ inl same
    | inr above ↦ inr (IsIn-at_or_in outer above.0 o (IsAtOrIn-is_within n above.0 outer above.2) (IsIn-Holds above.0 o (Holds-holder o above.0 above.1)))
  ]

  -- ---- what is so the test says

  -- no step is needed where the objects are the same
  is_within-same : (n : ℕ) (o : ObjId) → is_within meta g n o o ≡ true
  is_within-same zero o = eq-eqb o.0 o.0 refl
  is_within-same (suc n) o = or_left (o.0 == o.0) (holder_is_within n o o) (eq-eqb o.0 o.0 refl)

  -- what is within so many steps from the holder is within one step more
  is_within-holder : (n : ℕ) (o h outer : ObjId) → holder meta g o ≡ Some h → is_within meta g n h outer ≡ true → is_within meta g (suc n) o outer ≡ true
  is_within-holder n o h outer at is = or_right (o.0 == outer.0) (holder_is_within n o outer) (ap (λ found. option_map_or (λ h. is_within meta g n h outer) found false) at ∙ is)

  -- more steps find no less
  is_within-more : (n m : ℕ) (o outer : ObjId) → is_within meta g n o outer ≡ true → n ≤ m → is_within meta g m o outer ≡ true
  is_within-more zero m o outer is fewer = subst (λ p. is_within meta g m o p ≡ true) (same_object o outer (eqb-true o.0 outer.0 is)) (is_within-same m o)
  is_within-more (suc n) zero o outer is fewer = absurd (omega arith)
  is_within-more (suc n) (suc m) o outer is fewer = elim (is_within-cases n o outer is) [
    | inl same ↦ subst (λ p. is_within meta g (suc m) o p ≡ true) same (is_within-same (suc m) o)
    | inr above ↦ is_within-holder m o above.0 outer above.1 (is_within-more n m above.0 outer above.2 (omega arith))
  ]

  -- the objects between are in the outer one
  IsIn-between : (outer o : ObjId) (path : List ObjId) → LeadsOver meta g outer path o → (n : ℕ) → Contains (map (λ x. x.0) path) n → IsIn meta g (record { 0 = n }) outer
  IsIn-between outer o [] leads n there = absurd (Contains-nil n there)
  IsIn-between outer o (x ∷ path) leads n there = elim (Contains-cons_cases x.0 n (map (λ x. x.0) path) there) [
    | inl is ↦ subst (λ y. IsIn meta g y outer) (same_object x (record { 0 = n }) is) (IsIn-Holds outer x leads.0)
    | inr later ↦ IsIn-trans outer x (record { 0 = n }) (IsIn-Holds outer x leads.0) (IsIn-between x o path leads.1 n later)
  ]

  module _ (side : LinkSide meta g) where
    -- what holds an object is the holder that is found
    holder-Holds : (h o : ObjId) → Holds meta g h o → holder meta g o ≡ Some h
    holder-Holds h o holds =
        let passes = and_from (holds.link.target.0 == o.0) (is_containment meta holds.link.reference) (eq-eqb holds.link.target.0 o.0 (ap (λ x. x.0) holds.to)) holds.containment in
        let found = find-some (is_holding o) g.links holds.link holds.there passes in
        let there = Contains-find (is_holding o) g.links found.0 found.1 in
        let parts = and_parts (found.0.target.0 == o.0) (is_containment meta found.0.reference) there.1 in
        let target : found.0.target ≡ holds.link.target = same_object found.0.target o (eqb-true found.0.target.0 o.0 parts.0) ∙ sym holds.to in
        let is : found.0 ≡ holds.link = All-contains (IsOnlyContainer meta g) g.links holds.link side.containers holds.there holds.containment found.0 there.0 parts.1 target in
        ap (option_map (λ link. link.source)) found.1 ∙ ap Some (ap (λ link. link.source) is ∙ holds.from)

    -- one step finds what holds an object
    is_within-held_there : (n : ℕ) (o h outer : ObjId) → o ≡ h → Holds meta g outer h → is_within meta g (suc n) o outer ≡ true
    is_within-held_there n o h outer is holds =
        is_within-holder n o outer outer (subst (λ p. holder meta g p ≡ Some outer) (sym is) (holder-Holds outer h holds)) (is_within-same n outer)

    -- one step more finds what holds the outer object
    is_within-held : (n : ℕ) (o h outer : ObjId) → is_within meta g n o h ≡ true → Holds meta g outer h → is_within meta g (suc n) o outer ≡ true
    is_within-held zero o h outer is holds = is_within-held_there zero o h outer (same_object o h (eqb-true o.0 h.0 is)) holds
    is_within-held (suc n) o h outer is holds = elim (is_within-cases n o h is) [
      | inl same ↦ is_within-held_there (suc n) o h outer same holds
      | inr above ↦ is_within-holder (suc n) o above.0 outer above.1 (is_within-held n above.0 h outer above.2 holds)
    ]

    -- a path takes one step more than it has objects between
    is_within-LeadsOver : (outer o : ObjId) (path : List ObjId) → LeadsOver meta g outer path o → is_within meta g (suc (length path)) o outer ≡ true
    is_within-LeadsOver outer o [] holds = is_within-held zero o o outer (is_within-same zero o) holds
    is_within-LeadsOver outer o (x ∷ path) leads = is_within-held (suc (length path)) o x outer (is_within-LeadsOver x o path leads.1) leads.0

    -- the numbers of the live objects
    abbrev live_numbers : List ℕ
    live_numbers = map (λ o. o.number.0) g.live

    -- what holds something is live
    Contains-live : (h o : ObjId) → Holds meta g h o → Contains live_numbers h.0
    Contains-live h o holds =
        let fits = All-contains (FitsReference meta g.live) g.links holds.link side.links_fit holds.there in
        let source = fits.source.is_live in
        subst (λ x. Contains live_numbers x.0) holds.from (Contains-map (λ x. x.number.0) g.live (record { number = holds.link.source; name = source.name; class = fits.source.own }) source.there)

    -- the objects of a path, but for the last, differ
    AreDifferent-path : (outer o : ObjId) (path : List ObjId) → LeadsOver meta g outer path o → AreDifferent (outer.0 ∷ map (λ x. x.0) path)
    AreDifferent-path outer o [] leads = (λ there. Contains-nil outer.0 there, tt)
    AreDifferent-path outer o (x ∷ path) leads = (λ there. side.no_cycle outer (IsIn-between outer o (x ∷ path) leads outer.0 there), AreDifferent-path x o path leads.1)

    -- and are live
    All-live-path : (outer o : ObjId) (path : List ObjId) → LeadsOver meta g outer path o → All (Contains live_numbers) (outer.0 ∷ map (λ x. x.0) path)
    All-live-path outer o [] holds = All-cons (Contains live_numbers) outer.0 [] (Contains-live outer o holds) (All-nil (Contains live_numbers))
    All-live-path outer o (x ∷ path) leads = All-cons (Contains live_numbers) outer.0 (map (λ x. x.0) (x ∷ path)) (Contains-live outer x leads.0) (All-live-path x o path leads.1)

    -- so a path goes over fewer objects than are live
    length-path : (outer o : ObjId) (path : List ObjId) → LeadsOver meta g outer path o → suc (length path) ≤ length g.live
    length-path outer o path leads =
        let fewer = length-different (outer.0 ∷ map (λ x. x.0) path) live_numbers (AreDifferent-path outer o path leads) (All-live-path outer o path leads) in
        omega (arith, length-map path (λ x. x.0), length-map g.live (λ x. x.number.0))

    -- what is in an object passes the test
    pub is_inside-IsAtOrIn : (o outer : ObjId) → IsAtOrIn meta g o outer → is_inside meta g o outer ≡ true
    is_inside-IsAtOrIn o outer (inl is) = subst (λ p. is_inside meta g o p ≡ true) is (is_within-same (length g.live) o)
    is_inside-IsAtOrIn o outer (inr inside) = is_within-more (suc (length inside.0)) (length g.live) o outer (is_within-LeadsOver outer o inside.0 inside.1) (length-path outer o inside.0 inside.1)

    -- the test is the fact
    pub is_inside-iff : (o outer : ObjId) → (is_inside meta g o outer ≡ true) ↔ IsAtOrIn meta g o outer
    is_inside-iff o outer = (IsAtOrIn-is_within (length g.live) o outer, is_inside-IsAtOrIn o outer)
