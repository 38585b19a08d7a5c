-- What a new link displaces, in three cases.
use Rattle.std.proofs.Common.{◌≡◌, ap, Bool, true, false, not, ◌⊎◌, inl, inr}
use Rattle.std.specs.Prelude.{◌==◌, ◌&&◌, ◌||◌}
use Rattle.std.proofs.lemmas.Bool.{and_parts, and_from, or_cases, or_left, or_right, eqb-true, eq-eqb, not-true, not_from_false}
use Rattle.vt_model.specs.Metamodel.{Metamodel}
use Rattle.vt_model.specs.Linking.{is_many, is_containment, has_single_opposite, displaces}
use Rattle.vt_model.specs.declared.model.Link.{Link}
use Rattle.vt_graph.proofs.SlotLemmas.{same_object}
use Rattle.vt_graph.proofs.Linked.Ends.{same_reference}

module _ (meta : Metamodel) (new old : Link) where
  -- another target of a single reference
  pub record IsOldTarget : Type 0 where
    pub source : old.source ≡ new.source
    pub reference : old.reference ≡ new.reference
    pub single : is_many meta new.reference ≡ false

  -- another source of one whose opposite is single
  pub record IsOldSource : Type 0 where
    pub target : old.target ≡ new.target
    pub reference : old.reference ≡ new.reference
    pub single : has_single_opposite meta new.reference ≡ true

  -- another container
  pub record IsOldContainer : Type 0 where
    pub target : old.target ≡ new.target
    pub contains : is_containment meta new.reference ≡ true
    pub contained : is_containment meta old.reference ≡ true

  -- the three tests
  abbrev is_old_target : Bool
  is_old_target = old.source.0 == new.source.0 && old.reference.0 == new.reference.0 && not (is_many meta new.reference)

  abbrev is_old_source : Bool
  is_old_source = old.target.0 == new.target.0 && old.reference.0 == new.reference.0 && has_single_opposite meta new.reference

  abbrev is_old_container : Bool
  is_old_container = old.target.0 == new.target.0 && is_containment meta new.reference && is_containment meta old.reference

  -- three tests that hold
  three_parts : (a b c : Bool) → (a && b && c) ≡ true → (a ≡ true) × (b ≡ true) × (c ≡ true)
  three_parts a b c e =
      let outer = and_parts (a && b) c e in
      let inner = and_parts a b outer.0 in
      (inner.0, inner.1, outer.1)

  three_from : (a b c : Bool) → a ≡ true → b ≡ true → c ≡ true → (a && b && c) ≡ true
  three_from a b c x y z = and_from (a && b) c (and_from a b x y) z

  -- each case by its test
  target_case : is_old_target ≡ true → IsOldTarget
  target_case e =
      let parts = three_parts (old.source.0 == new.source.0) (old.reference.0 == new.reference.0) (not (is_many meta new.reference)) e in
      record {
        source = same_object old.source new.source (eqb-true old.source.0 new.source.0 parts.0);
        reference = same_reference old.reference new.reference (eqb-true old.reference.0 new.reference.0 parts.1);
        single = not-true (is_many meta new.reference) parts.2;
      }

  source_case : is_old_source ≡ true → IsOldSource
  source_case e =
      let parts = three_parts (old.target.0 == new.target.0) (old.reference.0 == new.reference.0) (has_single_opposite meta new.reference) e in
      record {
        target = same_object old.target new.target (eqb-true old.target.0 new.target.0 parts.0);
        reference = same_reference old.reference new.reference (eqb-true old.reference.0 new.reference.0 parts.1);
        single = parts.2;
      }

  container_case : is_old_container ≡ true → IsOldContainer
  container_case e =
      let parts = three_parts (old.target.0 == new.target.0) (is_containment meta new.reference) (is_containment meta old.reference) e in
      record {
        target = same_object old.target new.target (eqb-true old.target.0 new.target.0 parts.0);
        contains = parts.1;
        contained = parts.2;
      }

  -- what is displaced is so in one of the cases
  pub displaces-cases : displaces meta new old ≡ true → IsOldTarget ⊎ (IsOldSource ⊎ IsOldContainer)
  displaces-cases e = elim (or_cases (is_old_target || is_old_source) is_old_container e) [
    | inl first ↦ (elim (or_cases is_old_target is_old_source first) [ inl here ↦ inl (target_case here) | inr here ↦ inr (inl (source_case here)) ])
    | inr here ↦ inr (inr (container_case here))
  ]

  -- and in each case it is displaced
  pub displaces-old_target : IsOldTarget → displaces meta new old ≡ true
  displaces-old_target is = or_left (is_old_target || is_old_source) is_old_container (or_left is_old_target is_old_source
      (three_from (old.source.0 == new.source.0) (old.reference.0 == new.reference.0) (not (is_many meta new.reference))
      (eq-eqb old.source.0 new.source.0 (ap (λ x. x.0) is.source)) (eq-eqb old.reference.0 new.reference.0 (ap (λ x. x.0) is.reference)) (not_from_false (is_many meta new.reference) is.single)))

  pub displaces-old_source : IsOldSource → displaces meta new old ≡ true
  displaces-old_source is = or_left (is_old_target || is_old_source) is_old_container (or_right is_old_target is_old_source
      (three_from (old.target.0 == new.target.0) (old.reference.0 == new.reference.0) (has_single_opposite meta new.reference)
      (eq-eqb old.target.0 new.target.0 (ap (λ x. x.0) is.target)) (eq-eqb old.reference.0 new.reference.0 (ap (λ x. x.0) is.reference)) is.single))

  pub displaces-old_container : IsOldContainer → displaces meta new old ≡ true
  displaces-old_container is = or_right (is_old_target || is_old_source) is_old_container
      (three_from (old.target.0 == new.target.0) (is_containment meta new.reference) (is_containment meta old.reference)
      (eq-eqb old.target.0 new.target.0 (ap (λ x. x.0) is.target)) is.contains is.contained)
