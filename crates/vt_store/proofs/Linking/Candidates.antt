-- The links that are found at the ends of a new one, each with its opposite, are those that it drops.
use Rattle.std.proofs.Common.{◌≡◌, List, [], ◌++◌, refl, sym, ap, subst, ◌∙◌, Bool, true, false, ◌⊎◌, inl, inr, Option, Some, None}
use Rattle.std.specs.Prelude.{Contains, if◌then◌else◌}
use Rattle.std.specs.List.{flat_map}
use Rattle.std.specs.Option.{option_map_or}
use Rattle.std.proofs.lemmas.Bool.{or_cases}
use Rattle.std.proofs.lemmas.List.Elements.{All-contains, Contains-append_left, Contains-append_right, Contains-append_cases}
use Rattle.vt_base.specs.declared.numbers.ObjId.{ObjId}
use Rattle.vt_base.specs.declared.numbers.RefId.{RefId}
use Rattle.vt_model.specs.Metamodel.{Metamodel}
use Rattle.vt_model.specs.Model.{Model}
use Rattle.vt_model.specs.Linking.{is_many, is_containment, has_single_opposite, link_back, displaces, is_dropped}
use Rattle.vt_model.specs.Sound.{IsSound}
use Rattle.vt_model.specs.Valid.{IsValid, HasItsOpposite}
use Rattle.vt_model.specs.declared.model.Link.{Link}
use Rattle.vt_facts.proofs.MemberLemmas.{Contains-nil}
use Rattle.vt_model.proofs.Valid.Backs.{IsBack-link_back}
use Rattle.vt_model.proofs.Valid.Dropped.{Comes, is_dropped-displaces, is_dropped-link_back}
use Rattle.vt_store.specs.Inside.Displaced.{targets_of, sources_of, with_opposite, to_targets, from_sources, old_targets, old_sources, held_from, old_containers, candidates}
use Rattle.vt_store.proofs.Linking.Ends.{from_to, Contains-with_opposite, Contains-from_with_opposite, target_stands, target_listed, source_stands, source_listed, AreSources, listed_stands, stands_listed}
use Rattle.vt_store.proofs.Linking.Displaces.{IsOldTarget, IsOldSource, IsOldContainer, displaces-cases, displaces-old_target, displaces-old_source, displaces-old_container}
use Rattle.vt_facts.proofs.ChosenLemmas.{Contains-flat_map, Contains-from_flat_map}
use Rattle.vt_graph.proofs.Linked.Stored.{same_ends}

-- ---- links with their opposites

module _ (meta : Metamodel) (o : ObjId) (r : RefId) (others : List ObjId) (x : Link) where
  Contains-to_targets : (t : ObjId) → Contains others t → Comes meta (from_to o r t) x → Contains (to_targets meta o r others) x
  Contains-to_targets t there comes = Contains-flat_map (λ t. with_opposite meta (from_to o r t)) others t x there (Contains-with_opposite meta (from_to o r t) x comes)

  Contains-from_to_targets : Contains (to_targets meta o r others) x → (t : ObjId) × Contains others t × Comes meta (from_to o r t) x
  Contains-from_to_targets there =
      let at = Contains-from_flat_map (λ t. with_opposite meta (from_to o r t)) others x there in
      (at.0, at.1, Contains-from_with_opposite meta (from_to o r at.0) x at.2)

  Contains-from_sources : (s : ObjId) → Contains others s → Comes meta (from_to s r o) x → Contains (from_sources meta r o others) x
  Contains-from_sources s there comes = Contains-flat_map (λ s. with_opposite meta (from_to s r o)) others s x there (Contains-with_opposite meta (from_to s r o) x comes)

  Contains-from_from_sources : Contains (from_sources meta r o others) x → (s : ObjId) × Contains others s × Comes meta (from_to s r o) x
  Contains-from_from_sources there =
      let at = Contains-from_flat_map (λ s. with_opposite meta (from_to s r o)) others x there in
      (at.0, at.1, Contains-from_with_opposite meta (from_to at.0 r o) x at.2)

module _ (meta : Metamodel) (g : Model) (new : Link) where
  -- a link is a displaced one that stands, or the opposite of one
  pub record Leaves (x : Link) : Type 0 where
    pub old : Link
    pub stands : Contains g.links old
    pub displaced : displaces meta new old ≡ true
    pub with : Comes meta old x

  -- ---- at the source

  Leaves-old_targets : (x : Link) → Contains (old_targets meta new (targets_of g new.source new.reference)) x → Leaves x
  Leaves-old_targets x there = by (is_many meta new.reference) refl there
    where
      by : (b : Bool) → is_many meta new.reference ≡ b
          → Contains (if b then [] else to_targets meta new.source new.reference (targets_of g new.source new.reference)) x → Leaves x
      by true many there = absurd (Contains-nil x there)
      by false single there =
          let at = Contains-from_to_targets meta new.source new.reference (targets_of g new.source new.reference) x there in
          let old = from_to new.source new.reference at.0 in
          record {
            old = old;
            stands = target_stands g new.source new.reference at.0 at.1;
            displaced = displaces-old_target meta new old (record { source = refl; reference = refl; single = single });
            with = at.2;
          }

  old_targets-Leaves : (old : Link) → Contains g.links old → IsOldTarget meta new old → (x : Link) → Comes meta old x
      → Contains (old_targets meta new (targets_of g new.source new.reference)) x
  old_targets-Leaves old there is x comes =
      let same : old ≡ from_to new.source new.reference old.target = same_ends old (from_to new.source new.reference old.target) is.source is.reference refl in
      subst (λ b. Contains (if b then [] else to_targets meta new.source new.reference (targets_of g new.source new.reference)) x) (sym is.single)
      (Contains-to_targets meta new.source new.reference (targets_of g new.source new.reference) x old.target
      (target_listed g new.source new.reference old there is.source is.reference) (subst (λ l. Comes meta l x) same comes))

  -- ---- at the target

  Leaves-old_sources : (x : Link) → Contains (old_sources meta new (sources_of g new.target new.reference)) x → Leaves x
  Leaves-old_sources x there = by (has_single_opposite meta new.reference) refl there
    where
      by : (b : Bool) → has_single_opposite meta new.reference ≡ b
          → Contains (if b then from_sources meta new.reference new.target (sources_of g new.target new.reference) else []) x → Leaves x
      by false many there = absurd (Contains-nil x there)
      by true single there =
          let at = Contains-from_from_sources meta new.target new.reference (sources_of g new.target new.reference) x there in
          let old = from_to at.0 new.reference new.target in
          record {
            old = old;
            stands = source_stands g new.target new.reference at.0 at.1;
            displaced = displaces-old_source meta new old (record { target = refl; reference = refl; single = single });
            with = at.2;
          }

  old_sources-Leaves : (old : Link) → Contains g.links old → IsOldSource meta new old → (x : Link) → Comes meta old x
      → Contains (old_sources meta new (sources_of g new.target new.reference)) x
  old_sources-Leaves old there is x comes =
      let same : old ≡ from_to old.source new.reference new.target = same_ends old (from_to old.source new.reference new.target) refl is.reference is.target in
      subst (λ b. Contains (if b then from_sources meta new.reference new.target (sources_of g new.target new.reference) else []) x) (sym is.single)
      (Contains-from_sources meta new.target new.reference (sources_of g new.target new.reference) x old.source
      (source_listed g new.target new.reference old there is.target is.reference) (subst (λ l. Comes meta l x) same comes))

  module _ {E : Type 0} (reference : E → RefId) (objects : E → List ObjId) (lists : List E) (ends : AreSources reference objects g new.target lists) where
    -- the containments of one list
    abbrev held : E → List Link
    held = held_from reference objects meta new.target

    Leaves-held : is_containment meta new.reference ≡ true → (e : E) → Contains lists e → (x : Link) → Contains (held e) x → Leaves x
    Leaves-held contains e listed x there = by (is_containment meta (reference e)) refl there
      where
        by : (b : Bool) → is_containment meta (reference e) ≡ b → Contains (if b then from_sources meta (reference e) new.target (objects e) else []) x → Leaves x
        by false plain there = absurd (Contains-nil x there)
        by true contained there =
            let at = Contains-from_from_sources meta new.target (reference e) (objects e) x there in
            let old = from_to at.0 (reference e) new.target in
            record {
              old = old;
              stands = listed_stands reference objects g new.target lists ends e at.0 listed at.1;
              displaced = displaces-old_container meta new old (record { target = refl; contains = contains; contained = contained });
              with = at.2;
            }

    Leaves-old_containers : (x : Link) → Contains (old_containers reference objects meta new lists) x → Leaves x
    Leaves-old_containers x there = by (is_containment meta new.reference) refl there
      where
        by : (b : Bool) → is_containment meta new.reference ≡ b → Contains (if b then flat_map held lists else []) x → Leaves x
        by false plain there = absurd (Contains-nil x there)
        by true contains there = let at = Contains-from_flat_map held lists x there in Leaves-held contains at.0 at.1 x at.2

    old_containers-Leaves : (old : Link) → Contains g.links old → IsOldContainer meta new old → (x : Link) → Comes meta old x
        → Contains (old_containers reference objects meta new lists) x
    old_containers-Leaves old there is x comes =
        let at = stands_listed reference objects g new.target lists ends old there is.target in
        let same : old ≡ from_to old.source (reference at.0) new.target = same_ends old (from_to old.source (reference at.0) new.target) refl (sym at.2) is.target in
        let contained : is_containment meta (reference at.0) ≡ true = ap (is_containment meta) at.2 ∙ is.contained in
        let own : Contains (held at.0) x = subst (λ b. Contains (if b then from_sources meta (reference at.0) new.target (objects at.0) else []) x) (sym contained)
        (Contains-from_sources meta new.target (reference at.0) (objects at.0) x old.source at.3 (subst (λ l. Comes meta l x) same comes)) in
        subst (λ b. Contains (if b then flat_map held lists else []) x) (sym is.contains) (Contains-flat_map held lists at.0 x at.1 own)

    -- ---- all

    -- what is found there
    abbrev found : List Link
    found = candidates reference objects meta new (targets_of g new.source new.reference) (sources_of g new.target new.reference) lists

    abbrev at_source : List Link
    at_source = old_targets meta new (targets_of g new.source new.reference)

    abbrev at_target : List Link
    at_target = old_sources meta new (sources_of g new.target new.reference)

    abbrev around : List Link
    around = old_containers reference objects meta new lists

    Leaves-found : (x : Link) → Contains found x → Leaves x
    Leaves-found x there = elim (Contains-append_cases (at_source ++ at_target) around x there) [
      | inl first ↦ (elim (Contains-append_cases at_source at_target x first) [ inl here ↦ Leaves-old_targets x here | inr here ↦ Leaves-old_sources x here ])
      | inr here ↦ Leaves-old_containers x here
    ]

    found-Leaves : (x : Link) → Leaves x → Contains found x
    found-Leaves x leaves = elim (displaces-cases meta new leaves.old leaves.displaced) [
      | inl is ↦ Contains-append_left (at_source ++ at_target) around x (Contains-append_left at_source at_target x (old_targets-Leaves leaves.old leaves.stands is x leaves.with))
      | inr (inl is) ↦ Contains-append_left (at_source ++ at_target) around x (Contains-append_right at_source at_target x (old_sources-Leaves leaves.old leaves.stands is x leaves.with))
      | inr (inr is) ↦ Contains-append_right (at_source ++ at_target) around x (old_containers-Leaves leaves.old leaves.stands is x leaves.with)
    ]

    module _ (sound : IsSound meta) (valid : IsValid meta g) where
      -- what is found stands, and is dropped
      pub dropped-found : (x : Link) → Contains found x → Contains g.links x × (is_dropped meta new x ≡ true)
      dropped-found x there = let leaves = Leaves-found x there in by leaves.old leaves.stands leaves.displaced leaves.with
        where
          by : (old : Link) → Contains g.links old → displaces meta new old ≡ true → Comes meta old x → Contains g.links x × (is_dropped meta new x ≡ true)
          by old stands displaced (inl is) = subst (λ l. Contains g.links l × (is_dropped meta new l ≡ true)) is (stands, is_dropped-displaces meta new old displaced)
          by old stands displaced (inr at) = (
            All-contains (HasItsOpposite meta g) g.links old valid.opposites stands x at,
            is_dropped-link_back meta sound new old x at ∙ is_dropped-displaces meta new old displaced,
          )

      -- and what stands and is dropped is found
      pub found-dropped : (x : Link) → Contains g.links x → is_dropped meta new x ≡ true → Contains found x
      found-dropped x there dropped =
          by (link_back meta x) refl (or_cases (displaces meta new x) (option_map_or (displaces meta new) (link_back meta x) false) dropped)
        where
          by : (b : Option Link) → link_back meta x ≡ b → (displaces meta new x ≡ true) ⊎ (option_map_or (displaces meta new) (link_back meta x) false ≡ true) → Contains found x
          by b at (inl here) = found-Leaves x (record { old = x; stands = there; displaced = here; with = inl refl })
          by None at (inr other) = let none : false ≡ true = sym (ap (λ b. option_map_or (displaces meta new) b false) at) ∙ other in cc
          by (Some back) at (inr other) = found-Leaves x (record {
            old = back;
            stands = All-contains (HasItsOpposite meta g) g.links x valid.opposites there back at;
            displaced = sym (ap (λ b. option_map_or (displaces meta new) b false) at) ∙ other;
            with = inr (IsBack-link_back meta sound x back at).forth;
          })
