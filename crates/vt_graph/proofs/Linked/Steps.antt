-- One end is changed after another: what both changes do, and what taking the first back does.
use Rattle.std.proofs.Common.{◌≡◌, ◌≢◌, List, filter, map, refl, sym, ap, subst, ◌∙◌, ◌⊎◌, inl, inr, not, true, Option, Some, None, option_map, option_and_then, eq-eqb, ne_eqb}
use Rattle.std.specs.Prelude.{◌==◌, Contains, IsSome, Result, Ok, Err, OnErr}
use Rattle.std.specs.BTreeSet.{insert_key}
use Rattle.std.proofs.Math.Nat.{le_of_eq, le_trans}
use Rattle.std.proofs.lemmas.Bool.{not_from_false}
use Rattle.vt_base.specs.declared.numbers.ObjId.{ObjId}
use Rattle.vt_base.specs.declared.numbers.RefId.{RefId}
use Rattle.vt_model.specs.declared.model.Link.{Link}
use Rattle.vt_facts.proofs.MemberLemmas.{Contains-filter, Contains-from_filter, Contains-insert_key_cases, Contains-insert_key_old}
use Rattle.vt_slots.specs.Ends.{EndList, number_order, ObjectsRise, objects_of, AddsEnd, DropsEnd, SameEnds, KeepsRoom, SameRoom, HaveShape}
use Rattle.vt_slots.specs.Slots.{slot_at, body_at, ends_at, bare, bare_body, OtherEndsStay}
use Rattle.vt_slots.specs.declared.slot.Side.{Side}
use Rattle.vt_slots.specs.declared.slot.Side.TheVariants.{Outgoing, Incoming}
use Rattle.vt_slots.specs.declared.slot.Body.{Body}
use Rattle.vt_slots.specs.declared.slot.Slot.{Slot}
use Rattle.vt_slots.proofs.EndsLemmas.{rise_with_object, rise_without_object}
use Rattle.vt_graph.specs.Asked.{other_of}
use Rattle.vt_graph.specs.Inside.Ended.{EndsRise, AllEndsRise, EndsFit, AreInShape, near_of, ChangesEnds, ChangesOnlyEnds, SameObjects}
use Rattle.vt_facts.proofs.RisingLemmas.{same_items}
use Rattle.vt_graph.proofs.SlotLemmas.{same_object, slot_at_changed}
use Rattle.vt_graph.proofs.Linked.Ends.{number_order_total, objects_of_rise, reference_cases}
use Rattle.vt_graph.proofs.Linked.Changed.{object_cases}

-- ---- which ends a step changes

sides_differ : Outgoing ≡ Incoming → ⊥
sides_differ e = cc

side_cases : (t side : Side) → (t ≡ side) ⊎ (t ≡ side → ⊥)
side_cases Outgoing Outgoing = inl refl
side_cases Outgoing Incoming = inr (λ e. sides_differ e)
side_cases Incoming Outgoing = inr (λ e. sides_differ (sym e))
side_cases Incoming Incoming = inl refl

-- an object and a side are these, or others
place_cases : (o : ObjId) (side : Side) (p : ObjId) (t : Side) → ((p ≡ o) × (t ≡ side)) ⊎ (p.0 ≡ o.0 → t ≡ side → ⊥)
place_cases o side p t = by (object_cases p o) (side_cases t side)
  where
    by : (p ≡ o) ⊎ (p ≡ o → ⊥) → (t ≡ side) ⊎ (t ≡ side → ⊥) → ((p ≡ o) × (t ≡ side)) ⊎ (p.0 ≡ o.0 → t ≡ side → ⊥)
    by (inl is) (inl too) = inl (is, too)
    by (inl is) (inr apart) = inr (λ e same. apart same)
    by (inr apart) s = inr (λ e same. apart (same_object p o e))

module _ (old new : List Slot) (o : ObjId) (side : Side) (stay : OtherEndsStay old new o side) where
  -- what holds of the ends that change, and of all that stay, holds of all
  all_ends : (P : List EndList → List EndList → Type 0) → P (ends_at old o side) (ends_at new o side)
      → ((p : ObjId) (t : Side) → P (ends_at old p t) (ends_at old p t)) → (p : ObjId) (t : Side) → P (ends_at old p t) (ends_at new p t)
  all_ends P here there p t = by (place_cases o side p t)
    where
      by : ((p ≡ o) × (t ≡ side)) ⊎ (p.0 ≡ o.0 → t ≡ side → ⊥) → P (ends_at old p t) (ends_at new p t)
      by (inl is) = subst (λ q. P (ends_at old q t) (ends_at new q t)) (sym is.0) (subst (λ s. P (ends_at old o s) (ends_at new o s)) (sym is.1) here)
      by (inr apart) = subst (P (ends_at old p t)) (sym (stay p t apart)) (there p t)

  -- one step changes only ends, where it leaves them in shape and with their room
  pub ends_step : map bare new ≡ map bare old → AreInShape old → HaveShape (ends_at new o side) → KeepsRoom (ends_at old o side) (ends_at new o side) → ChangesOnlyEnds old new
  ends_step same shape changed room = record {
    same = same;
    shape = record {
      rise = all_ends (λ before after. EndsRise after) (record { references = changed.references_rise; objects = changed.objects_rise }) shape.rise;
      fit = all_ends (λ before after. EndsFit after) changed.fits shape.fit;
    };
    room = all_ends (λ before after. KeepsRoom before after) room (λ p t r. le_of_eq refl);
  }

  -- the same of a step that leaves just the room that was
  pub ends_same_step : map bare new ≡ map bare old → AreInShape old → HaveShape (ends_at new o side) → SameRoom (ends_at old o side) (ends_at new o side) → ChangesOnlyEnds old new
  ends_same_step same shape changed room = ends_step same shape changed (λ r. le_of_eq (sym (room r)))

  pub same_step : SameEnds (ends_at old o side) (ends_at new o side) → SameObjects old new
  same_step same = all_ends (λ before after. SameEnds before after) same (λ p t r. refl)

pub ends_then : (old mid new : List Slot) → ChangesOnlyEnds old mid → ChangesOnlyEnds mid new → ChangesOnlyEnds old new
ends_then old mid new first second = record { same = second.same ∙ first.same; shape = second.shape; room = λ o side r. le_trans (first.room o side r) (second.room o side r) }

-- ---- one step at the source, and then one at the target

module _ (old mid new : List Slot) (link : Link) (first : OtherEndsStay old mid link.source Outgoing) (second : OtherEndsStay mid new link.target Incoming) where
  -- the first step leaves the ends at the target, the second those at the source
  pub target_stays : ends_at mid link.target Incoming ≡ ends_at old link.target Incoming
  target_stays = first link.target Incoming (λ e same. sides_differ (sym same))

  pub source_stays : ends_at new link.source Outgoing ≡ ends_at mid link.source Outgoing
  source_stays = second link.source Outgoing (λ e same. sides_differ same)

  pub both_ends : (Change : List EndList → List EndList → RefId → ObjId → Type 0)
      → Change (ends_at old link.source Outgoing) (ends_at mid link.source Outgoing) link.reference link.target
      → Change (ends_at mid link.target Incoming) (ends_at new link.target Incoming) link.reference link.source
      → ChangesEnds Change old new link
  both_ends Change source target = record { ends = changed; others = stay }
    where
      changed : (side : Side) → Change (ends_at old (near_of side link) side) (ends_at new (near_of side link) side) link.reference (other_of side link)
      changed Outgoing = subst (λ ls. Change (ends_at old link.source Outgoing) ls link.reference link.target) (sym source_stays) source
      changed Incoming = subst (λ ls. Change ls (ends_at new link.target Incoming) link.reference link.source) target_stays target

      stay : (o : ObjId) (side : Side) → (o ≡ near_of side link → ⊥) → ends_at new o side ≡ ends_at old o side
      stay o Outgoing apart = second o Outgoing (λ e same. sides_differ same) ∙ first o Outgoing (λ e same. apart (same_object o link.source e))
      stay o Incoming apart = second o Incoming (λ e same. apart (same_object o link.target e)) ∙ first o Incoming (λ e same. sides_differ (sym same))

-- ---- the first step taken back

module _ (objects : List ObjId) (o : ObjId) (rise : ObjectsRise objects) where
  -- an object that is put in and taken out
  in_and_out : (Contains objects o → ⊥) → filter (λ x. not (x.0 == o.0)) (insert_key number_order objects o) ≡ objects
  in_and_out fresh = same_items number_order number_order_total (filter (λ x. not (x.0 == o.0)) (insert_key number_order objects o)) objects
      (rise_without_object (insert_key number_order objects o) o (rise_with_object objects o rise)) rise forth back
    where
      forth : (x : ObjId) → Contains (filter (λ y. not (y.0 == o.0)) (insert_key number_order objects o)) x → Contains objects x
      forth x there =
          let was = Contains-from_filter (λ y. not (y.0 == o.0)) (insert_key number_order objects o) x there in
          elim (Contains-insert_key_cases number_order o objects x was.0) [
            | inl before ↦ before
            | inr own ↦ let same : (x.0 == o.0) ≡ true = eq-eqb x.0 o.0 (ap (λ (p : ObjId). p.0) (sym own)) in let other : not (x.0 == o.0) ≡ true = was.1 in cc
          ]

      back : (x : ObjId) → Contains objects x → Contains (filter (λ y. not (y.0 == o.0)) (insert_key number_order objects o)) x
      back x there = Contains-filter (λ y. not (y.0 == o.0)) (insert_key number_order objects o) x (Contains-insert_key_old number_order o objects x there)
          (not_from_false (x.0 == o.0) (ne_eqb x.0 o.0 (λ e. fresh (subst (Contains objects) (same_object x o e) there))))

  -- one that stands already
  in_already : Contains objects o → insert_key number_order objects o ≡ objects
  in_already there = same_items number_order number_order_total (insert_key number_order objects o) objects (rise_with_object objects o rise) rise
      (λ x among. elim (Contains-insert_key_cases number_order o objects x among) [ inl before ↦ before | inr own ↦ subst (Contains objects) own there ])
      (λ x among. Contains-insert_key_old number_order o objects x among)

-- an end that is added and dropped again
pub added_and_dropped : (old mid new : List EndList) (r : RefId) (o : ObjId) → EndsRise old → (Contains (objects_of old r) o → ⊥) → AddsEnd old mid r o → DropsEnd mid new r o → SameEnds old new
added_and_dropped old mid new r o rise fresh adds drops s = by (reference_cases s r)
  where
    by : (s ≡ r) ⊎ (s.0 ≢ r.0) → objects_of new s ≡ objects_of old s
    by (inr apart) = drops.others s apart ∙ adds.others s apart
    by (inl is) =
        ap (objects_of new) is ∙ drops.there ∙ ap (filter (λ x. not (x.0 == o.0))) adds.there
        ∙ in_and_out (objects_of old r) o (objects_of_rise old rise r) fresh ∙ sym (ap (objects_of old) is)

-- at the source, where the second step changed nothing
pub taken_back : (old mid late new : List Slot) (link : Link) → AllEndsRise old → (Contains (objects_of (ends_at old link.source Outgoing) link.reference) link.target → ⊥)
    → AddsEnd (ends_at old link.source Outgoing) (ends_at mid link.source Outgoing) link.reference link.target → OtherEndsStay old mid link.source Outgoing
    → SameEnds (ends_at mid link.target Incoming) (ends_at late link.target Incoming) → OtherEndsStay mid late link.target Incoming
    → DropsEnd (ends_at late link.source Outgoing) (ends_at new link.source Outgoing) link.reference link.target → OtherEndsStay late new link.source Outgoing
    → SameObjects old new
taken_back old mid late new link rise fresh adds first same second drops third =
    λ p t. by p t (place_cases link.source Outgoing p t)
  where
    back : SameEnds (ends_at old link.source Outgoing) (ends_at new link.source Outgoing)
    back = added_and_dropped (ends_at old link.source Outgoing) (ends_at mid link.source Outgoing) (ends_at new link.source Outgoing) link.reference link.target (rise link.source Outgoing) fresh adds
        (subst (λ ls. DropsEnd ls (ends_at new link.source Outgoing) link.reference link.target) (second link.source Outgoing (λ e also. sides_differ also)) drops)

    by : (p : ObjId) (t : Side) → ((p ≡ link.source) × (t ≡ Outgoing)) ⊎ (p.0 ≡ link.source.0 → t ≡ Outgoing → ⊥) → SameEnds (ends_at old p t) (ends_at new p t)
    by p t (inl is) = subst (λ q. SameEnds (ends_at old q t) (ends_at new q t)) (sym is.0) (subst (λ s. SameEnds (ends_at old link.source s) (ends_at new link.source s)) (sym is.1) back)
    by p t (inr apart) = λ r.
        ap (λ ls. objects_of ls r) (third p t apart) ∙ same_step mid late link.target Incoming second same p t r ∙ ap (λ ls. objects_of ls r) (first p t apart)

-- ---- an object that lives lives on

pub lives_on : (old new : List Slot) (o : ObjId) → map bare new ≡ map bare old → IsSome (body_at old o) → IsSome (body_at new o)
lives_on old new o same live = by (slot_at old o) (slot_at new o) (sym (slot_at_changed bare (λ s. refl) new o) ∙ ap (λ slots. slot_at slots o) same ∙ slot_at_changed bare (λ s. refl) old o) live
  where
    bodies : (b d : Option Body) → option_map bare_body d ≡ option_map bare_body b → IsSome b → IsSome d
    bodies None d e some = cc
    bodies (Some b) None e some = cc
    bodies (Some b) (Some d) e some = refl

    by : (f g : Option Slot) → option_map bare g ≡ option_map bare f → IsSome (option_and_then (λ (s : Slot). s.body) f) → IsSome (option_and_then (λ (s : Slot). s.body) g)
    by None g e some = cc
    by (Some s) None e some = cc
    by (Some s) (Some t) e some = let is : bare t ≡ bare s = cc in bodies s.body t.body (ap (λ (u : Slot). u.body) is) some

-- ---- what is said of each failure

pub on_err : {T E : Type 0} {P : Type 0} (r : Result T E) → P → OnErr r P
on_err (Ok x) holds = tt
on_err (Err e) holds = holds
