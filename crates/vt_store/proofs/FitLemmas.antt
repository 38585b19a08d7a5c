-- Edits that fit: those that changes make, and those that fitted before there was more room.
use Rattle.std.proofs.Common.{arith, true, ◌≡◌, ℕ, List, [], ◌++◌, refl, sym, ap, subst, ◌∙◌, inl, inr}
use Rattle.std.specs.Prelude.{◌≤◌, ◌==◌, length, Contains, IsSome, is_some, Option, None, Some, option_map, unwrap_or}
use Rattle.std.specs.Option.{option_or}
use Rattle.std.proofs.lemmas.Bool.{eqb-true, true≢false}
use Rattle.std.proofs.lemmas.List.Folds.{find-append}
use Rattle.vt_base.specs.declared.numbers.ObjId.{ObjId}
use Rattle.vt_base.specs.declared.numbers.RefId.{RefId}
use Rattle.vt_model.specs.Valid.{IsValid}
use Rattle.vt_model.specs.declared.model.Object.{Object}
use Rattle.vt_facts.proofs.MemberLemmas.{Contains-find, find-some}
use Rattle.vt_slots.specs.Ends.{capacity_of}
use Rattle.vt_slots.specs.declared.slot.Side.{Side}
use Rattle.vt_graph.specs.Held.{Held, Place}
use Rattle.vt_graph.specs.Asked.{live_at, gone_at, others_at}
use Rattle.vt_graph.specs.Room.{place_at, class_kept, ends_of, capacity_at, HasRoom}
use Rattle.vt_store.specs.Edits.{same_object, edit_of, undone}
use Rattle.vt_store.specs.Undoing.{HeldEdit, KeepsRoomOf, Fits}
use Rattle.vt_store.proofs.NetLemmas.{stands_or_went}
use Rattle.vt_store.proofs.SameLemmas.{Decides-same_object}
use Rattle.vt_store.proofs.UndoneLemmas.{undone-edit_of}

-- ---- room

-- a place that waits is found first
pub place_at-first : (waiting places : List Place) (o : ObjId) (p : Place) → place_at waiting o ≡ Some p → place_at (waiting ++ places) o ≡ Some p
place_at-first waiting places o p at = find-append (λ q. q.object.0 == o.0) waiting places ∙ ap (λ r. option_or r (place_at places o)) at

-- where none waits, the others are looked through
pub place_at-then : (waiting places : List Place) (o : ObjId) → place_at waiting o ≡ None → place_at (waiting ++ places) o ≡ place_at places o
place_at-then waiting places o at = find-append (λ q. q.object.0 == o.0) waiting places ∙ ap (λ r. option_or r (place_at places o)) at

-- how much room a place has
abbrev pub room_in : Side → RefId → Option Place → ℕ
room_in side r p = capacity_of (unwrap_or (option_map (ends_of side) p) []) r

-- ---- an edit that a change makes

-- the metamodel, and what changed; what went is deleted, its classes are kept, its places wait; and the room
pub record IsMade (e : HeldEdit) (old new : Held) : Type 0 where
  pub of : e.meta ≡ new.meta
  pub is : e.edit ≡ edit_of old.model new.model
  pub gone : (o : Object) → Contains e.edit.live.removed o → IsSome (gone_at new.model o.number)
  pub kept : (o : Object) → Contains e.edit.live.removed o → class_kept new.places o.number ≡ Some o.class
  pub waits : (o : Object) → Contains e.edit.live.removed o → class_kept e.waiting o.number ≡ Some o.class
  pub room : KeepsRoomOf old.model old.places (e.waiting ++ new.places)

module _ (e : HeldEdit) (old new : Held) (made : IsMade e old new) (same : new.meta ≡ old.meta) (valid : IsValid old.meta old.model) (still : IsValid new.meta new.model) where
  -- taken back, it gives the model before
  undone_made : undone e.edit new.model ≡ old.model
  undone_made = ap (λ d. undone d new.model) made.is ∙ undone-edit_of new.meta old.model new.model (subst (λ m. IsValid m old.model) (sym same) valid) still

  -- so it fits
  pub fits_made : HasRoom old.places old.model → Fits e new
  fits_made has = record {
    of = made.of;
    is = made.is ∙ ap (λ g. edit_of g new.model) (sym undone_made);
    valid = subst (IsValid new.meta) (sym undone_made) (subst (λ m. IsValid m old.model) (sym same) valid);
    gone = made.gone;
    kept = made.kept;
    waits = made.waits;
    room = λ o side r live. subst (λ g. IsSome (live_at g o) → length (others_at g o side r) ≤ capacity_at (e.waiting ++ new.places) o side r) (sym undone_made)
        (λ was. less (has o side r was) (made.room.room o side r was)) live;
  }
    where
      less : {a b c : ℕ} → a ≤ b → b ≤ c → a ≤ c
      less {a} {b} {c} x y = omega arith

-- ---- an edit that fitted before there was more room

module _ (e : HeldEdit) (s t : Held) (fits : Fits e s) (same : t.meta ≡ s.meta) (still : t.model ≡ s.model) (room : KeepsRoomOf s.model s.places t.places) where
  -- an object that comes back or stays has no less room
  more : (o : ObjId) (side : Side) (r : RefId) → IsSome (live_at (undone e.edit s.model) o) → capacity_at (e.waiting ++ s.places) o side r ≤ capacity_at (e.waiting ++ t.places) o side r
  more o side r live = by (place_at e.waiting o) refl
    where
      -- where none waits it was live
      stays : place_at e.waiting o ≡ None → (found : Option Object) → live_at (undone e.edit s.model) o ≡ found → is_some found ≡ true → IsSome (live_at s.model o)
      stays none None at some = absurd (true≢false (sym some))
      stays none (Some x) at some =
          let there = Contains-find (λ y. y.number.0 == o.0) (undone e.edit s.model).live x at in
          let number_is : x.number ≡ o = ap (λ n. record { 0 = n }) (eqb-true x.number.0 o.0 there.1) in
          elim (stands_or_went same_object Decides-same_object (undone e.edit s.model).live s.model.live e.edit.live (ap (λ d. d.live) fits.is) x there.0) [
            | inl here ↦ let found = find-some (λ y. y.number.0 == o.0) s.model.live x here there.1 in ap is_some found.1
            | inr went ↦ absurd (never (subst (λ n. class_kept e.waiting n ≡ Some x.class) number_is (fits.waits x went)))
          ]
        where
          never : class_kept e.waiting o ≡ Some x.class → ⊥
          never some = let differ : None ≡ Some x.class = ap (option_map (λ p. p.class)) (sym none) ∙ some in cc

      by : (found : Option Place) → place_at e.waiting o ≡ found → capacity_at (e.waiting ++ s.places) o side r ≤ capacity_at (e.waiting ++ t.places) o side r
      by (Some p) at =
          let first : capacity_at (e.waiting ++ s.places) o side r ≡ room_in side r (Some p) = ap (room_in side r) (place_at-first e.waiting s.places o p at) in
          let second : capacity_at (e.waiting ++ t.places) o side r ≡ room_in side r (Some p) = ap (room_in side r) (place_at-first e.waiting t.places o p at) in
          omega arith
      by None at =
          let first : capacity_at (e.waiting ++ s.places) o side r ≡ capacity_at s.places o side r = ap (room_in side r) (place_at-then e.waiting s.places o at) in
          let second : capacity_at (e.waiting ++ t.places) o side r ≡ capacity_at t.places o side r = ap (room_in side r) (place_at-then e.waiting t.places o at) in
          let grown : capacity_at s.places o side r ≤ capacity_at t.places o side r = room.room o side r (stays at (live_at (undone e.edit s.model) o) refl live) in
          omega arith

  pub Fits-more : Fits e t
  Fits-more = record {
    of = fits.of ∙ sym same;
    is = subst (λ g. e.edit ≡ edit_of (undone e.edit g) g) (sym still) fits.is;
    valid = subst (λ g. IsValid t.meta (undone e.edit g)) (sym still) (subst (λ m. IsValid m (undone e.edit s.model)) (sym same) fits.valid);
    gone = λ o went. subst (λ g. IsSome (gone_at g o.number)) (sym still) (fits.gone o went);
    kept = λ o went. room.classes o.number o.class (fits.gone o went) (fits.kept o went);
    waits = fits.waits;
    room = λ o side r live. subst (λ g. IsSome (live_at (undone e.edit g) o) → length (others_at (undone e.edit g) o side r) ≤ capacity_at (e.waiting ++ t.places) o side r) (sym still)
        (λ was. less (fits.room o side r was) (more o side r was)) live;
  }
    where
      less : {a b c : ℕ} → a ≤ b → b ≤ c → a ≤ c
      less {a} {b} {c} x y = omega arith
