-- A store goes forward by changes and comes back by their edits, with no less room.
use Rattle.std.proofs.Common.{arith, true, ◌≡◌, ℕ, ◌++◌, refl, sym, ap, subst, ◌∙◌, inl, inr}
use Rattle.std.specs.Prelude.{◌≤◌, ◌==◌, IsSome, is_some, Option, None, Some, option_map, Result, Ok, Err, IfOk, OnErr}
use Rattle.std.proofs.lemmas.Bool.{eqb-true, true≢false}
use Rattle.vt_base.specs.declared.numbers.ObjId.{ObjId}
use Rattle.vt_base.specs.declared.numbers.ClassId.{ClassId}
use Rattle.vt_base.specs.declared.numbers.RefId.{RefId}
use Rattle.vt_model.specs.Sound.{IsSound}
use Rattle.vt_model.specs.Storable.{GivesStorable}
use Rattle.vt_model.specs.Valid.{IsValid}
use Rattle.vt_model.specs.declared.change.Change.{Change}
use Rattle.vt_model.specs.declared.change.Refusal.{Refusal}
use Rattle.vt_model.specs.declared.model.Object.{Object}
use Rattle.vt_model.proofs.Valid.{IsValid-effect}
use Rattle.vt_facts.proofs.MemberLemmas.{Contains-find, find-some}
use Rattle.vt_slots.specs.declared.slot.Side.{Side}
use Rattle.vt_graph.specs.Held.{Held, Place}
use Rattle.vt_graph.specs.Asked.{live_at, gone_at}
use Rattle.vt_graph.specs.Room.{place_at, class_kept, capacity_at}
use Rattle.vt_store.specs.Edits.{same_object, edit_of, undone}
use Rattle.vt_store.specs.Undoing.{HeldEdit, KeepsRoomOf, Fits}
use Rattle.vt_store.specs.Changing.{Makes}
use Rattle.vt_store.specs.declared.fault.StoreFault.{StoreFault}
use Rattle.vt_store.proofs.NetLemmas.{stands_or_went}
use Rattle.vt_store.proofs.SameLemmas.{Decides-same_object}
use Rattle.vt_store.proofs.UndoneLemmas.{undone-edit_of}
use Rattle.vt_store.proofs.FitLemmas.{place_at-first, place_at-then, room_in, Fits-more}
use Rattle.vt_store.specs.Inside.Tested.{Stays, LeadsBack, IsStep, IsUndone, IsTakenBack}
use Rattle.vt_store.proofs.GoneLemmas.{gone-effect}

less : {a b c : ℕ} → a ≤ b → b ≤ c → a ≤ c
less {a} {b} {c} x y = omega arith

-- ---- a change

-- the edit of a change leads back
pub leads_back : (c : Change) (old new : Held) (r : Result HeldEdit StoreFault) → GivesStorable c → IsSound old.meta → IsValid old.meta old.model → Makes c old new r → IfOk r (λ e. LeadsBack e old new)
leads_back c old new (Ok e) gives sound valid makes = record {
  meta = makes.meta;
  fits = makes.fits;
  model = ap (λ d. undone d new.model) makes.edit ∙ undone-edit_of old.meta old.model new.model valid (IsValid-effect old.meta old.model new.model c sound valid gives makes.made);
  room = makes.room;
  gone = gone-effect old.meta old.model new.model c makes.made;
}
leads_back c old new (Err f) gives sound valid makes = tt

-- where none is made the store stays
pub stays_back : (c : Change) (old new : Held) (r : Result HeldEdit StoreFault) → Makes c old new r → OnErr r (Stays old new)
stays_back c old new (Ok e) makes = tt
stays_back c old new (Err f) makes = record { meta = makes.meta; model = makes.unchanged; room = makes.kept }

-- ---- the class of a place

abbrev class_in : Option Place → Option ClassId
class_in p = option_map (λ p. p.class) p

-- ---- what later changes left

module _ (e : HeldEdit) (old new later : Held) (back : LeadsBack e old new) (stays : Stays new later) where
  -- an object that was live and of which nothing waits is live still
  lives : (o : ObjId) → place_at e.waiting o ≡ None → IsSome (live_at old.model o) → IsSome (live_at new.model o)
  lives o none live = by (live_at old.model o) refl live
    where
      never : (x : Object) → class_kept e.waiting o ≡ Some x.class → ⊥
      never x some = let differ : None ≡ Some x.class = ap class_in (sym none) ∙ some in cc

      is : e.edit ≡ edit_of old.model new.model
      is = subst (λ g. e.edit ≡ edit_of g new.model) back.model back.fits.is

      by : (found : Option Object) → live_at old.model o ≡ found → is_some found ≡ true → IsSome (live_at new.model o)
      by None at some = absurd (true≢false (sym some))
      by (Some x) at some =
          let there = Contains-find (λ y. y.number.0 == o.0) old.model.live x at in
          let number_is : x.number ≡ o = ap (λ n. record { 0 = n }) (eqb-true x.number.0 o.0 there.1) in
          elim (stands_or_went same_object Decides-same_object old.model.live new.model.live e.edit.live (ap (λ d. d.live) is) x there.0) [
            | inl here ↦ let found = find-some (λ y. y.number.0 == o.0) new.model.live x here there.1 in ap is_some found.1
            | inr went ↦ absurd (never x (subst (λ n. class_kept e.waiting n ≡ Some x.class) number_is (back.fits.waits x went)))
          ]

  -- so it has no less room later, counted with what waits
  room_later : (o : ObjId) (side : Side) (r : RefId) → IsSome (live_at old.model o) → capacity_at (e.waiting ++ new.places) o side r ≤ capacity_at (e.waiting ++ later.places) o side r
  room_later o side r live = by (place_at e.waiting o) refl
    where
      by : (found : Option Place) → place_at e.waiting o ≡ found → capacity_at (e.waiting ++ new.places) o side r ≤ capacity_at (e.waiting ++ later.places) o side r
      by (Some p) at =
          let first : capacity_at (e.waiting ++ new.places) o side r ≡ room_in side r (Some p) = ap (room_in side r) (place_at-first e.waiting new.places o p at) in
          let second : capacity_at (e.waiting ++ later.places) o side r ≡ room_in side r (Some p) = ap (room_in side r) (place_at-first e.waiting later.places o p at) in
          omega arith
      by None at =
          let first : capacity_at (e.waiting ++ new.places) o side r ≡ capacity_at new.places o side r = ap (room_in side r) (place_at-then e.waiting new.places o at) in
          let second : capacity_at (e.waiting ++ later.places) o side r ≡ capacity_at later.places o side r = ap (room_in side r) (place_at-then e.waiting later.places o at) in
          let grown : capacity_at new.places o side r ≤ capacity_at later.places o side r = stays.room.room o side r (lives o at live) in
          omega arith

  -- and the class of what was deleted is kept
  class_later : (o : ObjId) (c : ClassId) → IsSome (gone_at old.model o) → class_kept (e.waiting ++ new.places) o ≡ Some c → class_kept (e.waiting ++ later.places) o ≡ Some c
  class_later o c gone kept = by (place_at e.waiting o) refl
    where
      by : (found : Option Place) → place_at e.waiting o ≡ found → class_kept (e.waiting ++ later.places) o ≡ Some c
      by (Some p) at =
          ap class_in (place_at-first e.waiting later.places o p at) ∙ sym (ap class_in (place_at-first e.waiting new.places o p at)) ∙ kept
      by None at =
          ap class_in (place_at-then e.waiting later.places o at)
          ∙ stays.room.classes o c (back.gone o gone) (sym (ap class_in (place_at-then e.waiting new.places o at)) ∙ kept)

  -- the edit fits still
  fits_later : Fits e later
  fits_later = Fits-more e new later back.fits stays.meta stays.model stays.room

  -- and once it is taken back, the first model is there, with no less room
  back_again : (last : Held) → IsUndone e later last → Stays old last
  back_again last gone = record {
    meta = gone.meta ∙ stays.meta ∙ back.meta;
    model = is;
    room = record {
      room = λ o side r live. less (less (back.room.room o side r live) (room_later o side r live)) (undone_room.room o side r live);
      classes = λ o c went kept. undone_room.classes o c went (class_later o c went (back.room.classes o c went kept));
    };
  }
    where
      is : last.model ≡ old.model
      is = gone.model ∙ ap (λ g. undone e.edit g) stays.model ∙ back.model

      undone_room : KeepsRoomOf old.model (e.waiting ++ later.places) last.places
      undone_room = subst (λ g. KeepsRoomOf g (e.waiting ++ later.places) last.places) is gone.room

-- ---- a step, what comes after it, and the way back

-- a store that is as before has what it had
stays_again : (old new later last : Held) → Stays old new → Stays new later → last ≡ later → Stays old last
stays_again old new later last first then same = subst (Stays old) (sym same) (record {
  meta = then.meta ∙ first.meta;
  model = then.model ∙ first.model;
  room = record {
    room = λ o side r live. less (first.room.room o side r live) (then.room.room o side r (subst (λ g. IsSome (live_at g o)) (sym first.model) live));
    classes = λ o c gone kept. then.room.classes o c (subst (λ g. IsSome (gone_at g o)) (sym first.model) gone) (first.room.classes o c gone kept);
  };
})

-- what was done can be taken back later
pub fits_step : (step : Result HeldEdit Refusal) (old new later : Held) → IsStep step old new → Stays new later → IfOk step (λ e. Fits e later)
fits_step (Ok e) old new later back stays = fits_later e old new later back stays
fits_step (Err why) old new later first stays = _

-- and then all is as before
pub stays_step : (step : Result HeldEdit Refusal) (old new later last : Held) → IsStep step old new → Stays new later → IsTakenBack step later last → Stays old last
stays_step (Ok e) old new later last back stays gone = back_again e old new later back stays last gone
stays_step (Err why) old new later last first stays same = stays_again old new later last first stays same

-- nothing happened
pub stays_still : (s : Held) → Stays s s
stays_still s = record {
  meta = refl;
  model = refl;
  room = record { room = λ o side r live. omega arith; classes = λ o c gone kept. kept };
}
