-- Changes that are made, those that are refused, and what follows of a store.
use Rattle.std.proofs.Common.{◌≡◌, List, refl, sym, ap, subst, ◌∙◌, arith}
use Rattle.std.specs.Prelude.{Result, Ok, Err}
use Rattle.vt_model.specs.Model.{Model}
use Rattle.vt_model.specs.Effect.{effect}
use Rattle.vt_model.specs.Sound.{IsSound}
use Rattle.vt_model.specs.Storable.{GivesStorable}
use Rattle.vt_model.specs.Valid.{IsValid}
use Rattle.vt_model.specs.declared.change.Change.{Change}
use Rattle.vt_model.specs.declared.change.Refusal.{Refusal}
use Rattle.vt_model.specs.declared.change.Refusal.TheVariants.{UnknownObject}
use Rattle.vt_model.proofs.Valid.{IsValid-effect}
use Rattle.vt_graph.specs.Held.{Held, Place}
use Rattle.vt_graph.specs.Room.{KeepsRoom, HasRoom}
use Rattle.vt_store.specs.Undoing.{HeldEdit, KeepsRoomOf}
use Rattle.vt_store.specs.Changing.{Makes}
use Rattle.vt_store.specs.declared.fault.StoreFault.{StoreFault}
use Rattle.vt_store.specs.declared.fault.StoreFault.TheVariants.{Refused, NoMemory}
use Rattle.vt_store.proofs.FitLemmas.{IsMade, fits_made}

-- ---- room

-- no less room is kept for all
pub room_kept : (g : Model) (old new : List Place) → KeepsRoom old new → KeepsRoomOf g old new
room_kept g old new keeps = record { room = λ o side r live. keeps.room o side r; classes = λ o c gone is. keeps.classes o c is }

-- ---- a change that isn't made

-- the refusal of an answer
abbrev refusal_in : Result HeldEdit StoreFault → Result Model Refusal
refusal_in (Ok e) = Err UnknownObject
refusal_in (Err NoMemory) = Err UnknownObject
refusal_in (Err (Refused why)) = Err why

-- the change is refused, and the store is as before
pub makes_refusal : (change : Change) (s : Held) (f : StoreFault) (why : Refusal) → f ≡ Refused why → effect s.meta s.model change ≡ Err why → Makes change s s (Err f)
makes_refusal change s f why is refused = subst (λ f. Makes change s s (Err f)) (sym is) (record {
  meta = refl;
  made = tt;
  refused = λ other same. refused ∙ ap refusal_in same;
  unchanged = refl;
  edit = tt;
  fits = tt;
  room = tt;
  kept = room_kept s.model s.places s.places (record { room = λ o side r. omega arith; classes = λ o c is. is });
})

-- memory ran out
pub makes_nothing : (change : Change) (old new : Held) (f : StoreFault) → f ≡ NoMemory → new.meta ≡ old.meta → new.model ≡ old.model → KeepsRoom old.places new.places
    → Makes change old new (Err f)
makes_nothing change old new f is meta model keeps = subst (λ f. Makes change old new (Err f)) (sym is) (record {
  meta = meta;
  made = tt;
  refused = λ other same. cc;
  unchanged = model;
  edit = tt;
  fits = tt;
  room = tt;
  kept = room_kept old.model old.places new.places keeps;
})

-- ---- a change that is made

-- with an edit that is as a change makes it
pub makes_made : (change : Change) (old new : Held) (e : HeldEdit) → GivesStorable change → IsSound old.meta → IsValid old.meta old.model → HasRoom old.places old.model → new.meta ≡ old.meta
    → effect old.meta old.model change ≡ Ok new.model → IsMade e old new → Makes change old new (Ok e)
makes_made change old new e gives sound valid has meta made is = record {
  meta = meta;
  made = made;
  refused = λ why same. cc;
  unchanged = tt;
  edit = is.is;
  fits = fits_made e old new is meta valid (subst (λ m. IsValid m new.model) (sym meta) (IsValid-effect old.meta old.model new.model change sound valid gives made)) has;
  room = is.room;
  kept = tt;
}

-- ---- what follows

valid_beside : (old new : Held) → IsSound old.meta → new.meta ≡ old.meta → IsValid old.meta new.model → IsSound new.meta × IsValid new.meta new.model
valid_beside old new sound meta still = (subst IsSound (sym meta) sound, subst (λ m. IsValid m new.model) (sym meta) still)

-- the model is valid still
pub valid_still : (change : Change) (old new : Held) (r : Result HeldEdit StoreFault) → GivesStorable change → Makes change old new r → IsSound old.meta × IsValid old.meta old.model
    → IsSound new.meta × IsValid new.meta new.model
valid_still change old new (Ok e) gives makes was = valid_beside old new was.0 makes.meta (IsValid-effect old.meta old.model new.model change was.0 was.1 gives makes.made)
valid_still change old new (Err f) gives makes was = valid_beside old new was.0 makes.meta (subst (IsValid old.meta) (sym makes.unchanged) was.1)

-- of a store that is seen so, and of a change that is that one
pub makes_seen : (change : Change) (old seen new : Held) (r : Result HeldEdit StoreFault) → old ≡ seen → Makes change old new r → Makes change seen new r
makes_seen change old seen new r is makes = subst (λ s. Makes change s new r) is makes

pub makes_that : (change that : Change) (old new : Held) (r : Result HeldEdit StoreFault) → change ≡ that → Makes that old new r → Makes change old new r
makes_that change that old new r is makes = subst (λ c. Makes c old new r) (sym is) makes
