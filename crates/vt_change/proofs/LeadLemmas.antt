-- Edits that lead back do so from a store with more room too, and with the edit of one more change.
use Rattle.std.proofs.Common.{◌≡◌, ◌≤◌, ℕ, List, [], ◌∷◌, ◌++◌, refl, sym, ap, subst, ◌∙◌, arith, reverse}
use Rattle.std.specs.Prelude.{IsSome, Ok}
use Rattle.std.proofs.lemmas.List.{reverse-append}
use Rattle.vt_base.specs.declared.numbers.ObjId.{ObjId}
use Rattle.vt_model.specs.Sound.{IsSound}
use Rattle.vt_model.specs.Storable.{GivesStorable}
use Rattle.vt_model.specs.Valid.{IsValid}
use Rattle.vt_model.specs.declared.change.Change.{Change}
use Rattle.vt_graph.specs.Held.{Held}
use Rattle.vt_graph.specs.Asked.{live_at, gone_at}
use Rattle.vt_store.specs.Edits.{undone}
use Rattle.vt_store.specs.Undoing.{HeldEdit, KeepsRoomOf, Fits}
use Rattle.vt_store.specs.Changing.{Makes}
use Rattle.vt_store.specs.Inside.Tested as tested
use Rattle.vt_store.proofs.BackLemmas.{leads_back, fits_step, stays_step, stays_still}
use Rattle.vt_change.specs.Leading.{IsBack, IsReverted, FitsLast, LeadBack}

-- ---- the same facts in the words of the store

stays : (before after : Held) → IsBack before after → tested.Stays before after
stays before after back = record { meta = back.meta; model = back.model; room = back.room }

is_back : (before after : Held) → tested.Stays before after → IsBack before after
is_back before after still = record { meta = still.meta; model = still.model; room = still.room }

is_undone : (e : HeldEdit) (before after : Held) → IsReverted e before after → tested.IsUndone e before after
is_undone e before after gone = record { meta = gone.meta; model = gone.model; room = gone.room }

-- nothing happened
pub IsBack-itself : (s : Held) → IsBack s s
IsBack-itself s = is_back s s (stays_still s)

IsBack-then : (before s t : Held) → IsBack before s → IsBack s t → IsBack before t
IsBack-then before s t first then = record {
  meta = then.meta ∙ first.meta;
  model = then.model ∙ first.model;
  room = record {
    room = λ o side r live. less (first.room.room o side r live) (then.room.room o side r (subst (λ g. IsSome (live_at g o)) (sym first.model) live));
    classes = λ o c gone kept. then.room.classes o c (subst (λ g. IsSome (gone_at g o)) (sym first.model) gone) (first.room.classes o c gone kept);
  };
}
  where
    less : {a b c : ℕ} → a ≤ b → b ≤ c → a ≤ c
    less {a} {b} {c} x y = omega arith

-- ---- a store with the same model and no less room

-- the store without an edit, whose room waits
abbrev before_edit : HeldEdit → Held → Held
before_edit e s = record { meta = s.meta; model = undone e.edit s.model; places = e.waiting ++ s.places }

leads_before : (e : HeldEdit) (s : Held) → FitsLast e s → tested.LeadsBack e (before_edit e s) s
leads_before e s fits = record { meta = refl; fits = fits.fits; model = refl; room = (stays_still (before_edit e s)).room; gone = fits.gone }

-- taken back of that store, the edit is taken back of this one
reverted_too : (e : HeldEdit) (s t left : Held) → FitsLast e s → IsBack s t → IsReverted e t left → IsReverted e s left
reverted_too e s t left fits back gone =
    let still = stays_step (Ok e) (before_edit e s) s t left (leads_before e s fits) (stays s t back) (is_undone e t left gone) in
    record {
      meta = still.meta;
      model = still.model;
      room = subst (λ g. KeepsRoomOf g (e.waiting ++ s.places) left.places) (sym still.model) still.room;
    }

pub LeadBack-more : (edits : List HeldEdit) (before s t : Held) → LeadBack before edits s → IsBack s t → LeadBack before edits t
LeadBack-more [] before s t lead back = IsBack-then before s t lead back
LeadBack-more (e ∷ edits) before s t lead back = (
  record {
    fits = fits_step (Ok e) (before_edit e s) s t (leads_before e s lead.0) (stays s t back);
    gone = subst (λ g. (o : ObjId) → IsSome (gone_at (undone e.edit g) o) → IsSome (gone_at g o)) (sym back.model) lead.0.gone;
  },
  λ left gone. lead.1 left (reverted_too e s t left lead.0 back gone),
)

-- ---- one edit more

module _ (c : Change) (old new : Held) (e : HeldEdit) (gives : GivesStorable c) (sound : IsSound old.meta) (valid : IsValid old.meta old.model) (makes : Makes c old new (Ok e)) where
  made : tested.LeadsBack e old new
  made = leads_back c old new (Ok e) gives sound valid makes

  -- the edit of a change that is made is taken back
  pub back_made : (left : Held) → IsReverted e new left → IsBack old left
  back_made left gone = is_back old left (stays_step (Ok e) old new new left made (stays_still new) (is_undone e new left gone))

  pub LeadBack-made : (edits : List HeldEdit) (before : Held) → LeadBack before edits old → LeadBack before (e ∷ edits) new
  LeadBack-made edits before lead = (
    record { fits = made.fits; gone = λ o some. made.gone o (subst (λ g. IsSome (gone_at g o)) made.model some) },
    λ left gone. LeadBack-more edits before old left lead (back_made left gone),
  )

-- ---- the last edit of a list

reverse-pushed : (edits : List HeldEdit) (e : HeldEdit) → reverse (edits ++ e ∷ []) ≡ e ∷ reverse edits
reverse-pushed edits e = reverse-append edits (e ∷ [])

module _ (before s : Held) (edits rest : List HeldEdit) (e : HeldEdit) (is : edits ≡ rest ++ e ∷ []) (lead : LeadBack before (reverse edits) s) where
  lead_last : LeadBack before (e ∷ reverse rest) s
  lead_last = subst (λ es. LeadBack before es s) (ap reverse is ∙ reverse-pushed rest e) lead

  -- it fits
  pub fits_popped : Fits e s
  fits_popped = lead_last.0.fits

  -- and those before it lead on
  pub lead_popped : (left : Held) → IsReverted e s left → LeadBack before (reverse rest) left
  lead_popped left gone = lead_last.1 left gone

-- an edit is added at the end
pub lead_pushed : (before s : Held) (edits more : List HeldEdit) (e : HeldEdit) → more ≡ edits ++ e ∷ [] → LeadBack before (e ∷ reverse edits) s → LeadBack before (reverse more) s
lead_pushed before s edits more e is lead = subst (λ es. LeadBack before es s) (sym (ap reverse is ∙ reverse-pushed edits e)) lead
