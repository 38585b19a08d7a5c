-- A transaction under way goes on with each change, and can go back at any time.
use Rattle.std.proofs.Common.{◌≡◌, ◌≤◌, ◌<◌, ◌+◌, ℕ, List, [], ◌∷◌, ◌++◌, refl, sym, ap, subst, ◌∙◌, inl, inr, arith, reverse}
use Rattle.std.specs.Prelude.{Contains, Ok, Err}
use Rattle.vt_delta.specs.Deltas.{HasCounts}
use Rattle.vt_delta.specs.Changes.{change_of}
use Rattle.vt_base.specs.declared.numbers.ObjId.{ObjId}
use Rattle.vt_model.specs.Metamodel.{Metamodel}
use Rattle.vt_model.specs.Model.{Model}
use Rattle.vt_model.specs.Base.{counts_of}
use Rattle.vt_model.specs.Effect.{effect}
use Rattle.vt_model.specs.Transaction.{stopped_at, and_then, changes_from}
use Rattle.vt_model.specs.Touched.{AreTouched}
use Rattle.vt_model.specs.Sound.{IsSound}
use Rattle.vt_model.specs.Storable.{GivesStorable}
use Rattle.vt_model.specs.Valid.{IsValid}
use Rattle.vt_model.specs.declared.model.Object.{Object}
use Rattle.vt_model.specs.declared.change.Change.{Change}
use Rattle.vt_model.specs.declared.change.Refusal.{Refusal}
use Rattle.vt_model.proofs.KeptLemmas.{Keeps-effect}
use Rattle.vt_graph.specs.Held.{Held}
use Rattle.vt_store.specs.Undoing.{HeldEdit}
use Rattle.vt_store.specs.Changing.{Makes}
use Rattle.vt_store.specs.declared.fault.StoreFault.{StoreFault}
use Rattle.vt_store.specs.declared.fault.StoreFault.TheVariants as store
use Rattle.vt_change.specs.Leading.{IsReverted, LeadBack}
use Rattle.vt_change.specs.declared.fault.ApplyFault.TheVariants as apply
use Rattle.vt_change.specs.declared.telling.Told.{Told}
use Rattle.vt_change.specs.Inside.Telling.{HasPlaces, Tells, IsTold}
use Rattle.vt_change.specs.Inside.Naming.{all_named, IsInOrder}
use Rattle.vt_change.specs.Inside.Working.{AreKnown, IsUnderWay, StillLeadBack, fault_at}
use Rattle.vt_change.proofs.BornLemmas.{known-effect}
use Rattle.vt_change.proofs.LeadLemmas.{IsBack-itself, LeadBack-more, LeadBack-made, back_made, lead_pushed}
use Rattle.vt_change.proofs.ToldLemmas.{IsTold-tells, HasPlaces-edit}
use Rattle.vt_change.proofs.TouchedLemmas.{AreTouched-named}

-- ---- at the beginning

pub IsUnderWay-begins : (s : Held) (told : Told) (edits : List HeldEdit) → IsValid s.meta s.model → IsTold s.meta s.model s.model told → edits ≡ [] → IsUnderWay s s told edits
IsUnderWay-begins s told edits valid is none = record {
  meta = refl;
  begun = valid;
  told = is;
  known = λ x there. inl there;
  next = omega arith;
  back = subst (λ es. LeadBack s (reverse es) s) (sym none) (IsBack-itself s);
}

-- ---- a change that isn't made

pub still_refused : (change : Change) (old new : Held) (f : StoreFault) → Makes change old new (Err f) → (edits : List HeldEdit) → StillLeadBack edits old edits new
still_refused change old new f makes edits before lead =
    LeadBack-more (reverse edits) before old new lead (record { meta = makes.meta; model = makes.unchanged; room = makes.kept })

-- ---- a change that is made

module _ (change : Change) (old new : Held) (e : HeldEdit) (gives : GivesStorable change) (sound : IsSound old.meta) (valid : IsValid old.meta old.model) (makes : Makes change old new (Ok e)) where
  -- its edit is taken back
  pub still_reverted : (left : Held) → IsReverted e new left → (edits more : List HeldEdit) → more ≡ edits → StillLeadBack edits old more left
  still_reverted left gone edits more same before lead =
      subst (λ es. LeadBack before (reverse es) left) (sym same) (LeadBack-more (reverse edits) before old left lead (back_made change old new e gives sound valid makes left gone))

  -- or kept
  pub still_pushed : (edits more : List HeldEdit) → more ≡ edits ++ e ∷ [] → StillLeadBack edits old more new
  still_pushed edits more is before lead = lead_pushed before new edits more e is (LeadBack-made change old new e gives sound valid makes (reverse edits) before lead)

  -- there are places for its rows
  pub HasPlaces-made : (told : Told) → IsValid new.meta new.model → HasCounts (counts_of old.meta) told.delta → HasPlaces new.meta e.edit told
  HasPlaces-made told still counts =
      subst (λ d. HasPlaces new.meta d told) (sym makes.edit)
      (HasPlaces-edit new.meta old.model new.model told (subst (λ m. IsValid m old.model) (sym makes.meta) valid) still (subst (λ m. HasCounts (counts_of m) told.delta) (sym makes.meta) counts))

  AreKnown-then : (before : Model) → AreKnown before old.model → before.next ≤ old.model.next → AreKnown before new.model
  AreKnown-then before known next x there = elim (known-effect old.meta old.model new.model change makes.made x there) [
    | inl old_one ↦ known x old_one
    | inr new_one ↦ inr (omega (arith, next, new_one))
  ]

  -- and what it tells goes with the rest
  pub IsUnderWay-made : IsValid new.meta new.model → (told then : Told) (edits more : List HeldEdit) → Tells new.meta e.edit told then → more ≡ edits ++ e ∷ []
      → (before : Held) → IsUnderWay before old told edits → IsUnderWay before new then more
  IsUnderWay-made still told then edits more tells is before under = record {
    meta = makes.meta ∙ under.meta;
    begun = under.begun;
    told = IsTold-tells before.meta before.model old.model new.model under.begun (subst (λ m. IsValid m old.model) under.meta valid) (subst (λ m. IsValid m new.model) (makes.meta ∙ under.meta) still)
        (known-effect old.meta old.model new.model change makes.made) told then under.told
        (subst (λ d. Tells before.meta d told then) makes.edit (subst (λ m. Tells m e.edit told then) (makes.meta ∙ under.meta) tells));
    known = AreKnown-then before.model under.known under.next;
    next = let more_numbers = (Keeps-effect old.meta old.model new.model change valid makes.made).next in omega (arith, more_numbers, under.next);
    back = still_pushed edits more is before under.back;
  }

-- ---- one change after the other

-- a change that is made, then the rest
pub further : (meta : Metamodel) (n : ℕ) (g after : Model) (c : Change) (cs : List Change) → effect meta g c ≡ Ok after → changes_from meta (n + 1) after cs ≡ changes_from meta n g (c ∷ cs)
further meta n g after c cs made = sym (ap (λ r. and_then (λ h. changes_from meta (n + 1) h cs) (stopped_at n r)) made)

-- one that is refused
pub stops : (meta : Metamodel) (n : ℕ) (g : Model) (c : Change) (cs : List Change) (why : Refusal) → effect meta g c ≡ Err why → changes_from meta n g (c ∷ cs) ≡ Err (record { at = n; why = why })
stops meta n g c cs why refused = ap (λ r. and_then (λ h. changes_from meta (n + 1) h cs) (stopped_at n r)) refused

-- the place and the reason of a fault are those of the change
pub fault_is : (n at : ℕ) (fault : StoreFault) (why : Refusal) → fault_at n fault ≡ apply.Refused at why → (fault ≡ store.Refused why) × (n ≡ at)
fault_is n at (store.Refused other) why same = (cc, cc)
fault_is n at store.NoMemory why same = (cc, cc)

-- ---- at the end

pub AreTouched-under_way : (before now : Held) (told : Told) (edits : List HeldEdit) (objects : List ObjId) → IsUnderWay before now told edits → IsValid now.meta now.model
    → IsInOrder (all_named before.model.next now.model (change_of told.values)) objects → AreTouched before.model now.model objects
AreTouched-under_way before now told edits objects under still order =
    AreTouched-named before.meta before.model now.model under.begun (subst (λ m. IsValid m now.model) under.meta still) born objects order.rise
    (λ o there. subst (λ change. Contains (all_named before.model.next now.model change) o) under.told.values (order.among o there))
    (λ o there. order.kept o (subst (λ change. Contains (all_named before.model.next now.model change) o) (sym under.told.values) there))
  where
    born : (x : Object) → Contains now.model.live x → x.number.0 < before.model.next → Contains before.model.live x
    born x there below = elim (under.known x there) [
      | inl stood ↦ stood
      | inr free ↦ absurd (omega (arith, below, free))
    ]
