-- What Set and Unset come to once their names are looked up.
use Rattle.std.proofs.Common.{arith, ◌++◌, ◌≡◌, [], ap, subst, sym, ◌∙◌}
use Rattle.std.specs.Prelude.{Contains, Option, Ok, Err}
use Rattle.vt_base.specs.declared.numbers.ObjId.{ObjId}
use Rattle.vt_base.specs.declared.numbers.AttrId.{AttrId}
use Rattle.vt_base.specs.declared.value.Value.{Value}
use Rattle.vt_model.specs.Assigning.{with_default_value}
use Rattle.vt_model.specs.Effect.{effect}
use Rattle.vt_model.specs.Sound.{IsSound}
use Rattle.vt_model.specs.Storable.{GivesStorable}
use Rattle.vt_model.specs.Valid.{IsValid}
use Rattle.vt_model.specs.declared.model.Object.{Object}
use Rattle.vt_model.specs.declared.change.Change.{Change}
use Rattle.vt_graph.specs.Held.{Held}
use Rattle.vt_graph.specs.Asked.{value_at}
use Rattle.vt_graph.specs.Room.{KeepsRoom, HasRoom}
use Rattle.vt_store.specs.Edits.{edit_of}
use Rattle.vt_store.specs.Undoing.{HeldEdit, KeepsRoomOf}
use Rattle.vt_store.specs.Changing.{Makes}
use Rattle.vt_store.specs.declared.fault.StoreFault.{StoreFault}
use Rattle.vt_store.specs.declared.fault.StoreFault.TheVariants.{NoMemory}
use Rattle.vt_store.specs.Inside.Assigned.{value_change, values_edit}
use Rattle.vt_store.proofs.AssignLemmas.{edit_of-assigned}
use Rattle.vt_store.proofs.MakesLemmas.{room_kept, makes_nothing, makes_made}

-- ---- the edit

-- the same places have the same room
same_room : (old new : Held) → new.places ≡ old.places → KeepsRoom old.places new.places
same_room old new same = subst (KeepsRoom old.places) (sym same) (record { room = λ o side r. omega arith; classes = λ o c is. is })

-- memory ran out
pub makes_no_assignment : (change : Change) (old new : Held) (f : StoreFault) → f ≡ NoMemory → new.meta ≡ old.meta → new.model ≡ old.model → new.places ≡ old.places
    → Makes change old new (Err f)
makes_no_assignment change old new f is meta model places = makes_nothing change old new f is meta model (same_room old new places)

module _ (old new : Held) (e : HeldEdit) (o : ObjId) (a : AttrId) (v : Option Value) (valid : IsValid old.meta old.model)
    (made : new.model ≡ with_default_value old.model o a v)
    (is : e ≡ record { meta = old.meta; edit = values_edit old.model.next (value_change o a (value_at old.model o a) v); waiting = [] }) where
  -- it is what changed
  assigned_edit : e.edit ≡ edit_of old.model new.model
  assigned_edit = ap (λ d. d.edit) is ∙ sym (edit_of-assigned o a old.model valid.values_rise v) ∙ ap (edit_of old.model) (sym made)

  -- so the assignment is made
  pub makes_assigned : (change : Change) → GivesStorable change → IsSound old.meta → HasRoom old.places old.model → effect old.meta old.model change ≡ Ok (with_default_value old.model o a v)
      → new.meta ≡ old.meta → new.places ≡ old.places → Makes change old new (Ok e)
  makes_assigned change gives sound has done meta places = makes_made change old new e gives sound valid has meta (done ∙ ap Ok (sym made)) (record {
    of = ap (λ d. d.meta) is ∙ sym meta;
    is = assigned_edit;
    gone = λ x went. absurd (none x (subst (λ d. Contains d.edit.live.removed x) is went));
    kept = λ x went. absurd (none x (subst (λ d. Contains d.edit.live.removed x) is went));
    waits = λ x went. absurd (none x (subst (λ d. Contains d.edit.live.removed x) is went));
    room = subst (λ d. KeepsRoomOf old.model old.places (d.waiting ++ new.places)) (sym is) (room_kept old.model old.places new.places (same_room old new places));
  })
    where
      none : (x : Object) → Contains [] x → ⊥
      none x there = absurd (omega arith)
