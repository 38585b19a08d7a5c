-- What becomes of a model where objects come and go.
use Rattle.std.specs.Prelude.{◌≡◌, ◌≢◌, ℕ, ◌<◌, ◌≤◌, ◌==◌, false, List, filter, not, All, Some}
use Rattle.std.specs.BTreeSet.{insert_key}
use Rattle.vt_base.specs.declared.numbers.ObjId.{ObjId}
use Rattle.vt_base.specs.declared.numbers.RefId.{RefId}
use Rattle.vt_model.specs.Model.{Model}
use Rattle.vt_model.specs.Creating.{is_taken}
use Rattle.vt_model.specs.Deleting.{with_gone}
use Rattle.vt_model.specs.Valid.{object_order}
use Rattle.vt_model.specs.declared.model.Object.{Object}
use Rattle.vt_slots.specs.declared.slot.Side.{Side}
use Rattle.vt_graph.specs.Held.{Held, Buried}
use Rattle.vt_graph.specs.Asked.{live_at}
use Rattle.vt_graph.specs.Room.{capacity_at, capacity_in, class_kept}

-- ---- what an object has

-- no link leads from the object or to it
abbrev pub HasNoLinks : Model → ObjId → Type 0
HasNoLinks g o = All (λ link. (link.source.0 ≢ o.0) × (link.target.0 ≢ o.0)) g.links

abbrev pub HasNoValues : Model → ObjId → Type 0
HasNoValues g o = All (λ t. t.object.0 ≢ o.0) g.values

-- the numbers of all other objects, live or deleted, are below
pub record IsLast (g : Model) (o : ObjId) (next : ℕ) : Type 0 where
  pub live_below : All (λ x. x.number.0 ≢ o.0 → x.number.0 < next) g.live
  pub gone_below : All (λ x. x.number.0 < next) g.gone

-- ---- who comes and who goes

-- the name was never taken, and the number is in range and above all that were given
pub record IsNew (g : Model) (name : List ℕ) (number : ℕ) : Type 0 where
  pub free : is_taken g name ≡ false
  pub above : g.next ≤ number
  pub small : number < 1048576

-- what was buried is what the object was: of its class, and with its room
pub record HasBuried (old : Held) (o : ObjId) (buried : Buried) : Type 0 where
  pub meta : buried.meta ≡ old.meta
  pub object : live_at old.model o ≡ Some buried.object
  pub class : class_kept old.places o ≡ Some buried.object.class
  pub room : (side : Side) (r : RefId) → capacity_in buried side r ≡ capacity_at old.places o side r

-- ---- what becomes of the model

-- an object was never made
abbrev pub with_retracted : Model → ObjId → ℕ → Model
with_retracted g o next = record g {
  next = next;
  live = filter (λ x. not (x.number.0 == o.0)) g.live;
  values = filter (λ t. not (t.object.0 == o.0)) g.values;
}

-- a live object was deleted
abbrev pub with_buried : Model → Object → Model
with_buried g o = record g {
  live = filter (λ x. not (x.number.0 == o.number.0)) g.live;
  gone = with_gone g.gone o;
}

-- a deleted object lives again
abbrev pub with_raised : Model → Object → Model
with_raised g o = record g {
  live = insert_key object_order g.live o;
  gone = filter (λ x. not (x.number.0 == o.number.0)) g.gone;
}
