-- Objects that are buried one after another, and wait with their room.
use Rattle.std.specs.Prelude.{◌≡◌, ◌++◌, List, [], ◌∷◌, Contains, Some}
use Rattle.vt_base.specs.declared.numbers.ObjId.{ObjId}
use Rattle.vt_base.specs.declared.numbers.RefId.{RefId}
use Rattle.vt_model.specs.declared.model.Object.{Object}
use Rattle.vt_slots.specs.declared.slot.Side.{Side}
use Rattle.vt_graph.specs.Held.{Held, Place, Buried}
use Rattle.vt_graph.specs.Room.{KeepsOthersRoom, class_kept, capacity_at, capacity_in}
use Rattle.vt_store.specs.Inside.Levels.{object_at, buried}

-- a live object is buried, and waits with the room that it had
pub record Buries (old : Held) (x : ObjId) (b : Buried) (new : Held) : Type 0 where
  pub meta : new.meta ≡ old.meta
  pub model : new.model ≡ buried old.model x
  pub lived : object_at old.model x ≡ Some b.object
  pub of : b.meta ≡ old.meta
  pub own_room : (side : Side) (r : RefId) → capacity_in b side r ≡ capacity_at old.places x side r
  pub room : KeepsOthersRoom x old.places new.places
  pub was : class_kept old.places x ≡ Some b.object.class
  pub class : class_kept new.places x ≡ Some b.object.class

-- one more waits
pub record AddsBuried (old : Held) (x : ObjId) (before : List Buried) (new : Held) (after : List Buried) : Type 0 where
  pub one : Buried
  pub added : after ≡ before ++ one ∷ []
  pub step : Buries old x one new

-- these objects are buried in turn, and wait in their order
abbrev pub BuriesAll : Held → List ObjId → List Buried → Held → Type 0
BuriesAll old [] [] new = old ≡ new
BuriesAll old (x ∷ xs) (b ∷ bs) new = (next : Held) × Buries old x b next × BuriesAll next xs bs new
BuriesAll old xs bs new = ⊥

-- the classes of objects are kept
abbrev pub HasClasses : List Place → List Object → Type 0
HasClasses places objects = (x : Object) → Contains objects x → class_kept places x.number ≡ Some x.class
