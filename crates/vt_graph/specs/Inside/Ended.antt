-- That the ends of all objects rise, and what a change of one link does to them.
use Rattle.std.specs.Prelude.{◌≡◌, ◌<◌, ◌≤◌, List, All, length, map}
use Rattle.vt_base.specs.declared.numbers.ObjId.{ObjId}
use Rattle.vt_base.specs.declared.numbers.RefId.{RefId}
use Rattle.vt_model.specs.declared.model.Link.{Link}
use Rattle.vt_slots.specs.Ends.{EndList, ReferencesRise, ObjectsRise, objects_of, capacity_of, AddsEnd, DropsEnd, SameEnds, KeepsRoom}
use Rattle.vt_slots.specs.Slots.{ends_at, bare}
use Rattle.vt_slots.specs.declared.slot.Side.{Side}
use Rattle.vt_slots.specs.declared.slot.Side.TheVariants.{Outgoing, Incoming}
use Rattle.vt_slots.specs.declared.slot.Slot.{Slot}
use Rattle.vt_graph.specs.Asked.{other_of}

-- the references rise, and the objects of each
pub record EndsRise (lists : List EndList) : Type 0 where
  pub references : ReferencesRise lists
  pub objects : All (λ l. ObjectsRise l.objects) lists

-- those of each object on both sides do
abbrev pub AllEndsRise : List Slot → Type 0
AllEndsRise slots = (o : ObjId) (side : Side) → EndsRise (ends_at slots o side)

-- the objects of each reference fit in its room
abbrev pub EndsFit : List EndList → Type 0
EndsFit lists = All (λ l. length l.objects ≤ l.capacity) lists

abbrev pub AllEndsFit : List Slot → Type 0
AllEndsFit slots = (o : ObjId) (side : Side) → EndsFit (ends_at slots o side)

-- the ends of all objects rise, and fit in their room
pub record AreInShape (slots : List Slot) : Type 0 where
  pub rise : AllEndsRise slots
  pub fit : AllEndsFit slots

-- ---- what a change does

-- the object on this side of a link
abbrev pub near_of : Side → Link → ObjId
near_of Outgoing link = link.source
near_of Incoming link = link.target

-- a change at both ends of a link, and all other ends stay
pub record ChangesEnds (Change : List EndList → List EndList → RefId → ObjId → Type 0) (old new : List Slot) (link : Link) : Type 0 where
  pub ends : (side : Side) → Change (ends_at old (near_of side link) side) (ends_at new (near_of side link) side) link.reference (other_of side link)
  pub others : (o : ObjId) (side : Side) → (o ≡ near_of side link → ⊥) → ends_at new o side ≡ ends_at old o side

-- the link stands at both its ends, and all else stands as before
abbrev pub AddsLink : List Slot → List Slot → Link → Type 0
AddsLink old new link = ChangesEnds AddsEnd old new link

-- the link stands at its ends no more, and all else stands as before
abbrev pub DropsLink : List Slot → List Slot → Link → Type 0
DropsLink old new link = ChangesEnds DropsEnd old new link

-- for each object, side and reference the same objects
abbrev pub SameObjects : List Slot → List Slot → Type 0
SameObjects old new = (o : ObjId) (side : Side) → SameEnds (ends_at old o side) (ends_at new o side)

-- for no object, side and reference less room
abbrev pub AllKeepRoom : List Slot → List Slot → Type 0
AllKeepRoom old new = (o : ObjId) (side : Side) → KeepsRoom (ends_at old o side) (ends_at new o side)

-- of the slots only ends change: these are in shape, and none has less room
pub record ChangesOnlyEnds (old new : List Slot) : Type 0 where
  pub same : map bare new ≡ map bare old
  pub shape : AreInShape new
  pub room : AllKeepRoom old new

-- one more object of a reference fits without memory
abbrev pub HasRoomAt : List Slot → ObjId → Side → RefId → Type 0
HasRoomAt slots o side r = length (objects_of (ends_at slots o side) r) < capacity_of (ends_at slots o side) r
