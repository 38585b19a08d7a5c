-- The ends of a slot.
use Rattle.std.specs.Prelude.{List, [], option_map, unwrap_or}
use Rattle.vt_slots.specs.Ends.{EndList}
use Rattle.vt_slots.specs.Slots.{ends_on}
use Rattle.vt_slots.specs.declared.slot.Side.{Side}
use Rattle.vt_slots.specs.declared.slot.Slot.{Slot}

-- the ends of a slot on a side, none of an object that isn't live
abbrev pub slot_ends : Side → Slot → List EndList
slot_ends side s = unwrap_or (option_map (ends_on side) s.body) []
