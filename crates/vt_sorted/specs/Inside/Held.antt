-- A vector that holds one set.
use Rattle.std.specs.Prelude.{[], slice_index_or}
use Rattle.std.specs.declared.vec.Vec.{Vec}
use Rattle.vt_facts.specs.Room.{Room}

-- the first set, or none
abbrev pub only : {T Z : Type 0} → Vec (Room T) Z → Room T
only held = slice_index_or held.items 0 (record { items = []; spare = 0 })
