use Rattle.std.proofs.Common.{◌≡◌, ◌++◌, length}
use Rattle.std.specs.List.{filter_map}
use Rattle.vt_change.specs.Inside.Naming.{object_named}
use Rattle.vt_change.proofs.naming.add_named.Given as goal

-- those that are found, and those that the rows to come name, are all
abbrev pub invariant-loop-row : goal.invariant-loop-row
invariant-loop-row l = l.found.items ++ filter_map (object_named l.next l.store.model) l.walk ≡ l.fn.found.items ++ filter_map (object_named l.next l.store.model) l.rows.items

-- the rows to come
abbrev pub decreases-loop-row : goal.decreases-loop-row
decreases-loop-row l = length l.walk
