use Rattle.std.proofs.Common.{◌≡◌, ◌≤◌, length, take}
use Rattle.vt_base.proofs.tuple.Tuple.from_slice.Given as goal

-- the values so far are there, and there is room for all
abbrev pub invariant-loop-value : goal.invariant-loop-value
invariant-loop-value l = (l.shared.items ≡ take l.value-index l.values) × (length l.values ≤ l.shared.capacity)
