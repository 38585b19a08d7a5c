use Rattle.std.proofs.Common.{◌≤◌, ◌-◌, length}
use Rattle.std.specs.Io.KnownBytes.{Consumes}
use Rattle.vt_outside.proofs.files.read_within.Given as goal

-- no more is held than may be taken, and it is what the reader lost
abbrev pub invariant-loop-chunk : goal.invariant-loop-chunk
invariant-loop-chunk g l = (length l.bytes ≤ l.most) × Consumes (g.F.Read.remaining l.fn.file) (g.F.Read.remaining l.file) l.bytes

abbrev pub decreases-loop-chunk : goal.decreases-loop-chunk
decreases-loop-chunk g l = l.most - length l.bytes
