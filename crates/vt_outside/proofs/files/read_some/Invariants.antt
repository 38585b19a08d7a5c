use Rattle.std.specs.Io.KnownBytes.{Keeps}
use Rattle.vt_outside.proofs.files.read_some.Given as goal

-- a read that was cut off took nothing
abbrev pub invariant-loop : goal.invariant-loop
invariant-loop g l = Keeps (g.F.Read.remaining l.fn.file) (g.F.Read.remaining l.file)
