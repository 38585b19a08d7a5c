use Rattle.std.specs.Io.KnownBytes.{Keeps}
use Rattle.vt_outside.proofs.output.write_some.Given as goal

-- a write that was cut off left nothing
abbrev pub invariant-loop : goal.invariant-loop
invariant-loop g l = Keeps (g.W.Write.contents l.fn.out) (g.W.Write.contents l.out)
