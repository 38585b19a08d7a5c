use Rattle.std.proofs.Common.{drop}
use Rattle.vt_base.specs.Names.{AreNamed}
use Rattle.vt_base.specs.Inside.Further.{further_text}
use Rattle.vt_base.proofs.WrittenLemmas.{IsWritten}
use Rattle.vt_base.proofs.writing.write_further.Given as goal

-- the values so far were written, and what the others name has a name
abbrev pub invariant-loop-value : goal.invariant-loop-value
invariant-loop-value g l =
    AreNamed (g.N.Names.enums l.fn.names) (g.N.Names.objects l.fn.names) (drop l.value-index l.values)
    × IsWritten l.fn.out l.out (further_text (g.N.Names.enums l.fn.names) (g.N.Names.objects l.fn.names) l.values)
    (further_text (g.N.Names.enums l.fn.names) (g.N.Names.objects l.fn.names) (drop l.value-index l.values))
