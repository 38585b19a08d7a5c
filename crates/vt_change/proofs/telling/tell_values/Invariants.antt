use Rattle.std.proofs.Common.{drop}
use Rattle.vt_change.specs.Inside.Telling.{value_rows}
use Rattle.vt_change.proofs.TellLemmas.{Leaves}
use Rattle.vt_change.proofs.telling.tell_values.Given as goal

-- some values are left
abbrev pub invariant-loop-held : goal.invariant-loop-held
invariant-loop-held l = Leaves l.way (value_rows (drop l.held-index l.values)) (value_rows l.values) l.fn.attributes l.attributes
