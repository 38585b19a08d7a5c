use Rattle.std.proofs.Common.{drop}
use Rattle.vt_change.specs.Inside.Telling.{link_rows}
use Rattle.vt_change.proofs.TellLemmas.{Leaves}
use Rattle.vt_change.proofs.telling.tell_links.Given as goal

-- some links are left
abbrev pub invariant-loop-link : goal.invariant-loop-link
invariant-loop-link l = Leaves l.way (link_rows (drop l.link-index l.links)) (link_rows l.links) l.fn.references l.references
