use Rattle.std.proofs.Common.{◌≡◌, ◌++◌, drop, map}
use Rattle.vt_store.specs.Inside.Levels.{link_on}
use Rattle.vt_store.proofs.deletion.add_ends.Given as goal

abbrev pub invariant-loop-other : goal.invariant-loop-other
invariant-loop-other l = l.links.items ++ map (link_on l.side l.x l.reference) (drop l.other-index l.others) ≡ l.fn.links.items ++ map (link_on l.side l.x l.reference) l.others
