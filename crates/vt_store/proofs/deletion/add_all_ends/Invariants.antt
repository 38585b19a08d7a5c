use Rattle.std.proofs.Common.{◌≡◌, ◌++◌, drop}
use Rattle.vt_store.specs.Inside.Levels.{link_on, links_of}
use Rattle.vt_store.proofs.deletion.add_all_ends.Given as goal

abbrev pub invariant-loop-list : goal.invariant-loop-list
invariant-loop-list l = l.links.items ++ links_of (link_on l.side l.x) (drop l.list-index l.lists) ≡ l.fn.links.items ++ links_of (link_on l.side l.x) l.lists
