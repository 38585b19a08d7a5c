use Rattle.std.proofs.Common.{◌≡◌, ◌++◌, drop}
use Rattle.vt_store.specs.Inside.Displaced.{to_others}
use Rattle.vt_store.proofs.displaced.add_others.Given as goal

abbrev pub invariant-loop-other : goal.invariant-loop-other
invariant-loop-other l = l.found.items ++ to_others l.side l.meta l.o l.reference (drop l.other-index l.others) ≡ l.fn.found.items ++ to_others l.side l.meta l.o l.reference l.others
