use Rattle.std.proofs.Common.{◌≡◌, ◌++◌, drop}
use Rattle.vt_text.specs.Parsing.{firsts}
use Rattle.vt_text.specs.Inside.Trees.{beyond}
use Rattle.vt_text.proofs.slots.firsts.Given as goal

-- the slots so far, and those that are still to come, are all
abbrev pub invariant-loop-slot : goal.invariant-loop-slot
invariant-loop-slot l = l.slots ++ beyond l.slots (drop l.slot-index l.reads) ≡ firsts l.fn.reads
