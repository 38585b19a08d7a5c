use Rattle.std.proofs.Common.{◌≡◌, length}
use Rattle.vt_memory.specs.Inside.Chains.{chain_at}
use Rattle.vt_memory.specs.Inside.Numbers.{number_of}
use Rattle.vt_memory.specs.Inside.Indexed.{key_among}
use Rattle.vt_memory.proofs.search.key_of.Given as goal

-- the keys that are left have the one that is looked for, if there is one
abbrev pub invariant-loop-key : goal.invariant-loop-key
invariant-loop-key l = key_among l.slab l.row l.keys ≡ key_among l.fn.slab l.fn.row (chain_at l.fn.whole.chains (number_of l.fn.row))

abbrev pub decreases-loop-key : goal.decreases-loop-key
decreases-loop-key l = length l.keys
