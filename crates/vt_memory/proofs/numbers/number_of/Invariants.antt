use Rattle.std.proofs.Common.{◌≡◌, drop, fold}
use Rattle.vt_memory.specs.Inside.Numbers.{with_value, number_of}
use Rattle.vt_memory.proofs.numbers.number_of.Given as goal

-- the values that are left give the rest of the number
abbrev pub invariant-loop-value : goal.invariant-loop-value
invariant-loop-value l = fold with_value l.number (drop l.value-index l.values) ≡ number_of l.fn.values
