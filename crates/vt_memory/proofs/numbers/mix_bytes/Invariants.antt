use Rattle.std.proofs.Common.{◌≡◌, drop, fold}
use Rattle.vt_memory.specs.Inside.Numbers.{mix}
use Rattle.vt_memory.proofs.numbers.mix_bytes.Given as goal

-- the bytes that are left give the rest of the number
abbrev pub invariant-loop-byte : goal.invariant-loop-byte
invariant-loop-byte l = fold mix l.mixed (drop l.byte-index l.bytes) ≡ fold mix l.fn.number l.fn.bytes
