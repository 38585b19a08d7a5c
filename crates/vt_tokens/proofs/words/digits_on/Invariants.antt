use Rattle.std.proofs.Common.{◌≡◌, ◌≤◌, drop}
use Rattle.vt_tokens.specs.Inside.Digits.{digits_on}
use Rattle.vt_tokens.proofs.words.digits_on.Given as goal

-- the digits that are left go on from the number so far
abbrev pub invariant-loop-b : goal.invariant-loop-b
invariant-loop-b l = (l.n ≤ 9223372036854775807) × (digits_on l.n (drop l.b-index l.digits) ≡ digits_on 0 l.fn.digits)
