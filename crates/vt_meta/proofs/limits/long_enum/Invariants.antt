use Rattle.std.proofs.Common.{◌≡◌, drop, length, find}
use Rattle.std.specs.Prelude.{nat_lt}
use Rattle.vt_meta.proofs.limits.long_enum.Given as goal

-- the rest decides
abbrev pub invariant-loop-info : goal.invariant-loop-info
invariant-loop-info l = find (λ e. nat_lt 1024 (length e.literals)) (drop l.info-index l.enums) ≡ find (λ e. nat_lt 1024 (length e.literals)) l.enums
