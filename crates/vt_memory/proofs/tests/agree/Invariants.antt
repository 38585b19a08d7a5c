use Rattle.std.proofs.Common.{◌≡◌, [], ◌∷◌}
use Rattle.vt_memory.proofs.tests.agree.Given as goal

-- the keys stay
abbrev pub invariant-loop : goal.invariant-loop
invariant-loop g l = l.memory.keys ≡ (0 ∷ []) ∷ (1 ∷ []) ∷ []
