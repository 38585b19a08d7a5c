-- A number as its digits come.
use Rattle.std.specs.Prelude.{ℕ, ◌+◌, ◌-◌, ◌*◌, List, [], ◌∷◌}
use Rattle.vt_tokens.specs.Words.{limited}

-- the number that digits make behind those of another, cut down at each
abbrev pub digits_on : ℕ → List ℕ → ℕ
digits_on n [] = n
digits_on n (b ∷ bytes) = digits_on (limited (n * 10 + (b - 48))) bytes
