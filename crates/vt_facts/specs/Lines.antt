-- The lines of a text.
use Rattle.std.specs.Prelude.{◌≢◌, ℕ, ◌==◌, ◌&&◌, List, [], ◌∷◌, Bool, false, if◌then◌else◌}
use Rattle.std.specs.List.{onto_first}

-- whether the next byte is a line feed
abbrev pub feeds : List ℕ → Bool
feeds [] = false
feeds (b ∷ rest) = b == 10

-- a line feed ends a line, and a carriage return right before it is no part of the line; what comes
-- after the last line feed is a line where it is not empty
abbrev pub lines_of : List ℕ → List (List ℕ)
lines_of [] = []
lines_of (b ∷ rest) = if b == 10 then [] ∷ lines_of rest else if b == 13 && feeds rest then lines_of rest else onto_first b (lines_of rest)

-- what a line may be in the middle of a text: it has no line feed, and no carriage return at its end
abbrev pub IsLine : List ℕ → Type 0
IsLine [] = Unit {0}
IsLine (b ∷ []) = (b ≢ 10) × (b ≢ 13)
IsLine (b ∷ c ∷ rest) = (b ≢ 10) × IsLine (c ∷ rest)
