-- What is taken from a reader.
use Rattle.std.specs.Prelude.{◌≤◌, ℕ, List, length, Option}
use Rattle.std.specs.Io.KnownBytes.{Consumes}

-- no more than so many bytes were taken
pub record TakesAtMost (most : ℕ) (old new : Option (List ℕ)) : Type 0 where
  pub taken : List ℕ
  pub few : length taken ≤ most
  pub gone : Consumes old new taken
