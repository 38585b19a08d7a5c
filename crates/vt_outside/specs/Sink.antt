-- What was written, where it is told.
use Rattle.std.specs.Prelude.{ℕ, List, take, Option}
use Rattle.std.specs.Io.KnownBytes.{Appends}

-- what was written grew by a prefix of the piece
pub record AppendsPrefix (old new : Option (List ℕ)) (piece : List ℕ) : Type 0 where
  pub count : ℕ
  pub grown : Appends old new (take count piece)
