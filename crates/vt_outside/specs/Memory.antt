-- What contracts see of the shelf and the sink whose calls fail by their numbers.
use Rattle.std.specs.Prelude.{ℕ, List, Option}
use Rattle.vt_outside.specs.Shelf.{NamedFiles}

-- a shelf in memory
pub record FailingShelf : Type 0 where
  pub files : NamedFiles
  -- the numbers of the calls that fail, counted from 1
  pub failing : List ℕ
  -- how many calls there were, and how many of them failed
  pub calls : ℕ
  pub faults : ℕ
  -- the name that the last of these asked for
  pub failed : Option (List ℕ)

-- a sink in memory
pub record FailingSink : Type 0 where
  pub bytes : List ℕ
  -- the numbers of the calls that fail, counted from 1
  pub failing : List ℕ
  -- how many calls there were, and how many of them failed
  pub calls : ℕ
  pub faults : ℕ
