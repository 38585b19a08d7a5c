-- What contracts see of the shelf over the files of the system.
use Rattle.std.specs.Prelude.{ℕ, List, Option}

-- how often a fetch failed, and the name that the last of these asked for
pub record DeviceShelf : Type 0 where
  pub faults : ℕ
  pub failed : Option (List ℕ)
