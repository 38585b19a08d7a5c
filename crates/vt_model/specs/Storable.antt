-- Values that can be held: whole numbers of 64 bits with a sign, and texts in UTF-8.
use Rattle.std.specs.Prelude.{◌<◌, ◌^◌, ℤ, pos, negsuc, IsUtf8}
use Rattle.vt_base.specs.declared.value.Value.{Value}
use Rattle.vt_base.specs.declared.value.Value.TheVariants as value
use Rattle.vt_model.specs.declared.change.Given.{Given}
use Rattle.vt_model.specs.declared.change.Given.TheVariants as given
use Rattle.vt_model.specs.declared.change.Change.{Change}
use Rattle.vt_model.specs.declared.change.Change.TheVariants.{Create, Delete, Set, Unset, Link, Unlink, Move}

-- a whole number from -2^63 to 2^63 - 1
abbrev pub IsSigned64 : ℤ → Type 0
IsSigned64 (pos n) = n < 2 ^ 63
IsSigned64 (negsuc n) = n < 2 ^ 63

-- a whole number has 64 bits with a sign, and a text is UTF-8
abbrev pub IsStorable : Value → Type 0
IsStorable (value.Bool b) = Unit {0}
IsStorable (value.Int n) = IsSigned64 n
IsStorable (value.Text s) = IsUtf8 s
IsStorable (value.Enum e l) = Unit {0}
IsStorable (value.Obj o) = Unit {0}

-- the same of a value that a change gives
abbrev pub IsGivable : Given → Type 0
IsGivable (given.Bool b) = Unit {0}
IsGivable (given.Int n) = IsSigned64 n
IsGivable (given.Text s) = IsUtf8 s
IsGivable (given.Literal e l) = Unit {0}

-- a change gives such a value, or none
abbrev pub GivesStorable : Change → Type 0
GivesStorable (Create name class number) = Unit {0}
GivesStorable (Delete name) = Unit {0}
GivesStorable (Set name attr given) = IsGivable given
GivesStorable (Unset name attr) = Unit {0}
GivesStorable (Link name reference target) = Unit {0}
GivesStorable (Unlink name reference target) = Unit {0}
GivesStorable (Move child parent reference) = Unit {0}
