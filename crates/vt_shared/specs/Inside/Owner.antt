-- What a `Shared` owns, and what a `&` to one holds: its block lies at c, and x is its value, of the row R.
--
-- The allocator is of the row Z, and `holds` is its right to free a block. A `&` reads the value alone.
use base.Fml.{Lft, Key, Fml}
use mir.Syntax.{Ty}
use denote.RattleType.{RattleType}
use denote.RawPtr.{Ptr, block_of, count_of, ◌+ₚ◌}
use denote.Struct.Lending.{lent_at}
use Rattle.vt_shared.specs.Inside.Layout.{count_is, value_at, contents}
use Rattle.vt_shared.specs.Inside.Tally.{owner, lent}

-- the book of a block is found by the block's place
abbrev pub page : Ptr → Key
page c = (block_of c, count_of c)

module _ (Z : RattleType) (holds : Z.Denot → Ty → Ptr → Fml) (R : RattleType) (c : Ptr) (x : R.Denot) where
  abbrev pub owner_owns : Fml
  owner_owns = owner (page c) (count_is c) (contents R Z holds c x) (lent_at R (c +ₚ value_at R Z) x)

  abbrev pub owner_shares : Lft → Fml
  owner_shares = lent (page c) (count_is c) (contents R Z holds c x) (lent_at R (c +ₚ value_at R Z) x)
