-- How the block of a value of the row R lies in memory, with an allocator of the row Z.
use Rattle.std.specs.Prelude.{ℕ, ◌+◌, []}
use base.Fraction.{full_share}
use base.Fml.{Fml, ffalse, fsep, fex, fleft}
use mir.Syntax.{Ty, Tys, w64, ty_int, ty_struct, tcons, tnil}
use mir.Raw.{raw}
use prog.Memory.{size, align, up}
use denote.Builtin.{u64}
use denote.Memory.{lone}
use denote.RattleType.{RattleType}
use denote.RawPtr.{Ptr, block_ptr, null_ptr, lies_at, ◌+ₚ◌}

abbrev pub count_is : Ptr → ℕ → Fml
count_is c n = lies_at u64 full_share (c +ₚ 0) n

module _ (R Z : RattleType) where
  -- the three fields, and where the last two lie. What a reference in them is called says nothing of how they lie
  abbrev pub fields : Tys
  fields = tcons (ty_int w64) (tcons (raw (lone R.mir)) (tcons (raw (lone Z.mir)) tnil))

  abbrev pub value_at : ℕ
  value_at = up (align (raw (lone R.mir))) 8

  abbrev pub alloc_at : ℕ
  alloc_at = up (align (raw (lone Z.mir))) (value_at + size (raw (lone R.mir)))

  -- what a block is besides its fields
  abbrev pub seams : Ptr → Fml
  seams (block_ptr b o) = fleft full_share (ty_struct [] fields) fields b o
  seams null_ptr = ffalse

  module _ (holds : Z.Denot → Ty → Ptr → Fml) (c : Ptr) where
    -- the allocator h lies in the block that goes back to it
    abbrev pub goes_back : Z.Denot → Fml
    goes_back h = fsep (lies_at Z full_share (c +ₚ alloc_at) h) (fsep (holds h (ty_struct [] fields) c) (seams c))

    -- all of a block but its count
    abbrev pub contents : R.Denot → Fml
    contents x = fsep (lies_at R full_share (c +ₚ value_at) x) (fex Z.Denot goes_back)
