-- Numbers that tell where rows are looked for. No claim rests on them: rows are compared.
use Rattle.std.specs.Prelude.{ℕ, ◌*◌, ◌/◌, ◌%◌, cond, bit_xor, List, Option, Some, None, fold, slice_get}
use Rattle.std.specs.Int.{cast_unsigned, w64}
use Rattle.vt_base.specs.declared.value.Value.{Value}
use Rattle.vt_base.specs.declared.value.Value.TheVariants.{Bool, Int, Text, Enum, Obj}

-- the halves of a product, laid over each other
unfoldable pub mix : ℕ → ℕ → ℕ
mix number word = bit_xor ((bit_xor number word * 11400714819323198485) % 18446744073709551616) ((bit_xor number word * 11400714819323198485) / 18446744073709551616)

-- a number with a value mixed in
abbrev pub with_value : ℕ → Value → ℕ
with_value number (Bool b) = mix number (cond b 1 0)
with_value number (Int n) = mix number (cast_unsigned w64 n)
with_value number (Text bytes) = fold mix number bytes
with_value number (Enum e l) = mix (mix number e) l
with_value number (Obj o) = mix number o.0

-- the same of a cell that may not be there
abbrev pub with_cell : ℕ → Option Value → ℕ
with_cell number None = number
with_cell number (Some value) = with_value number value

-- the number of some values
abbrev pub number_of : List Value → ℕ
number_of values = fold with_value 11400714819323198485 values

-- the number of the values in some columns of a row
abbrev pub number_in : List ℕ → List Value → ℕ
number_in columns row = fold (λ number column. with_cell number (slice_get row column)) 11400714819323198485 columns
