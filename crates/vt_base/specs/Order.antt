-- The order of values, and of tuples.
use Rattle.std.specs.Prelude.{ℕ, List}
use Rattle.std.specs.declared.cmp.Ordering.{Ordering}
use Rattle.std.specs.Ordering.{bool_cmp, int_cmp, nat_cmp, ordering_then}
use Rattle.std.specs.Cmp.Lexicographic.{slice_cmp}
use Rattle.vt_base.specs.declared.value.Value.{Value}
use Rattle.vt_base.specs.declared.value.Value.TheVariants.{Bool, Int, Text, Enum, Obj}

-- the place of a value's kind in the sequence of kinds
abbrev pub kind_place : Value → ℕ
kind_place (Bool b) = 0
kind_place (Int n) = 1
kind_place (Text s) = 2
kind_place (Enum e l) = 3
kind_place (Obj o) = 4

-- within a kind false before true, by size, by bytes, by pair, by number; else by kind
abbrev pub value_cmp : Value → Value → Ordering
value_cmp (Bool a) (Bool b) = bool_cmp a b
value_cmp (Int m) (Int n) = int_cmp m n
value_cmp (Text s) (Text t) = slice_cmp nat_cmp s t
value_cmp (Enum d k) (Enum e l) = ordering_then (nat_cmp d e) (nat_cmp k l)
value_cmp (Obj o) (Obj p) = nat_cmp o.0 p.0
value_cmp v w = nat_cmp (kind_place v) (kind_place w)

-- the first place at which two tuples differ decides, and else the shorter is first
abbrev pub tuple_cmp : List Value → List Value → Ordering
tuple_cmp = slice_cmp value_cmp
