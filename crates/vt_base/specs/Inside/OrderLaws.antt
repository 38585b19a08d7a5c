-- Laws of the order of values, which the comparisons of tuples cite.
use Rattle.std.specs.Prelude.{◌≡◌, refl}
use Rattle.std.proofs.Common.{subst}
use Rattle.std.specs.Cmp.{IsTotalOrder}
use Rattle.std.proofs.lemmas.Cmp.{lists_total}
use Rattle.vt_base.specs.Order.{value_cmp, tuple_cmp}
use Rattle.vt_base.specs.declared.value.Value.{Value}
use Rattle.vt_base.specs.declared.value.Value.TheVariants.{Bool, Int, Text, Enum, Obj}
use Rattle.vt_base.specs.contracts.value.ValueOrd.TheImpl.{cmp-value}
use Rattle.vt_base.specs.contracts.value.ValueOrd.TheImpl.Laws.{total-law}

-- the derived comparison is the order of values
pub derived-value_cmp : (v w : Value) → cmp-value.it v w ≡ value_cmp v w
derived-value_cmp (Bool a) (Bool b) = refl
derived-value_cmp (Int m) (Int n) = refl
derived-value_cmp (Text s) (Text t) = refl
derived-value_cmp (Enum d k) (Enum e l) = refl
derived-value_cmp (Obj o) (Obj p) = refl
derived-value_cmp v w = refl

-- values are totally ordered
pub IsTotalOrder-value_cmp : IsTotalOrder value_cmp
IsTotalOrder-value_cmp = subst IsTotalOrder (λ i v w. derived-value_cmp v w i) total-law

-- so are tuples
pub IsTotalOrder-tuple_cmp : IsTotalOrder tuple_cmp
IsTotalOrder-tuple_cmp = lists_total IsTotalOrder-value_cmp
