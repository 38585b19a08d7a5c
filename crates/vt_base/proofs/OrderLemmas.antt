-- Values and tuples that are equal in order are equal.
use Rattle.std.proofs.Common.{◌≡◌, ℕ, Bool as Flag, true, false, refl, ap}
use Rattle.std.specs.declared.cmp.Ordering.{Ordering}
use Rattle.std.specs.declared.cmp.Ordering.TheVariants.{Equal}
use Rattle.std.specs.Ordering.{bool_cmp, nat_cmp, eq_by_cmp, is_eq}
use Rattle.std.specs.Bool.{Decides}
use Rattle.std.specs.Cmp.{IsTotalOrder, Equal-is}
use Rattle.std.specs.FinMap.{slice_cmp-IsAntisymmetric}
use Rattle.std.proofs.lemmas.Cmp.{tied_itself}
use Rattle.std.proofs.lemmas.Map.Lookups.{CmpEqualImpliesEq, exact_unsigned, exact_signed, exact_bytes, exact_pairs}
use Rattle.vt_base.specs.Order.{value_cmp, tuple_cmp}
use Rattle.vt_base.specs.declared.value.Value.TheVariants.{Bool, Int, Text, Enum, Obj}

-- ---- value_cmp

exact-bool_cmp : (a b : Flag) → bool_cmp a b ≡ Equal → a ≡ b
exact-bool_cmp true true e = refl
exact-bool_cmp false false e = refl
exact-bool_cmp true false e = cc
exact-bool_cmp false true e = cc

-- two values of different kinds are never equal in order
pub exact-value_cmp : CmpEqualImpliesEq value_cmp
exact-value_cmp (Bool a) (Bool b) e = ap Bool (exact-bool_cmp a b e)
exact-value_cmp (Int m) (Int n) e = ap Int (exact_signed m n e)
exact-value_cmp (Text s) (Text t) e = ap Text (exact_bytes s t e)
exact-value_cmp (Enum d k) (Enum f l) e = ap (λ (p : ℕ × ℕ). Enum p.0 p.1) (exact_pairs nat_cmp nat_cmp exact_unsigned exact_unsigned (d, k) (f, l) e)
exact-value_cmp (Obj o) (Obj p) e = ap (λ (n : ℕ). Obj (record { 0 = n })) (exact_unsigned o.0 p.0 e)
exact-value_cmp v w e = cc

-- ---- tuple_cmp

pub exact-tuple_cmp : CmpEqualImpliesEq tuple_cmp
exact-tuple_cmp = slice_cmp-IsAntisymmetric exact-value_cmp

-- ---- any order in which equal items are equal

-- the test of such an order tells whether two items are equal
pub eq_by_cmp-Decides : {K : Type 0} {R : K → K → Ordering} → IsTotalOrder R → CmpEqualImpliesEq R → (x y : K) → Decides (eq_by_cmp R x y) (x ≡ y)
eq_by_cmp-Decides {R = R} order exact x y = ((λ e. exact x y ((Equal-is (R x y)).0 e)), (λ same. rw same (ap is_eq (tied_itself order y))))
