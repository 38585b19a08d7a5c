-- Numbers in order.
use Rattle.std.proofs.Common.{◌≡◌, ℕ, ◌==◌, true, arith}
use Rattle.std.specs.Ordering.{nat_cmp, ordering_then}
use Rattle.std.specs.declared.cmp.Ordering.TheVariants.{Equal}
use Rattle.std.proofs.lemmas.Bool.Decides.{nat_tests}

-- numbers that pass the test are one
pub equal_numbers : (a b : ℕ) → (a == b) ≡ true → a ≡ b
equal_numbers a b e = grind (arith, nat_tests)

-- three numbers that are tied one by one are the same
pub threes_Equal : (a b c x y z : ℕ) → ordering_then (nat_cmp a x) (ordering_then (nat_cmp b y) (nat_cmp c z)) ≡ Equal → (a ≡ x) × (b ≡ y) × (c ≡ z)
threes_Equal a b c x y z e = grind (arith, nat_tests)
