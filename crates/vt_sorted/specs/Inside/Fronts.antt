-- The items below one, and those up to one, are fronts.
use Rattle.std.specs.Prelude.{◌≡◌, Bool, true, not, refl}
use Rattle.std.specs.declared.cmp.Ordering.{Ordering}
use Rattle.std.specs.declared.cmp.Ordering.TheVariants.{Less, Equal, Greater}
use Rattle.std.specs.Ordering.{is_lt}
use Rattle.std.specs.Cmp.{IsTotalOrder}
use mathlib.Core.Path.{sym, ap, ◌∙◌}

module _ {K : Type 0} (R : K → K → Ordering) (o : IsTotalOrder R) (q : K) where
  lt-Less : (r : Ordering) → is_lt r ≡ true → r ≡ Less
  lt-Less Less e = refl
  lt-Less Equal e = cc
  lt-Less Greater e = cc

  pub below-closed : (x y : K) → R x y ≡ Less → is_lt (R y q) ≡ true → is_lt (R x q) ≡ true
  below-closed x y l e = ap is_lt (o.trans x y q l (lt-Less (R y q) e))

  -- the items that aren't above q
  abbrev pub up_to : K → Bool
  up_to x = not (is_lt (R q x))

  pub up_to-closed : (x y : K) → R x y ≡ Less → up_to y ≡ true → up_to x ≡ true
  up_to-closed x y l e =
      elim (R q x) as (λ r. R q x ≡ r → not (is_lt r) ≡ true) [
        | Less ↦ λ b. sym (ap (λ r. not (is_lt r)) (o.trans q x y b l)) ∙ e
        | Equal ↦ λ _. refl
        | Greater ↦ λ _. refl
      ] refl
