-- The items of a list in an order.
use Rattle.std.specs.Prelude.{List, [], ◌∷◌}
use Rattle.std.specs.declared.cmp.Ordering.{Ordering}
use Rattle.vt_sorted.specs.Ascending.{with_item}

-- each item put in at its place
abbrev pub in_order : {K : Type 0} → (K → K → Ordering) → List K → List K
in_order R [] = []
in_order R (x ∷ xs) = with_item R (in_order R xs) x
