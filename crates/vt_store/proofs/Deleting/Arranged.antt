-- The orders of a model's lists, and lists that are put in order.
use Rattle.std.proofs.Common.{◌≡◌, ℕ, List, [], refl, sym, subst, arith, Bool, true}
use Rattle.std.specs.Prelude.{◌&&◌, ◌==◌}
use Rattle.std.specs.List.{dedup}
use Rattle.std.specs.List.Retain.{IsFiltered, DiffersFromLast}
use Rattle.std.specs.List.Sorted.{IsSorted, IsPermutation}
use Rattle.std.specs.Cmp.{IsTotalOrder, Equal-is}
use Rattle.std.specs.Ordering.{nat_cmp, eq_by_cmp}
use Rattle.std.specs.declared.cmp.Ordering.{Ordering}
use Rattle.std.specs.declared.cmp.Ordering.TheVariants.{Equal}
use Rattle.std.proofs.lemmas.Bool.Decides.{nat_tests}
use Rattle.std.proofs.lemmas.Cmp.{eq_by_cmp_equiv}
use Rattle.std.proofs.lemmas.List.Filters.{dedup_is}
use Rattle.std.proofs.lemmas.List.Kept.{IsStrictlySortedBy-dedup, Contains-dedup, Contains-from_dedup}
use Rattle.std.proofs.lemmas.List.Sorted.{Contains-permutation, IsPermutation-sym}
use Rattle.vt_base.specs.declared.numbers.ObjId.{ObjId}
use Rattle.vt_model.specs.Linking.{link_order}
use Rattle.vt_model.specs.declared.model.Link.{Link}
use Rattle.vt_slots.specs.Ends.{number_order}
use Rattle.vt_store.specs.Inside.Levels.{IsArranged}
use Rattle.vt_graph.proofs.Linked.Ends.{number_order_total, number_order-Equal}
use Rattle.vt_graph.proofs.Linked.Stored.{link_order_total, link_order-Equal}

-- ---- numbers of objects

-- the test of equal numbers is that of the order
number_ties : (m n : ℕ) → (m == n) ≡ eq_by_cmp nat_cmp m n
number_ties m n = grind (arith, nat_tests)

-- ---- links

-- the same test as the removal of repeats makes it
abbrev pub is_same_link : Link → Link → Bool
is_same_link a b = a.source.0 == b.source.0 && (a.reference.0 == b.reference.0 && a.target.0 == b.target.0)

-- it is that of the order
link_ties : (a b : Link) → is_same_link a b ≡ eq_by_cmp link_order a b
link_ties a b = grind (arith, nat_tests)

-- ---- a list put in order

-- what a sort and then the removal of repeats leave
pub IsArranged-sorted : {K : Type 0} (R : K → K → Ordering) (E : K → K → Bool) → IsTotalOrder R → ((x y : K) → R x y ≡ Equal → x ≡ y)
    → ((x y : K) → E x y ≡ eq_by_cmp R x y) → (given sorted out : List K) → IsPermutation given sorted → IsSorted R sorted → IsFiltered (DiffersFromLast E) [] sorted out
    → IsArranged R given out
IsArranged-sorted {K} R E order exact ties given sorted out moved rise left =
    subst (IsArranged R given) (sym (dedup_is E sorted out left)) (subst (λ e. IsArranged R given (dedup e sorted)) (sym (λ i x y. ties x y i)) (record {
      rises = IsStrictlySortedBy-dedup order (λ _ _. refl) sorted rise;
      kept = λ x there. Contains-dedup (eq_by_cmp_equiv order) same sorted x (Contains-permutation given sorted x moved there);
      stood = λ x there. Contains-permutation sorted given x (IsPermutation-sym given sorted moved) (Contains-from_dedup (eq_by_cmp R) sorted x there);
    }))
  where
    same : (x y : K) → eq_by_cmp R x y ≡ true → x ≡ y
    same x y e = exact x y ((Equal-is (R x y)).0 e)

-- numbers of objects
pub numbers_arranged : (given sorted out : List ObjId) → IsPermutation given sorted → IsSorted number_order sorted
    → IsFiltered (DiffersFromLast (λ (x y : ObjId). x.0 == y.0)) [] sorted out → IsArranged number_order given out
numbers_arranged = IsArranged-sorted number_order (λ x y. x.0 == y.0) number_order_total number_order-Equal (λ x y. number_ties x.0 y.0)

-- links
pub links_arranged : (given sorted out : List Link) → IsPermutation given sorted → IsSorted link_order sorted
    → IsFiltered (DiffersFromLast is_same_link) [] sorted out → IsArranged link_order given out
links_arranged = IsArranged-sorted link_order is_same_link link_order_total link_order-Equal link_ties
