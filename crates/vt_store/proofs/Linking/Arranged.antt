-- Links that were sorted, and of which each repeat was left out.
use Rattle.std.proofs.Common.{◌≡◌, ℕ, List, [], refl, sym, subst, arith, true, false}
use Rattle.std.specs.Prelude.{◌==◌, ◌&&◌, Contains}
use Rattle.std.specs.Cmp.{IsEquivalence}
use Rattle.std.specs.Ordering.{eq_by_cmp, nat_cmp, ordering_then, is_eq}
use Rattle.std.specs.List.Retain.{IsFiltered, DiffersFromLast}
use Rattle.std.specs.List.Sorted.{IsSorted, IsPermutation, IsStrictlySortedBy}
use Rattle.std.proofs.lemmas.Bool.Decides.{nat_tests}
use Rattle.std.proofs.lemmas.Cmp.{eq_by_cmp_equiv}
use Rattle.std.proofs.lemmas.List.Filters.{dedup_is}
use Rattle.std.proofs.lemmas.List.Kept.{IsStrictlySortedBy-dedup, Contains-dedup, Contains-from_dedup}
use Rattle.std.proofs.lemmas.List.Sorted.{Contains-permutation, IsPermutation-sym}
use Rattle.vt_model.specs.Linking.{link_order, is_link}
use Rattle.vt_model.specs.declared.model.Link.{Link}
use Rattle.vt_model.specs.contracts.model.LinkPartialEq.TheImpl.{eq-value}
use Rattle.vt_store.specs.Inside.Displaced.{IsArranged}
use Rattle.vt_facts.proofs.RisingLemmas.{same_items}
use Rattle.vt_graph.proofs.Linked.Changed.{is_link-same}
use Rattle.vt_graph.proofs.Linked.Stored.{link_order_total}

-- numbers in threes are the same where the order doesn't tell them apart
threes : (a b c x y z : ℕ) → (a == x && b == y && c == z) ≡ is_eq (ordering_then (nat_cmp a x) (ordering_then (nat_cmp b y) (nat_cmp c z)))
threes a b c x y z = grind (arith, nat_tests)

-- and so are links
pub is_link-tied : (a b : Link) → is_link a b ≡ eq_by_cmp link_order a b
is_link-tied a b = threes a.source.0 a.reference.0 a.target.0 b.source.0 b.reference.0 b.target.0

-- that two are the same link is an equivalence
pub is_link_equiv : IsEquivalence is_link
is_link_equiv = subst IsEquivalence (sym (λ i a b. is_link-tied a b i)) (eq_by_cmp_equiv link_order_total)

-- it is what `==` tests
derived_is : (a b : Link) → eq-value.it a b ≡ is_link a b
derived_is a b = elim (a.source.0 == b.source.0) as (λ s. (s && (a.reference.0 == b.reference.0 && a.target.0 == b.target.0)) ≡ (s && a.reference.0 == b.reference.0 && a.target.0 == b.target.0)) [
  | true ↦ refl
  | false ↦ refl
]

-- a sorted list without its repeats
pub arranged_sorted : (given sorted out : List Link) → IsPermutation given sorted → IsSorted link_order sorted → IsFiltered (DiffersFromLast eq-value.it) [] sorted out → IsArranged given out
arranged_sorted given sorted out p s f =
    let kept = subst (λ E. IsFiltered (DiffersFromLast E) [] sorted out) (λ i a b. derived_is a b i) f in
    subst (IsArranged given) (sym (dedup_is is_link sorted out kept)) (record {
      rise = IsStrictlySortedBy-dedup link_order_total is_link-tied sorted s;
      among = λ x there. Contains-permutation sorted given x (IsPermutation-sym given sorted p) (Contains-from_dedup is_link sorted x there);
      kept = λ x there. Contains-dedup is_link_equiv is_link-same sorted x (Contains-permutation given sorted x p there);
    })

-- where the same links stand in a list that rises, it is that list
pub arranged_is : (given out whole : List Link) → IsArranged given out → IsStrictlySortedBy link_order whole
    → ((x : Link) → Contains given x → Contains whole x) → ((x : Link) → Contains whole x → Contains given x) → out ≡ whole
arranged_is given out whole arranged rise among all = same_items link_order link_order_total out whole arranged.rise rise
    (λ x there. among x (arranged.among x there)) (λ x there. arranged.kept x (all x there))
