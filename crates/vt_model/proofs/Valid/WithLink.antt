-- What stands among the links after a new one came with its opposite.
use Rattle.std.proofs.Common.{◌≡◌, List, refl, ap, subst, ◌∙◌, ◌⊎◌, inl, inr, sym}
use Rattle.std.specs.Prelude.{Contains, Option, Some, None}
use Rattle.std.specs.List.Sorted.{IsStrictlySortedBy}
use Rattle.std.specs.BTreeSet.{insert_key}
use Rattle.std.specs.Cmp.{IsTotalOrder}
use Rattle.std.specs.declared.cmp.Ordering.TheVariants.{Equal}
use Rattle.std.proofs.lemmas.Cmp.{then_total, on_total, nat_cmp_total}
use Rattle.vt_model.specs.Metamodel.{Metamodel}
use Rattle.vt_model.specs.Linking.{link_order, link_back, with_back, with_link}
use Rattle.vt_model.specs.declared.model.Link.{Link}
use Rattle.vt_facts.proofs.OrderedLemmas.{IsStrictlySortedBy-insert_key}
use Rattle.vt_facts.proofs.MemberLemmas.{Contains-insert_key_cases, Contains-insert_key_old, Contains-insert_key_new}
use Rattle.vt_model.proofs.Valid.Dropped.{Comes}
use Rattle.vt_facts.proofs.NumberLemmas.{threes_Equal}

-- ---- the order of links

-- the order is total
link_order_total : IsTotalOrder link_order
link_order_total = then_total (on_total (λ l. l.source.0) nat_cmp_total) (then_total (on_total (λ l. l.reference.0) nat_cmp_total) (on_total (λ l. l.target.0) nat_cmp_total))

-- links that the order doesn't tell apart are the same
link_order-Equal : (a b : Link) → link_order a b ≡ Equal → a ≡ b
link_order-Equal a b e =
    let same = threes_Equal a.source.0 a.reference.0 a.target.0 b.source.0 b.reference.0 b.target.0 e in
    λ i. record { source = record { 0 = same.0 i }; reference = record { 0 = same.1 i }; target = record { 0 = same.2 i } }

-- ---- after a link came with its opposite

module _ (meta : Metamodel) (links : List Link) (new : Link) where
  -- with the link alone
  abbrev with_new : List Link
  with_new = insert_key link_order links new

  -- what stands there stood there before, or is the new link or its opposite
  pub Contains-with_link_cases : (x : Link) → Contains (with_link meta links new) x → Contains links x ⊎ Comes meta new x
  Contains-with_link_cases x there = by (link_back meta new) refl there
    where
      first : Contains with_new x → Contains links x ⊎ Comes meta new x
      first there = elim (Contains-insert_key_cases link_order new links x there) [ inl old ↦ inl old | inr is ↦ inr (inl is) ]

      by : (b : Option Link) → link_back meta new ≡ b → Contains (with_back with_new b) x → Contains links x ⊎ Comes meta new x
      by None at there = first there
      by (Some back) at there = elim (Contains-insert_key_cases link_order back with_new x there) [ inl old ↦ first old | inr is ↦ inr (inr (at ∙ ap Some is)) ]

  -- the opposite comes beside what stands there
  with_back-old : (b : Option Link) (x : Link) → Contains with_new x → Contains (with_back with_new b) x
  with_back-old None x there = there
  with_back-old (Some back) x there = Contains-insert_key_old link_order back with_new x there

  -- what stood there stands there still
  pub Contains-with_link_old : (x : Link) → Contains links x → Contains (with_link meta links new) x
  Contains-with_link_old x there = with_back-old (link_back meta new) x (Contains-insert_key_old link_order new links x there)

  -- the new link and its opposite stand there
  pub Contains-with_link_new : (x : Link) → Comes meta new x → Contains (with_link meta links new) x
  Contains-with_link_new x (inl is) = subst (Contains (with_link meta links new)) is (with_back-old (link_back meta new) new (Contains-insert_key_new link_order new (link_order-Equal new) links))
  Contains-with_link_new x (inr at) = subst (λ b. Contains (with_back with_new b) x) (sym at) (Contains-insert_key_new link_order x (link_order-Equal x) with_new)

  -- the links rise still
  pub IsStrictlySortedBy-with_link : IsStrictlySortedBy link_order links → IsStrictlySortedBy link_order (with_link meta links new)
  IsStrictlySortedBy-with_link rise = by (link_back meta new)
    where
      first : IsStrictlySortedBy link_order with_new
      first = IsStrictlySortedBy-insert_key link_order link_order_total links new rise

      by : (b : Option Link) → IsStrictlySortedBy link_order (with_back with_new b)
      by None = first
      by (Some back) = IsStrictlySortedBy-insert_key link_order link_order_total with_new back first
