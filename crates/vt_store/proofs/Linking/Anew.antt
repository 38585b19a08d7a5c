-- A link that comes before what it displaces goes: the same links are left.
use Rattle.std.proofs.Common.{◌≡◌, List, [], ◌∷◌, fold, reverse, arith, refl, ap, ◌∙◌, ◌⊎◌, inl, inr, Bool, true, false, not}
use Rattle.std.specs.Prelude.{Contains, filter}
use Rattle.std.specs.List.{list_any}
use Rattle.std.specs.List.Sorted.{IsStrictlySortedBy}
use Rattle.std.proofs.lemmas.List.{reverse-append}
use Rattle.std.proofs.lemmas.List.Sums.{fold-append}
use Rattle.std.proofs.lemmas.List.Kept.{IsStrictlySortedBy-filter}
use Rattle.std.proofs.lemmas.Bool.{both_ways, not-true, not_from_false}
use Rattle.vt_model.specs.Metamodel.{Metamodel}
use Rattle.vt_model.specs.Model.{Model}
use Rattle.vt_model.specs.Linking.{is_dropped, is_link, link_order, relinked, with_link}
use Rattle.vt_model.specs.declared.model.Link.{Link}
use Rattle.vt_facts.proofs.MemberLemmas.{Contains-filter, Contains-from_filter}
use Rattle.vt_model.proofs.Valid.Dropped.{Comes}
use Rattle.vt_model.proofs.Valid.WithLink.{Contains-with_link_cases, Contains-with_link_old, Contains-with_link_new, IsStrictlySortedBy-with_link}
use Rattle.vt_store.specs.Edits.{same_link, without}
use Rattle.vt_graph.specs.Held.{Place}
use Rattle.vt_graph.specs.Room.{KeepsRoom}
use Rattle.vt_store.specs.Inside.Displaced.{NoneStands, without_back, without_link, with_one}
use Rattle.vt_store.proofs.Linking.Links.{listed-Contains, not_there}
use Rattle.vt_store.proofs.Linking.Steps.{without_back_is, but_for-insert_key}
use Rattle.vt_store.proofs.Linking.Coming.{comes_anew}
use Rattle.vt_facts.proofs.RisingLemmas.{same_items}
use Rattle.vt_graph.proofs.Linked.Stored.{link_order_total}

-- a link that came and went again leaves the model
pub without_link_with_one : (g : Model) (link : Link) → IsStrictlySortedBy link_order g.links → (Contains g.links link → ⊥) → without_link (with_one g link) link ≡ g
without_link_with_one g link rise none = ap (λ ls. record g { links = ls }) (but_for-insert_key g.links link rise none)

-- room that is kept twice is kept
pub KeepsRoom-then : (a b c : List Place) → KeepsRoom a b → KeepsRoom b c → KeepsRoom a c
KeepsRoom-then a b c first second = record {
  room = λ o side r. let one = first.room o side r in let two = second.room o side r in omega (arith, one, two);
  classes = λ o k kept. second.classes o k (first.classes o k kept);
}

-- links that go in opposite order go from the last
pub back_is_reverse : (g : Model) (gone : List Link) → fold without_link g (reverse gone) ≡ without_back g gone
back_is_reverse g [] = refl
back_is_reverse g (link ∷ links) =
    ap (fold without_link g) (reverse-append (link ∷ []) links)
    ∙ fold-append without_link g (reverse links) (link ∷ []) ∙ ap (λ h. without_link h link) (back_is_reverse g links)

module _ (meta : Metamodel) (g : Model) (rise : IsStrictlySortedBy link_order g.links) (new : Link) (fresh : NoneStands meta g new) where
  abbrev stays : Link → Bool
  stays old = not (is_dropped meta new old)

  abbrev gone : List Link
  gone = filter (is_dropped meta new) g.links

  -- all links with the new one and its opposite
  abbrev all : List Link
  all = with_link meta g.links new

  abbrev left : List Link
  left = without same_link gone all

  -- what is left stood and stays, or comes
  left_cases : (x : Link) → Contains left x → Contains (with_link meta (filter stays g.links) new) x
  left_cases x there =
      let at = Contains-from_filter (λ y. not (list_any (same_link y) gone)) all x there in
      by (Contains-with_link_cases meta g.links new x at.0) (is_dropped meta new x) refl (not-true (list_any (is_link x) gone) at.1)
    where
      by : Contains g.links x ⊎ Comes meta new x → (b : Bool) → is_dropped meta new x ≡ b → list_any (is_link x) gone ≡ false → Contains (with_link meta (filter stays g.links) new) x
      by (inr comes) b is none = Contains-with_link_new meta (filter stays g.links) new x comes
      by (inl old) true is none = absurd (both_ways (list_any (is_link x) gone) none (listed-Contains gone x (Contains-filter (is_dropped meta new) g.links x old is)))
      by (inl old) false is none = Contains-with_link_old meta (filter stays g.links) new x (Contains-filter stays g.links x old (not_from_false (is_dropped meta new x) is))

  -- and that is left
  cases_left : (x : Link) → Contains (with_link meta (filter stays g.links) new) x → Contains left x
  cases_left x there = by (Contains-with_link_cases meta (filter stays g.links) new x there)
    where
      kept : Contains all x → (Contains gone x → ⊥) → Contains left x
      kept stands none = Contains-filter (λ y. not (list_any (same_link y) gone)) all x stands (not_from_false (list_any (is_link x) gone) (not_there gone x none))

      by : Contains (filter stays g.links) x ⊎ Comes meta new x → Contains left x
      by (inl old) =
          let at = Contains-from_filter stays g.links x old in
          kept (Contains-with_link_old meta g.links new x at.0)
          (λ goes. both_ways (is_dropped meta new x) (not-true (is_dropped meta new x) at.1) (Contains-from_filter (is_dropped meta new) g.links x goes).1)
      by (inr comes) = kept (Contains-with_link_new meta g.links new x comes)
          (λ goes. comes_anew meta g new fresh x comes (Contains-from_filter (is_dropped meta new) g.links x goes).0)

  left_is : left ≡ with_link meta (filter stays g.links) new
  left_is = same_items link_order link_order_total left (with_link meta (filter stays g.links) new)
      (IsStrictlySortedBy-filter link_order (λ y. not (list_any (same_link y) gone)) all (IsStrictlySortedBy-with_link meta g.links new rise))
      (IsStrictlySortedBy-with_link meta (filter stays g.links) new (IsStrictlySortedBy-filter link_order stays g.links rise))
      left_cases cases_left

  -- the model afterwards
  pub relinked_anew : without_back (record g { links = with_link meta g.links new }) gone ≡ relinked meta g new
  relinked_anew = without_back_is (record g { links = with_link meta g.links new }) gone ∙ ap (λ ls. record g { links = ls }) left_is
