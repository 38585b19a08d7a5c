-- What changes of links alone put in and take out.
use Rattle.std.proofs.Common.{◌≡◌, List, [], refl, sym, ap, ap₂, subst, ◌∙◌, Bool, true, false, not, ◌⊎◌, inl, inr}
use Rattle.std.specs.Prelude.{◌==◌, ◌&&◌, Contains, filter}
use Rattle.std.specs.Cmp.Lexicographic.{nat_list_eq_equiv}
use Rattle.std.specs.List.{list_any}
use Rattle.std.specs.List.Sorted.{IsStrictlySortedBy}
use Rattle.std.specs.Ordering.{is_eq}
use Rattle.std.proofs.lemmas.Bool.{and_from, eq-eqb, both_ways, not-true, not_from_false}
use Rattle.std.proofs.lemmas.Cmp.{tied_itself}
use Rattle.std.proofs.lemmas.List.Kept.{IsStrictlySortedBy-filter}
use Rattle.vt_base.specs.Inside.OrderLaws.{IsTotalOrder-value_cmp}
use Rattle.vt_model.specs.Metamodel.{Metamodel}
use Rattle.vt_facts.specs.Names.{is_name}
use Rattle.vt_model.specs.Model.{Model}
use Rattle.vt_model.specs.Linking.{link_order, is_link, stands, oriented, is_dropped, with_link, relinked, linked}
use Rattle.vt_model.specs.Sound.{IsSound}
use Rattle.vt_model.specs.Valid.{IsValid}
use Rattle.vt_model.specs.declared.model.Object.{Object}
use Rattle.vt_model.specs.declared.model.GoneObject.{GoneObject}
use Rattle.vt_model.specs.declared.model.AttributeValue.{AttributeValue}
use Rattle.vt_model.specs.declared.model.Link.{Link}
use Rattle.vt_facts.proofs.MemberLemmas.{Contains-nil, Contains-filter, Contains-from_filter}
use Rattle.vt_facts.proofs.ChosenLemmas.{filter-agree, filter-none}
use Rattle.vt_model.proofs.Valid.Dropped.{Comes}
use Rattle.vt_model.proofs.Valid.WithLink.{Contains-with_link_cases, Contains-with_link_old, Contains-with_link_new, IsStrictlySortedBy-with_link}
use Rattle.vt_store.specs.Edits.{same_object, same_gone, same_value, same_link, without, net, edit_of}
use Rattle.vt_store.specs.Inside.Displaced.{NoneStands, no_change, links_edit}
use Rattle.vt_store.proofs.Linking.Lists.{without-itself}
use Rattle.vt_store.proofs.Linking.Links.{listed-Contains, not_listed, not_there}
use Rattle.vt_store.proofs.Linking.Steps.{gone_filter}
use Rattle.vt_store.proofs.Linking.Coming.{comes_anew, none_stands_oriented, linked_stands, linked_new}
use Rattle.vt_facts.proofs.RisingLemmas.{same_items, rises-none}
use Rattle.vt_graph.proofs.Linked.Changed.{is_link-itself}
use Rattle.vt_graph.proofs.Linked.Stored.{link_order_total}

-- ---- the same as itself

same_object-itself : (o : Object) → same_object o o ≡ true
same_object-itself o = and_from (o.number.0 == o.number.0 && is_name o.name o.name) (o.class.0 == o.class.0)
    (and_from (o.number.0 == o.number.0) (is_name o.name o.name) (eq-eqb o.number.0 o.number.0 refl) (nat_list_eq_equiv.refl o.name)) (eq-eqb o.class.0 o.class.0 refl)

same_gone-itself : (o : GoneObject) → same_gone o o ≡ true
same_gone-itself o = and_from (o.number.0 == o.number.0) (is_name o.name o.name) (eq-eqb o.number.0 o.number.0 refl) (nat_list_eq_equiv.refl o.name)

same_value-itself : (t : AttributeValue) → same_value t t ≡ true
same_value-itself t = and_from (t.object.0 == t.object.0 && t.attribute.0 == t.attribute.0) _
    (and_from (t.object.0 == t.object.0) (t.attribute.0 == t.attribute.0) (eq-eqb t.object.0 t.object.0 refl) (eq-eqb t.attribute.0 t.attribute.0 refl))
    (ap is_eq (tied_itself IsTotalOrder-value_cmp t.value))

-- a list that stays didn't change
net-itself : {T : Type 0} (same : T → T → Bool) → ((x : T) → same x x ≡ true) → (xs : List T) → net same xs xs ≡ no_change
net-itself same itself xs = ap (λ none. record { added = none; removed = none }) (without-itself same itself xs)

-- ---- links alone

-- where the links alone change
edit_of-links : (g : Model) (links : List Link) (added removed : List Link) → without same_link g.links links ≡ added → without same_link links g.links ≡ removed
    → edit_of g (record g { links = links }) ≡ links_edit g.next added removed
edit_of-links g links added removed come go = λ i. record {
  next = g.next;
  live = net-itself same_object same_object-itself g.live i;
  gone = net-itself same_gone same_gone-itself g.gone i;
  values = net-itself same_value same_value-itself g.values i;
  links = record { added = come i; removed = go i };
}

-- where nothing changes
pub edit_of_itself : (g : Model) → edit_of g g ≡ links_edit g.next [] []
edit_of_itself g = let none = without-itself same_link is_link-itself g.links in edit_of-links g g.links [] [] none none

-- the same of lists that are empty
pub edit_of_unchanged : (g : Model) (added removed : List Link) → added ≡ [] → removed ≡ [] → edit_of g g ≡ links_edit g.next added removed
edit_of_unchanged g added removed none gone = edit_of_itself g ∙ ap₂ (links_edit g.next) (sym none) (sym gone)

-- where those that pass a test go
pub edit_of_fewer : (g : Model) (p : Link → Bool) → edit_of g (record g { links = filter (λ l. not (p l)) g.links }) ≡ links_edit g.next [] (filter p g.links)
edit_of_fewer g p = edit_of-links g left [] (filter p g.links)
    (filter-none (λ l. not (list_any (is_link l) g.links)) left (λ l there. ap not (listed-Contains g.links l (Contains-from_filter (λ l. not (p l)) g.links l there).0)))
    (gone_filter (λ l. not (p l)) g.links ∙ filter-agree (λ l. not (not (p l))) p g.links (λ l there. twice (p l)))
  where
    left : List Link
    left = filter (λ l. not (p l)) g.links

    twice : (b : Bool) → not (not b) ≡ b
    twice true = refl
    twice false = refl

module _ (meta : Metamodel) (g : Model) (rise : IsStrictlySortedBy link_order g.links) (new : Link) (none : NoneStands meta g new) where
  -- what isn't dropped
  abbrev stays : Link → Bool
  stays old = not (is_dropped meta new old)

  -- the links afterwards
  abbrev after : List Link
  after = with_link meta (filter stays g.links) new

  -- what stands afterwards stood before and isn't dropped, or comes
  after_cases : (x : Link) → Contains after x → (Contains g.links x × (is_dropped meta new x ≡ false)) ⊎ Comes meta new x
  after_cases x there = elim (Contains-with_link_cases meta (filter stays g.links) new x there) [
    | inl old ↦ (let was = Contains-from_filter stays g.links x old in inl (was.0, not-true (is_dropped meta new x) was.1))
    | inr comes ↦ inr comes
  ]

  -- what came
  come : without same_link g.links after ≡ with_link meta [] new
  come = same_items link_order link_order_total (without same_link g.links after) (with_link meta [] new)
      (IsStrictlySortedBy-filter link_order is_new after (IsStrictlySortedBy-with_link meta (filter stays g.links) new (IsStrictlySortedBy-filter link_order stays g.links rise)))
      (IsStrictlySortedBy-with_link meta [] new (rises-none link_order)) there back
    where
      is_new : Link → Bool
      is_new x = not (list_any (is_link x) g.links)

      there : (x : Link) → Contains (filter is_new after) x → Contains (with_link meta [] new) x
      there x at =
          let was = Contains-from_filter is_new after x at in
          elim (after_cases x was.0) [
            | inl old ↦ absurd (not_listed g.links x (not-true (list_any (is_link x) g.links) was.1) old.0)
            | inr comes ↦ Contains-with_link_new meta [] new x comes
          ]

      back : (x : Link) → Contains (with_link meta [] new) x → Contains (filter is_new after) x
      back x at = elim (Contains-with_link_cases meta [] new x at) [
        | inl old ↦ absurd (Contains-nil x old)
        | inr comes ↦ Contains-filter is_new after x (Contains-with_link_new meta (filter stays g.links) new x comes)
            (not_from_false (list_any (is_link x) g.links) (not_there g.links x (comes_anew meta g new none x comes)))
      ]

  -- what went
  go : without same_link after g.links ≡ filter (is_dropped meta new) g.links
  go = filter-agree (λ x. not (list_any (is_link x) after)) (is_dropped meta new) g.links (λ x there. by x there (is_dropped meta new x) refl)
    where
      by : (x : Link) → Contains g.links x → (b : Bool) → is_dropped meta new x ≡ b → not (list_any (is_link x) after) ≡ is_dropped meta new x
      by x there true dropped = ap not (not_there after x gone) ∙ sym dropped
        where
          gone : Contains after x → ⊥
          gone stands = elim (after_cases x stands) [ inl kept ↦ both_ways (is_dropped meta new x) kept.1 dropped | inr comes ↦ comes_anew meta g new none x comes there ]
      by x there false kept =
          ap not (listed-Contains after x (Contains-with_link_old meta (filter stays g.links) new x (Contains-filter stays g.links x there (not_from_false (is_dropped meta new x) kept))))
          ∙ sym kept

  -- the link and its opposite come, and what they displace goes
  pub edit_of_relinked : edit_of g (relinked meta g new) ≡ links_edit g.next (with_link meta [] new) (filter (is_dropped meta new) g.links)
  edit_of_relinked = edit_of-links g after (with_link meta [] new) (filter (is_dropped meta new) g.links) come go

-- ---- Link

module _ (meta : Metamodel) (g : Model) (link : Link) where
  -- nothing where it stands
  pub edit_of_linked_stands : stands g link ≡ true → edit_of g (linked meta g link) ≡ links_edit g.next [] []
  edit_of_linked_stands there = ap (edit_of g) (linked_stands meta g link there) ∙ edit_of_itself g

  -- else what is made, its opposite, and what they displace
  pub edit_of_linked_new : IsSound meta → IsValid meta g → stands g link ≡ false
      → edit_of g (linked meta g link) ≡ links_edit g.next (with_link meta [] (oriented meta link)) (filter (is_dropped meta (oriented meta link)) g.links)
  edit_of_linked_new sound valid new =
      ap (edit_of g) (linked_new meta g link new)
      ∙ edit_of_relinked meta g valid.links_rise (oriented meta link) (none_stands_oriented meta sound g valid link new)

  -- the same of what calls say one after the other
  pub edit_of_made : IsSound meta → IsValid meta g → (after : Model) (made : Link) (added removed : List Link) → made ≡ oriented meta link → stands g link ≡ false
      → after ≡ relinked meta g made → added ≡ with_link meta [] made → removed ≡ filter (is_dropped meta made) g.links → edit_of g after ≡ links_edit g.next added removed
  edit_of_made sound valid then made added removed as_made new is comes goes =
      let none : NoneStands meta g made = subst (NoneStands meta g) (sym as_made) (none_stands_oriented meta sound g valid link new) in
      ap (edit_of g) is ∙ edit_of_relinked meta g valid.links_rise made none ∙ ap₂ (links_edit g.next) (sym comes) (sym goes)
