-- Links that come back one by one: at each step there is room for the next, and at the end the model is whole.
use Rattle.std.proofs.Common.{◌≡◌, ℕ, ◌+◌, List, [], ◌∷◌, map, length, drop, get_or, refl, sym, ap, subst, ◌∙◌, Bool, true, false, not, ◌⊎◌, inl, inr, arith}
use Rattle.std.specs.Prelude.{◌<◌, ◌≤◌, ◌==◌, ◌&&◌, Contains, filter, fold}
use Rattle.std.specs.BTreeSet.{insert_key}
use Rattle.std.specs.List.{list_any}
use Rattle.std.specs.List.Sorted.{IsStrictlySortedBy}
use Rattle.std.specs.declared.cmp.Ordering.TheVariants.{Less}
use Rattle.std.proofs.lemmas.Bool.{both_ways, not-true, and_from, eq-eqb}
use Rattle.std.proofs.lemmas.List.{length-map, drop_more, drop_all}
use Rattle.std.proofs.lemmas.List.Kept.{IsStrictlySortedBy-filter}
use Rattle.std.proofs.lemmas.Map.Keys.{sorted_tail}
use Rattle.vt_base.specs.declared.numbers.ObjId.{ObjId}
use Rattle.vt_base.specs.declared.numbers.RefId.{RefId}
use Rattle.vt_model.specs.Model.{Model}
use Rattle.vt_model.specs.Linking.{link_order, is_link}
use Rattle.vt_model.specs.declared.model.Link.{Link}
use Rattle.vt_facts.proofs.MemberLemmas.{Contains-head, Contains-behind, Contains-filter, Contains-from_filter, Contains-insert_key_cases, Contains-insert_key_new, length-filter_without}
use Rattle.vt_facts.proofs.ChosenLemmas.{filter-filter, filter-agree}
use Rattle.vt_facts.proofs.OrderedLemmas.{IsStrictlySortedBy-insert_key}
use Rattle.vt_store.specs.Inside.Displaced.{targets_of, sources_of, without_link, without_back, with_one, with_each, IsReturning}
use Rattle.vt_store.proofs.RisingLemmas.{inserted_rise, Contains-inserted_old}
use Rattle.vt_store.proofs.Linking.Links.{listed-Contains, Contains-listed, not_there}
use Rattle.vt_store.proofs.Linking.Ends.{goes_out, comes_in}
use Rattle.vt_store.proofs.Linking.Steps.{left, left_back, with_each_is, come_back_to, but_for-insert_key}
use Rattle.vt_facts.proofs.RisingLemmas.{first_below, not_below_itself, same_items}
use Rattle.vt_graph.proofs.Linked.Stored.{link_order_total, link_order-Equal}

-- ---- fewer links have fewer ends

module _ (whole now : List Link) (rise : IsStrictlySortedBy link_order whole) (now_rises : IsStrictlySortedBy link_order now)
    (among : (x : Link) → Contains now x → Contains whole x) (link : Link) (there : Contains whole link) (fresh : Contains now link → ⊥) where
  -- a link of the whole that stands now
  abbrev is_now : Link → Bool
  is_now x = list_any (is_link x) now

  -- those that stand now are a part of the whole
  now_is : now ≡ filter is_now whole
  now_is = same_items link_order link_order_total now (filter is_now whole) now_rises (IsStrictlySortedBy-filter link_order is_now whole rise)
      (λ x stands. Contains-filter is_now whole x (among x stands) (listed-Contains now x stands))
      (λ x stands. Contains-listed now x (Contains-from_filter is_now whole x stands).1)

  -- so of those that pass a test there are fewer, where the link passes it
  fewer : (p : Link → Bool) → p link ≡ true → length (filter p now) < length (filter p whole)
  fewer p passes =
      let turned : filter p now ≡ filter is_now (filter p whole) =
      ap (filter p) now_is ∙ filter-filter p is_now whole ∙ filter-agree (λ x. is_now x && p x) (λ x. p x && is_now x) whole (λ x _. swap (is_now x) (p x)) ∙ sym (filter-filter is_now p whole) in
      subst (λ ls. length ls < length (filter p whole)) (sym turned) (length-filter_without is_now (filter p whole) link (Contains-filter p whole link there passes) (not_there now link fresh))
    where
      swap : (a b : Bool) → (a && b) ≡ (b && a)
      swap true true = refl
      swap true false = refl
      swap false true = refl
      swap false false = refl

-- ---- links that come back

module _ (whole now : Model) (link : Link) (links : List Link) (is : IsReturning whole now (link ∷ links)) where
  whole_links : whole.links ≡ fold (insert_key link_order) now.links (link ∷ links)
  whole_links = ap (λ m. m.links) (sym is.comes ∙ with_each_is now (link ∷ links))

  whole_rises : IsStrictlySortedBy link_order whole.links
  whole_rises = subst (IsStrictlySortedBy link_order) (sym whole_links) (inserted_rise link_order link_order_total now.links (link ∷ links) is.now_rises)

  -- what stands now stands in the whole
  returning_among : (x : Link) → Contains now.links x → Contains whole.links x
  returning_among x there = subst (λ ls. Contains ls x) (sym whole_links) (Contains-inserted_old link_order now.links (link ∷ links) x there)

  -- and so does the next link
  returning_there : Contains whole.links link
  returning_there = subst (λ ls. Contains ls link) (sym whole_links)
      (Contains-inserted_old link_order (insert_key link_order now.links link) links link (Contains-insert_key_new link_order link (link_order-Equal link) now.links))

  -- so at both its ends there are fewer now
  pub returning_target : length (targets_of now link.source link.reference) < length (targets_of whole link.source link.reference)
  returning_target =
      let out = goes_out link.source link.reference in
      subst (λ n. n < length (map (λ l. l.target) (filter out whole.links))) (sym (length-map (filter out now.links) (λ l. l.target)))
      (subst (λ n. length (filter out now.links) < n) (sym (length-map (filter out whole.links) (λ l. l.target)))
      (fewer whole.links now.links whole_rises is.now_rises returning_among link returning_there (is.fresh link (Contains-head link links)) out
      (and_from (link.source.0 == link.source.0) (link.reference.0 == link.reference.0) (eq-eqb link.source.0 link.source.0 refl) (eq-eqb link.reference.0 link.reference.0 refl))))

  pub returning_source : length (sources_of now link.target link.reference) < length (sources_of whole link.target link.reference)
  returning_source =
      let into = comes_in link.target link.reference in
      subst (λ n. n < length (map (λ l. l.source) (filter into whole.links))) (sym (length-map (filter into now.links) (λ l. l.source)))
      (subst (λ n. length (filter into now.links) < n) (sym (length-map (filter into whole.links) (λ l. l.source)))
      (fewer whole.links now.links whole_rises is.now_rises returning_among link returning_there (is.fresh link (Contains-head link links)) into
      (and_from (link.target.0 == link.target.0) (link.reference.0 == link.reference.0) (eq-eqb link.target.0 link.target.0 refl) (eq-eqb link.reference.0 link.reference.0 refl))))

  -- once it came, the others are to come
  pub returning_step : IsReturning whole (with_one now link) links
  returning_step = record {
    now_rises = IsStrictlySortedBy-insert_key link_order link_order_total now.links link is.now_rises;
    links_rise = sorted_tail link_order link links is.links_rise;
    fresh = λ x later there. by x later (Contains-insert_key_cases link_order link now.links x there);
    comes = is.comes;
    live = is.live;
  }
    where
      by : (x : Link) → Contains links x → Contains now.links x ⊎ (link ≡ x) → ⊥
      by x later (inl old) = is.fresh x (Contains-behind link x links later) old
      by x later (inr same) = not_below_itself link_order link_order_total x (subst (λ l. link_order l x ≡ Less) same (first_below link_order link links is.links_rise x later))

-- where none is to come any more, the model is whole
pub returning_end : (whole now : Model) → IsReturning whole now [] → now ≡ whole
returning_end whole now is = is.comes

-- the whole is what they make of the model
pub returning_itself : (whole now : Model) (links : List Link) → IsReturning whole now links → IsReturning (with_each now links) now links
returning_itself whole now links is = subst (λ m. IsReturning m now links) (sym is.comes) is

-- ---- in a loop over them

module _ (whole now : Model) (links : List Link) (i : ℕ) (d : Link) (inside : i < length links) (is : IsReturning whole now (drop i links)) where
  -- the next link
  abbrev next : Link
  next = get_or links i d

  is_next : IsReturning whole now (next ∷ drop (i + 1) links)
  is_next = subst (IsReturning whole now) (drop_more links i d inside) is

  pub returning_fresh_at : Contains now.links (get_or links i d) → ⊥
  returning_fresh_at = is_next.fresh next (Contains-head next (drop (i + 1) links))

  pub returning_target_at : length (targets_of now (get_or links i d).source (get_or links i d).reference) < length (targets_of whole (get_or links i d).source (get_or links i d).reference)
  returning_target_at = returning_target whole now next (drop (i + 1) links) is_next

  pub returning_source_at : length (sources_of now (get_or links i d).target (get_or links i d).reference) < length (sources_of whole (get_or links i d).target (get_or links i d).reference)
  returning_source_at = returning_source whole now next (drop (i + 1) links) is_next

  -- so where the whole fits its room, there is room for the next
  pub room_target_at : (room : ObjId → RefId → ℕ) → ((o : ObjId) (r : RefId) → length (targets_of whole o r) ≤ room o r)
      → length (targets_of now (get_or links i d).source (get_or links i d).reference) < room (get_or links i d).source (get_or links i d).reference
  room_target_at room fits = omega (arith, returning_target_at, fits next.source next.reference)

  pub room_source_at : (room : ObjId → RefId → ℕ) → ((o : ObjId) (r : RefId) → length (sources_of whole o r) ≤ room o r)
      → length (sources_of now (get_or links i d).target (get_or links i d).reference) < room (get_or links i d).target (get_or links i d).reference
  room_source_at room fits = omega (arith, returning_source_at, fits next.target next.reference)

  pub returning_step_at : (then : Model) → then ≡ with_one now (get_or links i d) → IsReturning whole then (drop (i + 1) links)
  returning_step_at then is_with = subst (λ m. IsReturning whole m (drop (i + 1) links)) (sym is_with) (returning_step whole now next (drop (i + 1) links) is_next)

pub returning_end_at : (whole now : Model) (links : List Link) (i : ℕ) → length links ≤ i → IsReturning whole now (drop i links) → now ≡ whole
returning_end_at whole now links i all is = sym (ap (with_each now) (drop_all i links all)) ∙ is.comes

-- ---- where it begins

module _ (g : Model) (p : Link → Bool) (rise : IsStrictlySortedBy link_order g.links) where
  -- those that went because they pass a test are to come back
  pub returning_start : IsReturning g (left g p) (filter p g.links)
  returning_start = record {
    now_rises = IsStrictlySortedBy-filter link_order (λ l. not (p l)) g.links rise;
    links_rise = IsStrictlySortedBy-filter link_order p g.links rise;
    fresh = λ x gone stays. both_ways (p x) (not-true (p x) (Contains-from_filter (λ l. not (p l)) g.links x stays).1) (Contains-from_filter p g.links x gone).1;
    comes = come_back_to g rise p;
    live = refl;
  }

  module _ (gone : List Link) (is : gone ≡ filter p g.links) (now : Model) where
    -- after they went
    returning_to : now ≡ left g p → IsReturning g now gone
    returning_to at = subst (λ m. IsReturning g m gone) (sym at) (subst (IsReturning g (left g p)) (sym is) returning_start)

    left_is : now ≡ without_back g gone → now ≡ left g p
    left_is went = went ∙ ap (without_back g) is ∙ left_back g p

    pub returning_back : now ≡ without_back g gone → IsReturning (with_each now gone) now gone
    returning_back went = returning_itself g now gone (returning_to (left_is went))

    pub whole_back : now ≡ without_back g gone → with_each now gone ≡ g
    whole_back went = (returning_to (left_is went)).comes

    -- also after a link came and went again that didn't stand
    left_is_new : (new : Link) → (Contains g.links new → ⊥) → now ≡ without_link (with_one (without_back g gone) new) new → now ≡ left g p
    left_is_new new none went =
        went ∙ ap (λ h. without_link (with_one h new) new) (ap (without_back g) is ∙ left_back g p)
        ∙ ap (λ ls. record g { links = ls }) (but_for-insert_key (left g p).links new (IsStrictlySortedBy-filter link_order (λ l. not (p l)) g.links rise)
        (λ there. none (Contains-from_filter (λ l. not (p l)) g.links new there).0))

    pub returning_back_new : (new : Link) → (Contains g.links new → ⊥) → now ≡ without_link (with_one (without_back g gone) new) new → IsReturning (with_each now gone) now gone
    returning_back_new new none went = returning_itself g now gone (returning_to (left_is_new new none went))

    pub whole_back_new : (new : Link) → (Contains g.links new → ⊥) → now ≡ without_link (with_one (without_back g gone) new) new → with_each now gone ≡ g
    whole_back_new new none went = (returning_to (left_is_new new none went)).comes
