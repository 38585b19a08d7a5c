-- Links that go one by one, and links that come back.
use Rattle.std.proofs.Common.{◌≡◌, List, [], ◌∷◌, ◌++◌, refl, sym, ap, subst, ◌∙◌, Bool, true, false, not, ◌⊎◌, inl, inr}
use Rattle.std.specs.Prelude.{Contains, filter, fold}
use Rattle.std.specs.BTreeSet.{insert_key}
use Rattle.std.specs.List.{list_any}
use Rattle.std.specs.List.Sorted.{IsStrictlySortedBy}
use Rattle.std.proofs.lemmas.Bool.{both_ways, not-true, not_from_false}
use Rattle.std.proofs.lemmas.List.Kept.{IsStrictlySortedBy-filter}
use Rattle.vt_model.specs.Model.{Model}
use Rattle.vt_model.specs.Linking.{link_order, is_link}
use Rattle.vt_model.specs.declared.model.Link.{Link}
use Rattle.vt_facts.proofs.MemberLemmas.{Contains-filter, Contains-from_filter, Contains-insert_key_cases, Contains-insert_key_old}
use Rattle.vt_facts.proofs.OrderedLemmas.{IsStrictlySortedBy-insert_key}
use Rattle.vt_store.specs.Edits.{same_link, without}
use Rattle.vt_store.specs.Inside.Displaced.{without_link, without_each, without_back, with_one, with_each}
use Rattle.vt_store.proofs.RisingLemmas.{inserted_is}
use Rattle.vt_store.proofs.Linking.Lists.{without-none, without-cons, without-push, without-then}
use Rattle.vt_store.proofs.Linking.Links.{is_link-differs, listed-Contains, not_there}
use Rattle.vt_store.proofs.Linking.Arranged.{is_link_equiv}
use Rattle.vt_facts.proofs.RisingLemmas.{same_items}
use Rattle.vt_facts.proofs.ChosenLemmas.{filter-all, filter-agree}
use Rattle.vt_graph.proofs.Linked.Changed.{is_link-itself}
use Rattle.vt_graph.proofs.Linked.Stored.{link_order_total}

-- the links but for one
abbrev pub but_for : Link → List Link → List Link
but_for gone links = filter (λ l. not (is_link gone l)) links

-- ---- links that go

-- it is the same the other way round
but_for-turned : (gone : Link) (links : List Link) → but_for gone links ≡ filter (λ l. not (is_link l gone)) links
but_for-turned gone links = filter-agree (λ l. not (is_link gone l)) (λ l. not (is_link l gone)) links (λ l there. ap not (is_link_equiv.symm gone l))

-- where none is left to go, the links are what they are
pub gone_none : (links : List Link) → without same_link [] links ≡ links
gone_none links = without-none is_link links

-- the first goes, and then the rest
pub gone_first : (gone : Link) (rest links : List Link) → without same_link rest (but_for gone links) ≡ without same_link (gone ∷ rest) links
gone_first gone rest links = ap (without same_link rest) (but_for-turned gone links) ∙ without-cons is_link gone rest links

-- the last goes, and then those before it
pub gone_last : (rest : List Link) (gone : Link) (links : List Link) → without same_link rest (but_for gone links) ≡ without same_link (rest ++ gone ∷ []) links
gone_last rest gone links = ap (without same_link rest) (but_for-turned gone links) ∙ without-push is_link rest gone links

-- the rest goes, and then the first
pub gone_then : (gone : Link) (rest links : List Link) → but_for gone (without same_link rest links) ≡ without same_link (gone ∷ rest) links
gone_then gone rest links = but_for-turned gone (without same_link rest links) ∙ without-then is_link gone rest links

-- where what goes is what passes a test, what doesn't is left
pub gone_filter : (p : Link → Bool) (links : List Link) → without same_link (filter p links) links ≡ filter (λ l. not (p l)) links
gone_filter p links = filter-agree (λ l. not (list_any (is_link l) (filter p links))) (λ l. not (p l)) links (λ l there. ap not (by l there (p l) refl))
  where
    by : (l : Link) → Contains links l → (b : Bool) → p l ≡ b → list_any (is_link l) (filter p links) ≡ p l
    by l there true e = listed-Contains (filter p links) l (Contains-filter p links l there e) ∙ sym e
    by l there false e = not_there (filter p links) l (λ stays. both_ways (p l) e (Contains-from_filter p links l stays).1) ∙ sym e

-- a link that isn't there doesn't go
pub but_for-none : (gone : Link) (links : List Link) → (Contains links gone → ⊥) → but_for gone links ≡ links
but_for-none gone links none = filter-all (λ l. not (is_link gone l)) links
    (λ l there. not_from_false (is_link gone l) (is_link-differs gone l (λ same. none (subst (Contains links) (sym same) there))))

-- ---- links that come

-- a link that comes and goes again leaves what was there
pub but_for-insert_key : (links : List Link) (new : Link) → IsStrictlySortedBy link_order links → (Contains links new → ⊥) → but_for new (insert_key link_order links new) ≡ links
but_for-insert_key links new rise none =
    same_items link_order link_order_total (but_for new with_new) links
    (IsStrictlySortedBy-filter link_order stays with_new (IsStrictlySortedBy-insert_key link_order link_order_total links new rise)) rise old back
  where
    with_new : List Link
    with_new = insert_key link_order links new

    stays : Link → Bool
    stays l = not (is_link new l)

    old : (x : Link) → Contains (but_for new with_new) x → Contains links x
    old x there =
        let was = Contains-from_filter stays with_new x there in
        elim (Contains-insert_key_cases link_order new links x was.0) [
          | inl older ↦ older
          | inr is ↦ absurd (both_ways (is_link new x) (not-true (is_link new x) was.1) (subst (λ l. is_link new l ≡ true) is (is_link-itself new)))
        ]

    back : (x : Link) → Contains links x → Contains (but_for new with_new) x
    back x there = Contains-filter stays with_new x (Contains-insert_key_old link_order new links x there)
        (not_from_false (is_link new x) (is_link-differs new x (λ same. none (subst (Contains links) (sym same) there))))

-- where what passes a test went, it comes back one by one
pub come_back : (p : Link → Bool) (links : List Link) → IsStrictlySortedBy link_order links → fold (insert_key link_order) (filter (λ l. not (p l)) links) (filter p links) ≡ links
come_back p links rise = inserted_is link_order link_order_total links rise (filter (λ l. not (p l)) links) (filter p links)
    (IsStrictlySortedBy-filter link_order (λ l. not (p l)) links rise)
    (λ z there. (Contains-from_filter (λ l. not (p l)) links z there).0)
    (λ z there. (Contains-from_filter p links z there).0)
    (λ z there. by z there (p z) refl)
  where
    by : (z : Link) → Contains links z → (b : Bool) → p z ≡ b → Contains (filter (λ l. not (p l)) links) z ⊎ Contains (filter p links) z
    by z there true e = inr (Contains-filter p links z there e)
    by z there false e = inl (Contains-filter (λ l. not (p l)) links z there (not_from_false (p z) e))

-- ---- of a whole model

module _ (g : Model) where
  -- the links that a model is left with, one link at a time
  each_gone : (gone links : List Link) → without_each (record g { links = links }) gone ≡ record g { links = without same_link gone links }
  each_gone [] links = ap (λ ls. record g { links = ls }) (sym (gone_none links))
  each_gone (link ∷ gone) links = each_gone gone (but_for link links) ∙ ap (λ ls. record g { links = ls }) (gone_first link gone links)

  pub without_each_is : (gone : List Link) → without_each g gone ≡ record g { links = without same_link gone g.links }
  without_each_is gone = each_gone gone g.links

  -- the same from the last
  pub without_back_is : (gone : List Link) → without_back g gone ≡ record g { links = without same_link gone g.links }
  without_back_is [] = ap (λ ls. record g { links = ls }) (sym (gone_none g.links))
  without_back_is (link ∷ gone) =
      ap (λ h. without_link h link) (without_back_is gone)
      ∙ ap (λ ls. record g { links = ls }) (gone_then link gone g.links)

  -- several come
  each_come : (come links : List Link) → with_each (record g { links = links }) come ≡ record g { links = fold (insert_key link_order) links come }
  each_come [] links = refl
  each_come (link ∷ come) links = each_come come (insert_key link_order links link)

  pub with_each_is : (come : List Link) → with_each g come ≡ record g { links = fold (insert_key link_order) g.links come }
  with_each_is come = each_come come g.links

  -- what is left after those went that pass a test
  abbrev pub left : (Link → Bool) → Model
  left p = record g { links = filter (λ l. not (p l)) g.links }

  -- it is so however they went
  pub left_each : (p : Link → Bool) → without_each g (filter p g.links) ≡ left p
  left_each p = without_each_is (filter p g.links) ∙ ap (λ ls. record g { links = ls }) (gone_filter p g.links)

  pub left_back : (p : Link → Bool) → without_back g (filter p g.links) ≡ left p
  left_back p = without_back_is (filter p g.links) ∙ ap (λ ls. record g { links = ls }) (gone_filter p g.links)

  module _ (rise : IsStrictlySortedBy link_order g.links) (p : Link → Bool) where
    -- they come back
    pub come_back_to : with_each (left p) (filter p g.links) ≡ g
    come_back_to = each_come (filter p g.links) (left p).links ∙ ap (λ ls. record g { links = ls }) (come_back p g.links rise)

    -- also after a link came and went again that didn't stand
    pub come_back_from : (new : Link) → (Contains g.links new → ⊥) → with_each (without_link (with_one (left p) new) new) (filter p g.links) ≡ g
    come_back_from new none =
        ap (λ ls. with_each (record g { links = ls }) (filter p g.links)) (but_for-insert_key (left p).links new
        (IsStrictlySortedBy-filter link_order (λ l. not (p l)) g.links rise) (λ there. none (Contains-from_filter (λ l. not (p l)) g.links new there).0))
        ∙ come_back_to
