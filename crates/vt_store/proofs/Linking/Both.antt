-- A link and its opposite, in order, and what is dropped for them.
use Rattle.std.proofs.Common.{◌≡◌, List, [], ◌∷◌, sym, ap, ap₂, subst, ◌∙◌, not, inl, inr, Some, None}
use Rattle.std.specs.Prelude.{◌==◌, filter, find, option_map, unwrap_or}
use Rattle.std.specs.BTreeSet.{insert_key}
use Rattle.std.specs.List.Sorted.{IsStrictlySortedBy}
use Rattle.std.specs.Ordering.{nat_cmp, match_ordering}
use Rattle.std.specs.declared.cmp.Ordering.TheVariants.{Less, Equal, Greater}
use Rattle.std.proofs.lemmas.List.Kept.{IsStrictlySortedBy-filter}
use Rattle.vt_base.specs.declared.numbers.ObjId.{ObjId}
use Rattle.vt_base.specs.declared.numbers.RefId.{RefId}
use Rattle.vt_model.specs.Metamodel.{Metamodel}
use Rattle.vt_model.specs.Model.{Model}
use Rattle.vt_model.specs.Linking.{link_order, link_back, is_dropped, with_back, with_link, relinked}
use Rattle.vt_model.specs.Sound.{IsSound}
use Rattle.vt_model.specs.Valid.{IsValid}
use Rattle.vt_model.specs.declared.model.Link.{Link}
use Rattle.vt_facts.proofs.MemberLemmas.{Contains-nil, Contains-filter, Contains-from_filter}
use Rattle.vt_model.proofs.Valid.WithLink.{Contains-with_link_cases, Contains-with_link_new, IsStrictlySortedBy-with_link}
use Rattle.vt_store.specs.Inside.Displaced.{targets_of, sources_of, with_opposite, candidates, IsArranged, NoneStands, without_link, without_each, without_back, with_one, with_each}
use Rattle.vt_store.proofs.Linking.Coming.{link_back_differs}
use Rattle.vt_store.proofs.Linking.Ends.{AreSources, Contains-with_opposite, Contains-from_with_opposite}
use Rattle.vt_store.proofs.Linking.Candidates.{dropped-found, found-dropped}
use Rattle.vt_store.proofs.Linking.Arranged.{arranged_is}
use Rattle.vt_store.proofs.Linking.Steps.{left_each, left_back, come_back_to, come_back_from}
use Rattle.vt_facts.proofs.RisingLemmas.{rises-none}
use Rattle.vt_graph.proofs.Linked.Stored.{link_order-Equal}

-- ---- a link and its opposite

module _ (meta : Metamodel) (link : Link) where
  -- the two in order
  abbrev pub both : List Link
  both = with_link meta [] link

  pub arranged_both : (found out : List Link) → found ≡ with_opposite meta link → IsArranged found out → out ≡ both
  arranged_both found out is arranged = arranged_is (with_opposite meta link) out both (subst (λ ls. IsArranged ls out) is arranged) (IsStrictlySortedBy-with_link meta [] link (rises-none link_order))
      (λ x there. Contains-with_link_new meta [] link x (Contains-from_with_opposite meta link x there))
      (λ x there. elim (Contains-with_link_cases meta [] link x there) [ inl old ↦ absurd (Contains-nil x old) | inr comes ↦ Contains-with_opposite meta link x comes ])

  -- the link alone
  pub both_alone : link_back meta link ≡ None → both ≡ link ∷ []
  both_alone none = ap (with_back (link ∷ [])) none

  -- the opposite first
  pub both_below : (back : Link) → link_back meta link ≡ Some back → link_order back link ≡ Less → both ≡ back ∷ link ∷ []
  both_below back at below = ap (with_back (link ∷ [])) at ∙ ap (λ r. match_ordering r (back ∷ link ∷ []) (link ∷ []) (link ∷ back ∷ [])) below

  -- the link first
  pub both_above : (back : Link) → link_back meta link ≡ Some back → link_order back link ≡ Greater → both ≡ link ∷ back ∷ []
  both_above back at above = ap (with_back (link ∷ [])) at ∙ ap (λ r. match_ordering r (back ∷ link ∷ []) (link ∷ []) (link ∷ back ∷ [])) above

  -- one of the two it is
  pub both_differ : IsSound meta → (back : Link) → link_back meta link ≡ Some back → link_order back link ≡ Equal → ⊥
  both_differ sound back at tied = link_back_differs meta sound link back at (sym (link_order-Equal back link tied))

-- ---- what is dropped

module _ (meta : Metamodel) (sound : IsSound meta) (g : Model) (valid : IsValid meta g) (new : Link) where
  -- the links of the model that are dropped, in order
  abbrev pub dropped : List Link
  dropped = filter (is_dropped meta new) g.links

  -- what is found at the ends, in order, is what is dropped
  pub arranged_dropped : {E : Type 0} (reference : E → RefId) (objects : E → List ObjId) (lists : List E) → IsStrictlySortedBy (λ a b. nat_cmp (reference a).0 (reference b).0) lists
      → ((r : RefId) → unwrap_or (option_map objects (find (λ e. (reference e).0 == r.0) lists)) [] ≡ sources_of g new.target r) → (out : List Link)
      → IsArranged (candidates reference objects meta new (targets_of g new.source new.reference) (sources_of g new.target new.reference) lists) out → out ≡ dropped
  arranged_dropped reference objects lists lists_rise objects_are out arranged =
      let ends : AreSources reference objects g new.target lists = record { rise = lists_rise; objects_are = objects_are } in
      arranged_is (candidates reference objects meta new (targets_of g new.source new.reference) (sources_of g new.target new.reference) lists) out dropped arranged
      (IsStrictlySortedBy-filter link_order (is_dropped meta new) g.links valid.links_rise)
      (λ x there. let is = dropped-found meta g new reference objects lists ends sound valid x there in Contains-filter (is_dropped meta new) g.links x is.0 is.1)
      (λ x there. let was = Contains-from_filter (is_dropped meta new) g.links x there in found-dropped meta g new reference objects lists ends sound valid x was.0 was.1)

  -- the same of what calls say one after the other
  pub displaced_is : {E : Type 0} (reference : E → RefId) (objects : E → List ObjId) (targets sources : List ObjId) (lists : List E) (found out : List Link)
      → found ≡ candidates reference objects meta new targets sources lists → IsArranged found out
      → targets ≡ targets_of g new.source new.reference → sources ≡ sources_of g new.target new.reference
      → IsStrictlySortedBy (λ a b. nat_cmp (reference a).0 (reference b).0) lists
      → ((r : RefId) → unwrap_or (option_map objects (find (λ e. (reference e).0 == r.0) lists)) [] ≡ sources_of g new.target r) → out ≡ dropped
  displaced_is reference objects targets sources lists found out is arranged at_source at_target lists_rise objects_are =
      arranged_dropped reference objects lists lists_rise objects_are out
      (subst (λ ls. IsArranged ls out) (is ∙ ap₂ (λ ts ss. candidates reference objects meta new ts ss lists) at_source at_target) arranged)

-- ---- the steps of Link

module _ (meta : Metamodel) (g : Model) (new : Link) (gone : List Link) (is : gone ≡ filter (is_dropped meta new) g.links) where
  -- what is left
  abbrev kept : Model
  kept = record g { links = filter (λ old. not (is_dropped meta new old)) g.links }

  kept_back : without_back g gone ≡ kept
  kept_back = ap (without_back g) is ∙ left_back g (is_dropped meta new)

  kept_each : without_each g gone ≡ kept
  kept_each = ap (without_each g) is ∙ left_each g (is_dropped meta new)

  -- the model afterwards, where the link has no opposite
  pub relinked_alone : link_back meta new ≡ None → with_one (without_back g gone) new ≡ relinked meta g new
  relinked_alone none = ap (λ h. with_one h new) kept_back ∙ ap (λ b. record g { links = with_back (insert_key link_order kept.links new) b }) (sym none)

  -- and where it has one
  pub relinked_both : (back : Link) → link_back meta new ≡ Some back → with_one (with_one (without_back g gone) new) back ≡ relinked meta g new
  relinked_both back at = ap (λ h. with_one (with_one h new) back) kept_back ∙ ap (λ b. record g { links = with_back (insert_key link_order kept.links new) b }) (sym at)

  -- the same where the first of what goes goes first
  pub relinked_alone_each : link_back meta new ≡ None → with_one (without_each g gone) new ≡ relinked meta g new
  relinked_alone_each none = ap (λ h. with_one h new) (kept_each ∙ sym kept_back) ∙ relinked_alone none

  pub relinked_both_each : (back : Link) → link_back meta new ≡ Some back → with_one (with_one (without_each g gone) new) back ≡ relinked meta g new
  relinked_both_each back at = ap (λ h. with_one (with_one h new) back) (kept_each ∙ sym kept_back) ∙ relinked_both back at

  module _ (rise : IsStrictlySortedBy link_order g.links) where
    -- what went comes back
    pub taken_back : with_each (without_back g gone) gone ≡ g
    taken_back = ap (λ h. with_each h gone) kept_back ∙ ap (with_each kept) is ∙ come_back_to g rise (is_dropped meta new)

    -- also after the new link came and went again
    pub taken_back_new : NoneStands meta g new → with_each (without_link (with_one (without_back g gone) new) new) gone ≡ g
    taken_back_new none =
        ap (λ h. with_each (without_link (with_one h new) new) gone) kept_back
        ∙ ap (with_each (without_link (with_one kept new) new)) is
        ∙ come_back_from g rise (is_dropped meta new) new none.itself
