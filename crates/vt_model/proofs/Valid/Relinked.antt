-- The links after a new one came with its opposite, and what it displaces went.
use Rattle.std.proofs.Common.{◌≡◌, List, [], ◌∷◌, sym, ap, subst, ◌∙◌, Bool, true, false, not, ◌⊎◌, inl, inr}
use Rattle.std.specs.Prelude.{All, Contains, filter, Some}
use Rattle.std.proofs.lemmas.Bool.{both_ways, not-true, not_from_false}
use Rattle.std.proofs.lemmas.Option.{same_Some}
use Rattle.std.proofs.lemmas.List.Elements.{All-contains}
use Rattle.std.proofs.lemmas.List.Kept.{IsStrictlySortedBy-filter}
use Rattle.vt_base.specs.declared.numbers.ObjId.{ObjId}
use Rattle.vt_model.specs.Metamodel.{Metamodel}
use Rattle.vt_model.specs.Model.{Model}
use Rattle.vt_model.specs.Linking.{link_order, is_many, is_containment, link_back, is_dropped, relinked}
use Rattle.vt_model.specs.Containing.{Holds, LeadsOver, IsIn, is_inside}
use Rattle.vt_model.specs.Fits.{FitsReference}
use Rattle.vt_model.specs.Sound.{IsSound}
use Rattle.vt_model.specs.Valid.{IsOnly, HasItsOpposite, IsOnlyContainer}
use Rattle.vt_model.specs.declared.model.Link.{Link}
use Rattle.vt_facts.proofs.MemberLemmas.{Contains-filter, Contains-from_filter, All-from_contains}
use Rattle.vt_model.proofs.Valid.Sides.{LinkSide}
use Rattle.vt_model.proofs.Valid.Containment.{IsAtOrIn, IsIn-trans, IsIn-Holds, IsIn-at_or_in, IsIn-of_at_or_in, IsAtOrIn-trans, is_inside-IsAtOrIn}
use Rattle.vt_model.proofs.Valid.Backs.{IsBack-link_back, FitsReference-link_back}
use Rattle.vt_model.proofs.Valid.WithLink.{Contains-with_link_cases, Contains-with_link_old, Contains-with_link_new, IsStrictlySortedBy-with_link}
use Rattle.vt_model.proofs.Valid.Dropped.{Comes, Comes-same, displaces-container, is_dropped-displaces, is_dropped-link_back, is_dropped-single}

-- what the new link is: it fits its reference, its opposite is no containment, and it doesn't put an object into itself
pub record IsLinkable (meta : Metamodel) (g : Model) (new : Link) : Type 0 where
  pub fits : FitsReference meta g.live new
  pub plain_back : (back : Link) → link_back meta new ≡ Some back → is_containment meta back.reference ≡ false
  pub no_circle : is_containment meta new.reference ≡ true → is_inside meta g new.source new.target ≡ false

-- the new link is on the way from the one object to the other
pub record GoesOver (meta : Metamodel) (g : Model) (new : Link) (outer inner : ObjId) : Type 0 where
  pub containment : is_containment meta new.reference ≡ true
  pub above : IsAtOrIn meta g new.source outer
  pub below : IsAtOrIn meta g inner new.target

module _ (meta : Metamodel) (sound : IsSound meta) (g : Model) (side : LinkSide meta g) (new : Link) (linkable : IsLinkable meta g new) where
  -- the model afterwards
  abbrev after : Model
  after = relinked meta g new

  -- what isn't dropped
  abbrev kept : Link → Bool
  kept old = not (is_dropped meta new old)

  -- a link that stood before and isn't dropped
  abbrev Stays : Link → Type 0
  Stays link = Contains g.links link × (is_dropped meta new link ≡ false)

  -- what stands afterwards stood before and stays, or comes
  stays_or_comes : (link : Link) → Contains after.links link → Stays link ⊎ Comes meta new link
  stays_or_comes link there = elim (Contains-with_link_cases meta (filter kept g.links) new link there) [
    | inl old ↦ (let was = Contains-from_filter kept g.links link old in inl (was.0, not-true (is_dropped meta new link) was.1))
    | inr comes ↦ inr comes
  ]

  -- what stays stands afterwards
  stands-Stays : (link : Link) → Stays link → Contains after.links link
  stands-Stays link stays = Contains-with_link_old meta (filter kept g.links) new link (Contains-filter kept g.links link stays.0 (not_from_false (is_dropped meta new link) stays.1))

  -- and so does what comes
  stands-Comes : (link : Link) → Comes meta new link → Contains after.links link
  stands-Comes link comes = Contains-with_link_new meta (filter kept g.links) new link comes

  -- ---- the fields

  -- the new link fits, and its opposite fits with it
  links_fit-relinked : All (FitsReference meta after.live) after.links
  links_fit-relinked = All-from_contains (FitsReference meta g.live) after.links (λ link there. by link (stays_or_comes link there))
    where
      by : (link : Link) → Stays link ⊎ Comes meta new link → FitsReference meta g.live link
      by link (inl stays) = All-contains (FitsReference meta g.live) g.links link side.links_fit stays.0
      by link (inr (inl is)) = subst (FitsReference meta g.live) is linkable.fits
      by link (inr (inr at)) = FitsReference-link_back meta sound g.live new link linkable.fits at

  -- of two links of one source and single reference, the old one was dropped
  singles-relinked : All (IsOnly meta after) after.links
  singles-relinked = All-from_contains (IsOnly meta after) after.links
      (λ link there single other among source reference. by link other single source reference (stays_or_comes link there) (stays_or_comes other among))
    where
      by : (link other : Link) → is_many meta link.reference ≡ false → other.source ≡ link.source → other.reference ≡ link.reference
          → Stays link ⊎ Comes meta new link → Stays other ⊎ Comes meta new other → other ≡ link
      by link other single source reference (inl old) (inl stays) = All-contains (IsOnly meta g) g.links link side.singles old.0 single other stays.0 source reference
      by link other single source reference (inl old) (inr comes) = absurd (both_ways (is_dropped meta new link) old.1
          (is_dropped-single meta sound new other link comes (sym source) (sym reference) (ap (is_many meta) reference ∙ single)))
      by link other single source reference (inr comes) (inl stays) = absurd (both_ways (is_dropped meta new other) stays.1
          (is_dropped-single meta sound new link other comes source reference single))
      by link other single source reference (inr comes) (inr too) = Comes-same meta sound new other link too comes reference

  -- a link that stays does so with its opposite, and the new one came with its own
  opposites-relinked : All (HasItsOpposite meta after) after.links
  opposites-relinked = All-from_contains (HasItsOpposite meta after) after.links (λ link there back at. by link back at (stays_or_comes link there))
    where
      by : (link back : Link) → link_back meta link ≡ Some back → Stays link ⊎ Comes meta new link → Contains after.links back
      by link back at (inl stays) = stands-Stays back (All-contains (HasItsOpposite meta g) g.links link side.opposites stays.0 back at, is_dropped-link_back meta sound new link back at ∙ stays.1)
      by link back at (inr (inl is)) = stands-Comes back (inr (ap (link_back meta) is ∙ at))
      by link back at (inr (inr comes)) = let forth = (IsBack-link_back meta sound new link comes).forth in stands-Comes back (inl (same_Some new back (sym forth ∙ at)))

  -- of what comes, the new link alone can be a containment
  is_new : (link : Link) → Comes meta new link → is_containment meta link.reference ≡ true → new ≡ link
  is_new link (inl is) contains = is
  is_new link (inr at) contains = absurd (both_ways (is_containment meta link.reference) (linkable.plain_back link at) contains)

  -- an old container of its target is dropped
  is_dropped-container : (link old : Link) → Comes meta new link → is_containment meta link.reference ≡ true → is_containment meta old.reference ≡ true
      → old.target ≡ link.target → is_dropped meta new old ≡ true
  is_dropped-container link old comes contains contained target =
      let is = is_new link comes contains in
      is_dropped-displaces meta new old (displaces-container meta new old (target ∙ sym (ap (λ l. l.target) is)) (ap (λ l. is_containment meta l.reference) is ∙ contains) contained)

  -- of two containments that lead to one object, the old one was dropped
  containers-relinked : All (IsOnlyContainer meta after) after.links
  containers-relinked = All-from_contains (IsOnlyContainer meta after) after.links
      (λ link there contains other among contained target. by link other contains contained target (stays_or_comes link there) (stays_or_comes other among))
    where
      by : (link other : Link) → is_containment meta link.reference ≡ true → is_containment meta other.reference ≡ true → other.target ≡ link.target
          → Stays link ⊎ Comes meta new link → Stays other ⊎ Comes meta new other → other ≡ link
      by link other contains contained target (inl old) (inl stays) = All-contains (IsOnlyContainer meta g) g.links link side.containers old.0 contains other stays.0 contained target
      by link other contains contained target (inl old) (inr comes) = absurd (both_ways (is_dropped meta new link) old.1 (is_dropped-container other link comes contained contains (sym target)))
      by link other contains contained target (inr comes) (inl stays) = absurd (both_ways (is_dropped meta new other) stays.1 (is_dropped-container link other comes contains contained target))
      by link other contains contained target (inr comes) (inr too) = sym (is_new other too contained) ∙ is_new link comes contains

  -- ---- no cycle

  -- what holds an object held it before, or is the source of the new link
  Holds-cases : (outer inner : ObjId) → Holds meta after outer inner → Holds meta g outer inner ⊎ GoesOver meta g new outer inner
  Holds-cases outer inner holds = by (stays_or_comes holds.link holds.there)
    where
      by : Stays holds.link ⊎ Comes meta new holds.link → Holds meta g outer inner ⊎ GoesOver meta g new outer inner
      by (inl stays) = inl (record { link = holds.link; there = stays.0; containment = holds.containment; from = holds.from; to = holds.to })
      by (inr comes) =
          let is = is_new holds.link comes holds.containment in
          inr (record {
            containment = ap (λ l. is_containment meta l.reference) is ∙ holds.containment;
            above = inl (ap (λ l. l.source) is ∙ holds.from);
            below = inl (sym holds.to ∙ sym (ap (λ l. l.target) is));
          })

  -- a path is an old one, or goes over the new link
  leads_anew : (outer inner : ObjId) (path : List ObjId) → LeadsOver meta after outer path inner → IsIn meta g inner outer ⊎ GoesOver meta g new outer inner
  leads_anew outer inner [] holds = elim (Holds-cases outer inner holds) [ inl old ↦ inl (IsIn-Holds meta g outer inner old) | inr over ↦ inr over ]
  leads_anew outer inner (o ∷ path) leads = by (Holds-cases outer o leads.0) (leads_anew o inner path leads.1)
    where
      by : Holds meta g outer o ⊎ GoesOver meta g new outer o → IsIn meta g inner o ⊎ GoesOver meta g new o inner → IsIn meta g inner outer ⊎ GoesOver meta g new outer inner
      by (inl old) (inl later) = inl (IsIn-trans meta g outer o inner (IsIn-Holds meta g outer o old) later)
      by (inl old) (inr over) = inr (record { containment = over.containment; above = inr (IsIn-of_at_or_in meta g outer o new.source (IsIn-Holds meta g outer o old) over.above); below = over.below })
      by (inr over) (inl later) = inr (record { containment = over.containment; above = over.above; below = inr (IsIn-at_or_in meta g new.target o inner over.below later) })
      by (inr over) (inr again) = inr (record { containment = over.containment; above = over.above; below = again.below })

  -- the new link's source isn't in its target, so no path leads back
  no_cycle-relinked : (o : ObjId) → IsIn meta after o o → ⊥
  no_cycle-relinked o inside = by (leads_anew o o inside.0 inside.1)
    where
      by : IsIn meta g o o ⊎ GoesOver meta g new o o → ⊥
      by (inl old) = side.no_cycle o old
      by (inr over) = both_ways (is_inside meta g new.source new.target) (linkable.no_circle over.containment)
          (is_inside-IsAtOrIn meta g side new.source new.target (IsAtOrIn-trans meta g new.target o new.source over.below over.above))

  -- what a model keeps of its links it keeps through a new one
  pub LinkSide-relinked : LinkSide meta after
  LinkSide-relinked = record {
    links_rise = IsStrictlySortedBy-with_link meta (filter kept g.links) new (IsStrictlySortedBy-filter link_order kept g.links side.links_rise);
    links_fit = links_fit-relinked;
    singles = singles-relinked;
    opposites = opposites-relinked;
    containers = containers-relinked;
    no_cycle = no_cycle-relinked;
  }
