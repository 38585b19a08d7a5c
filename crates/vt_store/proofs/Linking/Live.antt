-- Both ends of a link that stands, or that comes, are live.
use Rattle.std.proofs.Common.{◌≡◌, List, [], ◌∷◌, refl, sym, ap, subst, ◌∙◌, inl, inr, Bool, Some}
use Rattle.std.specs.Prelude.{◌==◌, All, Contains, filter, find, IsSome}
use Rattle.std.proofs.lemmas.List.Elements.{All-contains, All-filter, All-weaker}
use Rattle.vt_base.specs.declared.numbers.ObjId.{ObjId}
use Rattle.vt_base.specs.declared.numbers.ClassId.{ClassId}
use Rattle.vt_model.specs.Metamodel.{Metamodel}
use Rattle.vt_model.specs.Model.{Model}
use Rattle.vt_model.specs.Linking.{link_back, oriented, with_link}
use Rattle.vt_model.specs.Fits.{IsLive, FitsReference}
use Rattle.vt_model.specs.Sound.{IsSound}
use Rattle.vt_model.specs.Valid.{IsValid}
use Rattle.vt_model.specs.declared.model.Link.{Link}
use Rattle.vt_facts.proofs.MemberLemmas.{Contains-nil, All-from_contains}
use Rattle.vt_model.proofs.Valid.Backs.{IsByOpposite-link_back}
use Rattle.vt_model.proofs.Valid.Dropped.{Comes}
use Rattle.vt_model.proofs.Valid.WithLink.{Contains-with_link_cases}
use Rattle.vt_store.specs.Inside.Displaced.{live_at, EndsLive, without_link, without_each, without_back, with_one, with_each}
use Rattle.vt_asked.proofs.LiveLemmas.{live_at_is}
use Rattle.vt_store.proofs.Linking.Coming.{fits_comes, fits_oriented}

-- ---- while links go and come

-- the same objects are live
pub live_without_each : (g : Model) (gone : List Link) → (without_each g gone).live ≡ g.live
live_without_each g [] = refl
live_without_each g (link ∷ gone) = live_without_each (without_link g link) gone

pub live_without_back : (g : Model) (gone : List Link) → (without_back g gone).live ≡ g.live
live_without_back g [] = refl
live_without_back g (link ∷ gone) = live_without_back g gone

pub live_with_each : (g : Model) (links : List Link) → (with_each g links).live ≡ g.live
live_with_each g [] = refl
live_with_each g (link ∷ links) = live_with_each (with_one g link) links

-- so the ends of a link are
pub ends_live_same : (g h : Model) (link : Link) → h.live ≡ g.live → EndsLive g link → EndsLive h link
ends_live_same g h link same live = record {
  source = subst (λ os. IsSome (find (λ x. x.number.0 == link.source.0) os)) (sym same) live.source;
  target = subst (λ os. IsSome (find (λ x. x.number.0 == link.target.0) os)) (sym same) live.target;
}

pub ends_live_all : (g h : Model) (links : List Link) → h.live ≡ g.live → All (EndsLive g) links → All (EndsLive h) links
ends_live_all g h links same all = All-weaker (EndsLive g) (EndsLive h) (λ link live. ends_live_same g h link same live) links all

-- after several went
module _ (g now : Model) (gone : List Link) (went : now ≡ without_back g gone) where
  pub live_back : now.live ≡ g.live
  live_back = ap (λ m. m.live) went ∙ live_without_back g gone

  pub ends_live_back : (link : Link) → EndsLive g link → EndsLive now link
  ends_live_back link live = ends_live_same g now link live_back live

  pub ends_live_all_back : (links : List Link) → All (EndsLive g) links → All (EndsLive now) links
  ends_live_all_back links all = ends_live_all g now links live_back all

module _ (g : Model) (link : Link) (live : EndsLive g link) where
  pub ends_live_without_link : (gone : Link) → EndsLive (without_link g gone) link
  ends_live_without_link gone = ends_live_same g (without_link g gone) link refl live

  pub ends_live_without_each : (gone : List Link) → EndsLive (without_each g gone) link
  ends_live_without_each gone = ends_live_same g (without_each g gone) link (live_without_each g gone) live

  pub ends_live_without_back : (gone : List Link) → EndsLive (without_back g gone) link
  ends_live_without_back gone = ends_live_same g (without_back g gone) link (live_without_back g gone) live

  pub ends_live_with_one : (come : Link) → EndsLive (with_one g come) link
  ends_live_with_one come = ends_live_same g (with_one g come) link refl live

  pub ends_live_with_each : (come : List Link) → EndsLive (with_each g come) link
  ends_live_with_each come = ends_live_same g (with_each g come) link (live_with_each g come) live

-- the opposite of a link has the same ends
pub ends_live_link_back : (meta : Metamodel) (g : Model) (link back : Link) → link_back meta link ≡ Some back → EndsLive g link → EndsLive g back
ends_live_link_back meta g link back at live =
    let by = IsByOpposite-link_back meta link back at in
    subst (EndsLive g) by.is (record { source = live.target; target = live.source })

module _ (meta : Metamodel) (g : Model) (valid : IsValid meta g) where
  some_live : (o : ObjId) (c : ClassId) → IsLive g.live o c → IsSome (live_at g o)
  some_live o c live = rw (live_at_is meta g valid o c live) refl

  -- ---- links

  -- a link that fits
  pub ends_live_fits : (link : Link) → FitsReference meta g.live link → EndsLive g link
  ends_live_fits link fits = record {
    source = some_live link.source fits.source.own fits.source.is_live;
    target = some_live link.target fits.target.own fits.target.is_live;
  }

  -- a link that stands
  pub ends_live_stands : (link : Link) → Contains g.links link → EndsLive g link
  ends_live_stands link there = ends_live_fits link (All-contains (FitsReference meta g.live) g.links link valid.links_fit there)

  -- all of them, and so those that are dropped
  pub ends_live_links : All (EndsLive g) g.links
  ends_live_links = All-from_contains (EndsLive g) g.links ends_live_stands

  pub ends_live_filter : (p : Link → Bool) → All (EndsLive g) (filter p g.links)
  ends_live_filter p = All-filter p (EndsLive g) g.links ends_live_links

  pub ends_live_gone : (p : Link → Bool) (gone : List Link) → gone ≡ filter p g.links → All (EndsLive g) gone
  ends_live_gone p gone is = subst (All (EndsLive g)) (sym is) (ends_live_filter p)

  -- a link that comes, and its opposite
  module _ (sound : IsSound meta) (link : Link) (fits : FitsReference meta g.live link) where
    pub ends_live_comes : (x : Link) → Comes meta link x → EndsLive g x
    ends_live_comes x comes = ends_live_fits x (fits_comes meta sound g valid link fits x comes)

    -- the link as it is made
    pub ends_live_oriented : (made : Link) → made ≡ oriented meta link → EndsLive g made
    ends_live_oriented made is = subst (EndsLive g) (sym is) (ends_live_fits (oriented meta link) (fits_oriented meta sound g valid link fits))

    pub ends_live_both : All (EndsLive g) (with_link meta [] link)
    ends_live_both = All-from_contains (EndsLive g) (with_link meta [] link) (λ x there. elim (Contains-with_link_cases meta [] link x there) [
      | inl old ↦ absurd (Contains-nil x old)
      | inr comes ↦ ends_live_comes x comes
    ])
