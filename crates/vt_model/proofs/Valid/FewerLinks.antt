-- What the links keep where some of them go, and where objects come.
use Rattle.std.proofs.Common.{◌≡◌, List, [], ◌∷◌, refl, sym, subst, Bool, true}
use Rattle.std.specs.Prelude.{All, Contains, filter, Some}
use Rattle.std.specs.List.Sorted.{IsStrictlySortedBy}
use Rattle.std.proofs.lemmas.List.Elements.{All-contains, All-weaker}
use Rattle.std.proofs.lemmas.List.Kept.{IsStrictlySortedBy-filter}
use Rattle.vt_base.specs.declared.numbers.ObjId.{ObjId}
use Rattle.vt_base.specs.declared.numbers.ClassId.{ClassId}
use Rattle.vt_model.specs.Metamodel.{Metamodel}
use Rattle.vt_model.specs.Model.{Model}
use Rattle.vt_model.specs.Linking.{link_order, link_back}
use Rattle.vt_model.specs.Containing.{Holds, LeadsOver, IsIn}
use Rattle.vt_model.specs.Fits.{IsLiveOf, FitsReference}
use Rattle.vt_model.specs.Valid.{IsOnly, HasItsOpposite, IsOnlyContainer}
use Rattle.vt_model.specs.declared.model.Object.{Object}
use Rattle.vt_model.specs.declared.model.Link.{Link}
use Rattle.vt_facts.proofs.MemberLemmas.{Contains-filter, Contains-from_filter, All-from_contains}
use Rattle.vt_model.proofs.Valid.Sides.{LinkSide}

-- ---- live objects that stay

-- an object that is live is so where each object of its number stays
IsLiveOf-stays : (meta : Metamodel) (live after : List Object) (o : ObjId) (c : ClassId) → ((x : Object) → x.number ≡ o → Contains live x → Contains after x)
    → IsLiveOf meta live o c → IsLiveOf meta after o c
IsLiveOf-stays meta live after o c stays is = record {
  own = is.own;
  is_live = record { name = is.is_live.name; there = stays (record { number = o; name = is.is_live.name; class = is.own }) refl is.is_live.there };
  below = is.below;
}

-- a link fits its reference where the objects at its ends stay
pub FitsReference-stays : (meta : Metamodel) (live after : List Object) (link : Link)
    → ((x : Object) → x.number ≡ link.source → Contains live x → Contains after x) → ((x : Object) → x.number ≡ link.target → Contains live x → Contains after x)
    → FitsReference meta live link → FitsReference meta after link
FitsReference-stays meta live after link source target fits = record {
  info = fits.info;
  declared = fits.declared;
  source = IsLiveOf-stays meta live after link.source fits.info.class source fits.source;
  target = IsLiveOf-stays meta live after link.target fits.info.target target fits.target;
}

-- ---- links of which each stood before

module _ (meta : Metamodel) (g after : Model) (side : LinkSide meta g) (stood : (link : Link) → Contains after.links link → Contains g.links link) where
  -- a link that was the only one is so still
  pub singles-fewer : All (IsOnly meta after) after.links
  singles-fewer = All-from_contains (IsOnly meta after) after.links
      (λ link there single other among. All-contains (IsOnly meta g) g.links link side.singles (stood link there) single other (stood other among))

  -- and so is an only container
  pub containers-fewer : All (IsOnlyContainer meta after) after.links
  containers-fewer = All-from_contains (IsOnlyContainer meta after) after.links
      (λ link there contains other among. All-contains (IsOnlyContainer meta g) g.links link side.containers (stood link there) contains other (stood other among))

  -- what holds an object held it before
  Holds-fewer : (outer inner : ObjId) → Holds meta after outer inner → Holds meta g outer inner
  Holds-fewer outer inner holds = record { link = holds.link; there = stood holds.link holds.there; containment = holds.containment; from = holds.from; to = holds.to }

  -- each path led there before
  LeadsOver-fewer : (outer inner : ObjId) (path : List ObjId) → LeadsOver meta after outer path inner → LeadsOver meta g outer path inner
  LeadsOver-fewer outer inner [] holds = Holds-fewer outer inner holds
  LeadsOver-fewer outer inner (o ∷ path) leads = (Holds-fewer outer o leads.0, LeadsOver-fewer o inner path leads.1)

  -- so none leads back
  pub no_cycle-fewer : (o : ObjId) → IsIn meta after o o → ⊥
  no_cycle-fewer o inside = side.no_cycle o (inside.0, LeadsOver-fewer o o inside.0 inside.1)

-- ---- links that a test keeps

module _ (meta : Metamodel) (g after : Model) (side : LinkSide meta g) (keep : Link → Bool) (kept : after.links ≡ filter keep g.links) where
  -- each link stood before, and passes the test
  stood-filter : (link : Link) → Contains after.links link → Contains g.links link × (keep link ≡ true)
  stood-filter link there = Contains-from_filter keep g.links link (subst (λ l. Contains l link) kept there)

  -- a link has its opposite, where the test keeps both
  opposites-filter : ((link back : Link) → link_back meta link ≡ Some back → keep link ≡ true → keep back ≡ true) → All (HasItsOpposite meta after) after.links
  opposites-filter both = All-from_contains (HasItsOpposite meta after) after.links (λ link there back at.
      let was = stood-filter link there in
      let stays = Contains-filter keep g.links back (All-contains (HasItsOpposite meta g) g.links link side.opposites was.0 back at) (both link back at was.1) in
      subst (λ l. Contains l back) (sym kept) stays)

  -- where each link that stays fits, and stays with its opposite
  pub LinkSide-filter : ((link : Link) → Contains g.links link → keep link ≡ true → FitsReference meta after.live link)
      → ((link back : Link) → link_back meta link ≡ Some back → keep link ≡ true → keep back ≡ true) → LinkSide meta after
  LinkSide-filter fit both = record {
    links_rise = subst (IsStrictlySortedBy link_order) (sym kept) (IsStrictlySortedBy-filter link_order keep g.links side.links_rise);
    links_fit = All-from_contains (FitsReference meta after.live) after.links (λ link there. fit link (stood-filter link there).0 (stood-filter link there).1);
    singles = singles-fewer meta g after side (λ link there. (stood-filter link there).0);
    opposites = opposites-filter both;
    containers = containers-fewer meta g after side (λ link there. (stood-filter link there).0);
    no_cycle = no_cycle-fewer meta g after side (λ link there. (stood-filter link there).0);
  }

-- ---- the same links

-- no link changes, and each live object stays
pub LinkSide-stays : (meta : Metamodel) (g after : Model) → LinkSide meta g → after.links ≡ g.links → ((x : Object) → Contains g.live x → Contains after.live x) → LinkSide meta after
LinkSide-stays meta g after side same stays = record {
  links_rise = subst (IsStrictlySortedBy link_order) (sym same) side.links_rise;
  links_fit = subst (All (FitsReference meta after.live)) (sym same)
      (All-weaker (FitsReference meta g.live) (FitsReference meta after.live) (λ link fits. FitsReference-stays meta g.live after.live link (λ x _ there. stays x there) (λ x _ there. stays x there) fits) g.links side.links_fit);
  singles = singles-fewer meta g after side stood;
  opposites = All-from_contains (HasItsOpposite meta after) after.links
      (λ link there back at. subst (λ l. Contains l back) (sym same) (All-contains (HasItsOpposite meta g) g.links link side.opposites (stood link there) back at));
  containers = containers-fewer meta g after side stood;
  no_cycle = no_cycle-fewer meta g after side stood;
}
  where
    stood : (link : Link) → Contains after.links link → Contains g.links link
    stood link there = subst (λ l. Contains l link) same there
