-- The link that a change makes, and its opposite: neither stands before, and nothing that goes is one of them.
use Rattle.std.proofs.Common.{◌≡◌, List, refl, sym, ap, subst, true, false, inl, inr}
use Rattle.std.specs.Prelude.{Contains, Some}
use Rattle.std.specs.BTreeSet.{insert_key}
use Rattle.std.proofs.lemmas.List.Elements.{All-contains}
use Rattle.vt_model.specs.Metamodel.{Metamodel}
use Rattle.vt_model.specs.Model.{Model}
use Rattle.vt_model.specs.Linking.{link_order, is_link, stands, link_back, oriented, relinked, linked}
use Rattle.vt_model.specs.Fits.{FitsReference}
use Rattle.vt_model.specs.Sound.{IsSound}
use Rattle.vt_model.specs.Valid.{IsValid, HasItsOpposite}
use Rattle.vt_model.specs.declared.model.Link.{Link}
use Rattle.vt_facts.proofs.MemberLemmas.{Contains-insert_key_cases}
use Rattle.vt_model.proofs.Valid.Backs.{oriented-either, IsBack-link_back, FitsReference-link_back}
use Rattle.vt_model.proofs.Valid.Dropped.{Comes}
use Rattle.vt_store.specs.Inside.Displaced.{NoneStands}
use Rattle.vt_store.proofs.Linking.Links.{is_link-differs, not_listed}

-- a link as it is made is the link, or its opposite
pub Comes-oriented : (meta : Metamodel) → IsSound meta → (link : Link) → Comes meta (oriented meta link) link
Comes-oriented meta sound link = oriented-either meta (λ new. Comes meta new link) link (inl refl) (λ back at. inr (IsBack-link_back meta sound link back at).forth)

-- the opposite of the opposite is the link
pub link_back_back : (meta : Metamodel) → IsSound meta → (link back : Link) → link_back meta link ≡ Some back → link_back meta back ≡ Some link
link_back_back meta sound link back at = (IsBack-link_back meta sound link back at).forth

-- and differs from it
pub link_back_differs : (meta : Metamodel) → IsSound meta → (link back : Link) → link_back meta link ≡ Some back → link ≡ back → ⊥
link_back_differs meta sound link back at same = (IsBack-link_back meta sound link back at).differs (sym (ap (λ l. l.reference) same))

-- where neither stands, the opposite doesn't stand once the link came
pub opposite_fresh : (meta : Metamodel) → IsSound meta → (g : Model) (link back : Link) → NoneStands meta g link → link_back meta link ≡ Some back
    → (links : List Link) → links ≡ insert_key link_order g.links link → Contains links back → ⊥
opposite_fresh meta sound g link back none at links is there = elim (Contains-insert_key_cases link_order link g.links back (subst (λ ls. Contains ls back) is there)) [
  | inl old ↦ none.opposite back at old
  | inr same ↦ link_back_differs meta sound link back at same
]

module _ (meta : Metamodel) (sound : IsSound meta) (g : Model) (valid : IsValid meta g) where
  -- ---- what stands

  -- where a link stands, so does its opposite
  pub Comes-stands : (link : Link) → Contains g.links link → (x : Link) → Comes meta link x → Contains g.links x
  Comes-stands link there x (inl is) = subst (Contains g.links) is there
  Comes-stands link there x (inr at) = All-contains (HasItsOpposite meta g) g.links link valid.opposites there x at

  -- where the one of two opposites stands, so does the other
  pub Comes-stood : (link : Link) (x : Link) → Comes meta link x → Contains g.links x → Contains g.links link
  Comes-stood link x (inl is) there = subst (Contains g.links) (sym is) there
  Comes-stood link x (inr at) there = All-contains (HasItsOpposite meta g) g.links x valid.opposites there link (IsBack-link_back meta sound link x at).forth

  -- where a link doesn't stand, neither does its opposite
  pub none_stands : (link : Link) → (Contains g.links link → ⊥) → NoneStands meta g link
  none_stands link none = record { itself = none; opposite = λ back at there. none (Comes-stood link back (inr at) there) }

  -- where the link that is asked for doesn't stand, neither does what is made
  pub none_stands_oriented : (link : Link) → stands g link ≡ false → NoneStands meta g (oriented meta link)
  none_stands_oriented link new = none_stands (oriented meta link) (λ there. not_listed g.links link new (Comes-stands (oriented meta link) there link (Comes-oriented meta sound link)))

  -- ---- both ends

  -- what comes fits, where the link that is asked for does
  pub fits_comes : (link : Link) → FitsReference meta g.live link → (x : Link) → Comes meta link x → FitsReference meta g.live x
  fits_comes link fits x (inl is) = subst (FitsReference meta g.live) is fits
  fits_comes link fits x (inr at) = FitsReference-link_back meta sound g.live link x fits at

  pub fits_oriented : (link : Link) → FitsReference meta g.live link → FitsReference meta g.live (oriented meta link)
  fits_oriented link fits = oriented-either meta (FitsReference meta g.live) link fits (λ back at. FitsReference-link_back meta sound g.live link back fits at)

-- ---- what stands is none of what comes

module _ (meta : Metamodel) (g : Model) (new : Link) (none : NoneStands meta g new) where
  pub comes_anew : (x : Link) → Comes meta new x → Contains g.links x → ⊥
  comes_anew x (inl is) there = none.itself (subst (Contains g.links) (sym is) there)
  comes_anew x (inr at) there = none.opposite x at there

  pub stands_differs : (old x : Link) → Contains g.links old → Comes meta new x → is_link x old ≡ false
  stands_differs old x there comes = is_link-differs x old (λ same. comes_anew x comes (subst (Contains g.links) (sym same) there))

-- ---- the model afterwards

-- nothing changes where the link stands
pub linked_stands : (meta : Metamodel) (g : Model) (link : Link) → stands g link ≡ true → linked meta g link ≡ g
linked_stands meta g link there = rw there refl

-- else what is made comes, and what it displaces goes
pub linked_new : (meta : Metamodel) (g : Model) (link : Link) → stands g link ≡ false → linked meta g link ≡ relinked meta g (oriented meta link)
linked_new meta g link new = rw new refl
