-- The links after a change linked two objects, unless they were linked.
use Rattle.std.proofs.Common.{◌≡◌, Bool, true, false, not, inl, inr}
use Rattle.std.specs.Prelude.{◌&&◌, if◌then◌else◌}
use Rattle.std.proofs.lemmas.Bool.{both_ways, and_cases}
use Rattle.vt_model.specs.Metamodel.{Metamodel}
use Rattle.vt_model.specs.Model.{Model}
use Rattle.vt_model.specs.Linking.{is_containment, stands, oriented, relinked, linked}
use Rattle.vt_model.specs.Containing.{is_inside, is_circular, closes_cycle}
use Rattle.vt_model.specs.Fits.{FitsReference}
use Rattle.vt_model.specs.Sound.{IsSound}
use Rattle.vt_model.specs.declared.model.Link.{Link}
use Rattle.vt_model.proofs.Valid.Sides.{LinkSide}
use Rattle.vt_model.proofs.Valid.Backs.{FitsReference-link_back, oriented-either, is_containment-back}
use Rattle.vt_model.proofs.Valid.Relinked.{IsLinkable, LinkSide-relinked}

module _ (meta : Metamodel) (sound : IsSound meta) (g : Model) (link : Link) where
  -- a link that isn't circular doesn't lead into its own target
  outside-circular : (new : Link) → is_circular meta g new ≡ false → is_containment meta new.reference ≡ true → is_inside meta g new.source new.target ≡ false
  outside-circular new straight contains = elim (and_cases (is_containment meta new.reference) (is_inside meta g new.source new.target) straight) [
    | inl plain ↦ absurd (both_ways (is_containment meta new.reference) plain contains)
    | inr outside ↦ outside
  ]

  -- a link that closes no cycle can be made
  IsLinkable-oriented : FitsReference meta g.live link → is_circular meta g (oriented meta link) ≡ false → IsLinkable meta g (oriented meta link)
  IsLinkable-oriented fits straight = record {
    fits = oriented-either meta (FitsReference meta g.live) link fits (λ back at. FitsReference-link_back meta sound g.live link back fits at);
    plain_back = is_containment-back meta sound link;
    no_circle = outside-circular (oriented meta link) straight;
  }

  -- what a model keeps of its links it keeps: nothing changes where the link stands
  pub LinkSide-linked : LinkSide meta g → FitsReference meta g.live link → closes_cycle meta g link ≡ false → LinkSide meta (linked meta g link)
  LinkSide-linked side fits closes = by (stands g link) closes
    where
      by : (b : Bool) → (not b && is_circular meta g (oriented meta link)) ≡ false → LinkSide meta (if b then g else relinked meta g (oriented meta link))
      by true closes = side
      by false closes = LinkSide-relinked meta sound g side (oriented meta link) (IsLinkable-oriented fits closes)
