-- The links after an object went with all that is in it.
use Rattle.std.proofs.Common.{◌≡◌, refl, ap, ap₂, ◌∙◌, Bool, true, false, not}
use Rattle.std.specs.Prelude.{◌||◌, Contains, Some}
use Rattle.std.proofs.lemmas.Bool.{not-true, or_parts, not_from_false}
use Rattle.std.proofs.lemmas.List.Elements.{All-contains}
use Rattle.vt_base.specs.declared.numbers.ObjId.{ObjId}
use Rattle.vt_model.specs.Metamodel.{Metamodel}
use Rattle.vt_model.specs.Model.{Model}
use Rattle.vt_model.specs.Linking.{link_back}
use Rattle.vt_model.specs.Containing.{is_inside}
use Rattle.vt_model.specs.Deleting.{deleted}
use Rattle.vt_model.specs.Fits.{FitsReference}
use Rattle.vt_model.specs.Sound.{IsSound}
use Rattle.vt_model.specs.declared.model.Object.{Object}
use Rattle.vt_model.specs.declared.model.Link.{Link}
use Rattle.vt_facts.proofs.MemberLemmas.{Contains-filter}
use Rattle.vt_model.proofs.Valid.Sides.{LinkSide}
use Rattle.vt_model.proofs.Valid.Backs.{or_swap, IsBack-link_back}
use Rattle.vt_model.proofs.Valid.FewerLinks.{FitsReference-stays, LinkSide-filter}

module _ (meta : Metamodel) (g : Model) (o : ObjId) where
  -- the link touches what goes
  abbrev touches : Link → Bool
  touches link = is_inside meta g link.source o || is_inside meta g link.target o

  -- an object that isn't inside stays
  stays-outside : (n : ObjId) → is_inside meta g n o ≡ false → (x : Object) → x.number ≡ n → Contains g.live x → Contains (deleted meta g o).live x
  stays-outside n outside x is there =
      Contains-filter (λ y. not (is_inside meta g y.number o)) g.live x there (not_from_false (is_inside meta g x.number o) (ap (λ m. is_inside meta g m o) is ∙ outside))

  -- both ends of a link that touches nothing that goes stay
  fits-untouched : LinkSide meta g → (link : Link) → Contains g.links link → not (touches link) ≡ true → FitsReference meta (deleted meta g o).live link
  fits-untouched side link there kept =
      let outside = or_parts (is_inside meta g link.source o) (is_inside meta g link.target o) (not-true (touches link) kept) in
      FitsReference-stays meta g.live (deleted meta g o).live link (stays-outside link.source outside.0) (stays-outside link.target outside.1)
      (All-contains (FitsReference meta g.live) g.links link side.links_fit there)

  -- a link touches what its opposite does
  touches-link_back : IsSound meta → (link back : Link) → link_back meta link ≡ Some back → touches back ≡ touches link
  touches-link_back sound link back at =
      let is = IsBack-link_back meta sound link back at in
      ap₂ (λ s t. is_inside meta g s o || is_inside meta g t o) is.source is.target ∙ or_swap (is_inside meta g link.target o) (is_inside meta g link.source o)

  -- what a model keeps of its links it keeps through a deletion
  pub LinkSide-deleted : IsSound meta → LinkSide meta g → LinkSide meta (deleted meta g o)
  LinkSide-deleted sound side = LinkSide-filter meta g (deleted meta g o) side (λ link. not (touches link)) refl
      (fits-untouched side) (λ link back at kept. ap not (touches-link_back sound link back at) ∙ kept)
