-- The links after a link and its opposite went.
use Rattle.std.proofs.Common.{refl, ap, ◌∙◌, false, not}
use Rattle.std.specs.Prelude.{◌||◌}
use Rattle.std.specs.Option.{option_map_or}
use Rattle.std.proofs.lemmas.List.Elements.{All-contains}
use Rattle.vt_model.specs.Metamodel.{Metamodel}
use Rattle.vt_model.specs.Model.{Model}
use Rattle.vt_model.specs.Linking.{is_link, link_back, unlinked}
use Rattle.vt_model.specs.Fits.{FitsReference}
use Rattle.vt_model.specs.Sound.{IsSound}
use Rattle.vt_model.specs.declared.model.Link.{Link}
use Rattle.vt_model.proofs.Valid.Sides.{LinkSide}
use Rattle.vt_model.proofs.Valid.Backs.{either_way}
use Rattle.vt_model.proofs.Valid.FewerLinks.{LinkSide-filter}

-- what a model keeps of its links it keeps: a link goes exactly where its opposite does
pub LinkSide-unlinked : (meta : Metamodel) → IsSound meta → (g : Model) → LinkSide meta g → (link : Link) → LinkSide meta (unlinked meta g link)
LinkSide-unlinked meta sound g side link = LinkSide-filter meta g (unlinked meta g link) side
    (λ old. not (is_link link old || option_map_or (is_link link) (link_back meta old) false)) refl
    (λ old there _. All-contains (FitsReference meta g.live) g.links old side.links_fit there)
    (λ old back at stays. ap not (either_way meta sound (is_link link) old back at) ∙ stays)
