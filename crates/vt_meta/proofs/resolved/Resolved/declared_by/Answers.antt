use Rattle.std.proofs.Common.{◌≡◌, ◌∙◌, sym, ap, slice_get, position, Some, rules}
use Rattle.std.specs.Prelude.{option_and_then}
use Rattle.vt_facts.specs.Names.{is_name}
use Rattle.vt_meta.specs.declared.document.ClassDocument.{ClassDocument}
use Rattle.vt_meta.proofs.ResolvedLemmas.{declared_some}
use Rattle.vt_meta.proofs.resolved.Resolved.declared_by.Goals as goal

pub returns : goal.returns
returns c =
    let document = c.args.self.now.document in
    let class = c.args.class in
    let name = c.args.name.now in
    let i = c.in_ok-place.place in
    let place : option_and_then (λ c. position (λ r. is_name r.name name) c.references) (slice_get document.classes class) ≡ Some i = search rules in
    let there : slice_get document.classes class ≡ Some c.in_ok-get.field-0.now = search rules in
    c.get-2.ensures ∙ sym (declared_some document class name i place ∙ ap (option_and_then (λ (c : ClassDocument). slice_get c.references i)) there)
