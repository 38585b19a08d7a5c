use Rattle.std.proofs.Common.{◌≡◌, ◌∙◌, [], ◌∷◌, sym, ap, subst, rules}
use Rattle.std.specs.Prelude.{not}
use Rattle.std.proofs.lemmas.Result.{IfOk-weaker}
use Rattle.vt_facts.specs.Names.{is_distinct}
use Rattle.vt_meta.specs.Faults.{has_clash}
use Rattle.vt_model.specs.Above.{class_id, AreThere, IsAbove}
use Rattle.vt_meta.specs.Inside.Features.{names_at_each}
use Rattle.vt_meta.proofs.SupersLemmas.{there_supers}
use Rattle.vt_meta.proofs.ClashLemmas.{clash}
use Rattle.vt_meta.proofs.clashes.names_above.Goals as goal

pub classes_above-requires-clause-supers : goal.classes_above-requires-clause-supers
classes_above-requires-clause-supers c = subst AreThere (sym c.requires.supers) (there_supers c.args.document.now)

pub returns : goal.returns
returns c =
    let document = c.args.document.now in
    let keys = c.in_ok-above.above.keys in
    let above : IsAbove c.args.supers.now (c.args.class ∷ []) keys = search rules in
    let classes = c.as_slice.result.now in
    let places = c.as_slice-2.result.now in
    IfOk-weaker c.names_at_each.result (λ names. names ≡ names_at_each classes places) (λ names. not (is_distinct names) ≡ has_clash document (class_id c.args.class))
    (λ names is.
    ap (λ l. not (is_distinct l)) (is ∙ ap (λ classes. names_at_each classes places) c.as_slice.ensures ∙ ap (names_at_each document.classes) c.as_slice-2.ensures.keys)
    ∙ clash document c.args.supers.now c.args.class keys c.requires.supers above)
    c.names_at_each.ensures
