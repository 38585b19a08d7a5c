use Rattle.std.proofs.Common.{subst}
use Rattle.std.specs.Prelude.{IfOk}
use Rattle.vt_cli.specs.Result.{IsDueToTexts}
use Rattle.vt_cli.specs.Inside.Prepared.{AreFetched}
use Rattle.vt_cli.specs.Inside.Begun.{ComesTo}
use Rattle.vt_cli.specs.Inside.Seen.{seen}
use Rattle.vt_cli.specs.declared.ending.Outcome.{Outcome}
use Rattle.vt_cli.proofs.PlanLemmas.{all_planned}
use Rattle.vt_cli.proofs.outcome.fetch_and_answer.Goals as goal

-- all files were fetched
pub returns-in-Ok-clause-prepared : goal.returns-in-Ok-clause-prepared
returns-in-Ok-clause-prepared g c =
    let command = seen c.args.command.now in
    let told = g.S.Shelf.files c.args.shelf.now in
    let before = g.S.Shelf.faults c.args.shelf.now in
    let now = g.S.Shelf.faults c.fetch_files.new.shelf in
    all_planned command told before now c.in-Ok.texts (g.S.Shelf.failed c.fetch_files.new.shelf) c.answer.result
    (subst (λ got. IfOk got (λ texts. AreFetched command.files told before now texts)) c.in-Ok.is c.in_ok-texts.ensures.fetched)
    (subst (λ texts. IfOk c.answer.result (λ prepared. (outcome : Outcome) → ComesTo prepared outcome → IsDueToTexts command.task texts outcome)) c.as_slice.ensures c.answer.ensures.due)
    c.answer.ensures.suits
