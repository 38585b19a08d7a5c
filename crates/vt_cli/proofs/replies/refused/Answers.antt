use Rattle.std.proofs.Common.{◌∙◌, sym, subst}
use Rattle.std.specs.Prelude.{IfOk}
use Rattle.vt_cli.specs.Inside.Begun.{Denies}
use Rattle.vt_cli.proofs.ReplyLemmas.{says_refused}
use Rattle.vt_cli.proofs.replies.refused.Goals as goal

-- the place and the reason of a refused change
pub returns-in_ok-what-in-Refused : goal.returns-in_ok-what-in-Refused
returns-in_ok-what-in-Refused c =
    subst (λ fault. IfOk c.told-in-Refused.result (λ text. Denies fault c.args.word.now c.args.name.now text)) (sym c.in-Refused.is)
    (says_refused c.told-in-Refused.result c.in-Refused.at c.in-Refused.why c.args.word.now c.args.name.now c.as_str.result.now
    (c.as_str.ensures.value ∙ c.in_ok-what-in-Refused.ensures) c.told-in-Refused.ensures)
