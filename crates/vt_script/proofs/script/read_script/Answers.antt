use Rattle.std.proofs.Common.{◌≡◌, IfErr, Err, sym, subst, rules}
use Rattle.vt_script.specs.Script.{script_of, IsFaultOf}
use Rattle.vt_script.proofs.ScriptLemmas.{no_text, bad_line, extra_line, accepted}
use Rattle.vt_script.proofs.script.read_script.Goals as goal

-- the bytes are no text
pub returns-in_default-clause-refused : goal.returns-in_default-clause-refused
returns-in_default-clause-refused c = no_text c.args.bytes.now c.in_default.ensures.cases.0

-- a line is no command
pub returns-in_err-lines-clause-refused : goal.returns-in_err-lines-clause-refused
returns-in_err-lines-clause-refused c =
    let is : c.from_residual.result ≡ Err c.in_err-lines.field-0.0 = search rules in
    subst (λ r. IfErr r (λ fault. IsFaultOf fault (script_of c.args.bytes.now))) (sym is)
    (bad_line c.args.bytes.now c.in-Ok.text.now c.in_err-lines.field-0.0 c.in-Ok.ensures.cases.0 c.in-Ok.ensures.cases.1 c.in_err-lines.ensures.refused)

-- all are commands, and there is one too many
pub returns-in-Some-clause-refused : goal.returns-in-Some-clause-refused
returns-in-Some-clause-refused c =
    extra_line c.args.bytes.now c.in-Ok.text.now c.in_ok-lines.lines c.in-Some.line c.in-Ok.ensures.cases.0 c.in-Ok.ensures.cases.1 (search rules) (search rules)

-- or none
pub returns-in-None-clause-accepted : goal.returns-in-None-clause-accepted
returns-in-None-clause-accepted c =
    accepted c.args.bytes.now c.in-Ok.text.now c.in_ok-lines.lines c.in-Ok.ensures.cases.0 c.in-Ok.ensures.cases.1 (search rules) (search rules)
