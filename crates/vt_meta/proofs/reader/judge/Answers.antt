use Rattle.std.proofs.Common.{◌≡◌, Some, Err, rules, subst, sym}
use Rattle.std.specs.Prelude.{IfErr}
use Rattle.vt_meta.specs.Faults.{first_fault}
use Rattle.vt_meta.specs.Reading.{judged, IsFaultOf}
use Rattle.vt_meta.specs.Built.{metamodel_of}
use Rattle.vt_meta.specs.Inside.Refused.{IsFaultIn}
use Rattle.vt_meta.proofs.Sound.{sound_document}
use Rattle.vt_meta.proofs.reader.judge.Goals as goal

-- a document without a fault has a sound metamodel
pub build-requires-clause-sound : goal.build-requires-clause-sound
build-requires-clause-sound c =
    sound_document c.in_ok-resolved.resolved.document c.args.document c.in_ok-resolved.ensures c.requires.literals c.in_ok-check.ensures.passes

pub returns-in_err-check-clause-refused : goal.returns-in_err-check-clause-refused
returns-in_err-check-clause-refused c =
    let document = c.args.document in
    let same : c.in_ok-resolved.resolved.document ≡ document = c.in_ok-resolved.ensures in
    let fault : IsFaultIn c.in_err-check.field-0.0 (first_fault document) = subst (λ d. IsFaultIn c.in_err-check.field-0.0 (first_fault d)) same c.in_err-check.ensures.refused in
    let is : c.from_residual-in_err-check.result ≡ Err c.in_err-check.field-0.0 = search rules in
    subst (λ r. IfErr r (λ fault. IsFaultOf fault (judged (Some document)))) (sym is) (fault (metamodel_of document))
