use Rattle.vt_model.proofs.Valid.Sides.{LinkSide-valid}
use Rattle.vt_model.proofs.Valid.Containment.{is_inside-iff}
use Rattle.vt_model.proofs.laws.inside_is_a_path.Goals as goal

pub returns : goal.returns
returns c = λ meta g o outer valid. is_inside-iff meta g (LinkSide-valid meta g valid) o outer
