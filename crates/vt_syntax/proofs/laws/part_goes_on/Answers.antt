use Rattle.vt_syntax.specs.Rules.{file}
use Rattle.vt_syntax.proofs.PartLemmas.{goes_on, is_part}
use Rattle.vt_syntax.proofs.laws.part_goes_on.Goals as goal

pub returns : goal.returns
returns c ls = (goes_on file ls, is_part file ls)
