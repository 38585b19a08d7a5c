use Rattle.std.proofs.Common.{arith}
use Rattle.std.proofs.lemmas.Str.Pattern.{split_once_first}
use Rattle.vt_script.proofs.WordLemmas.{cut_is}
use Rattle.vt_script.proofs.words.split.Goals as goal

pub returns : goal.returns
returns c = cut_is c.args.line.now c.split_once.result (split_once_first 32 c.args.line.now c.split_once.result c.split_once.ensures.cases (omega arith))
