use Rattle.vt_syntax.proofs.PartLemmas.{read_longest}
use Rattle.vt_syntax.proofs.laws.balanced_is_longest.Goals as goal

pub returns : goal.returns
returns c = read_longest
