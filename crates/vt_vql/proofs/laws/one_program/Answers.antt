use Rattle.vt_vql.proofs.FileLemmas.{same_program}
use Rattle.vt_vql.proofs.laws.one_program.Goals as goal

pub returns : goal.returns
returns c = same_program c.one_list.ensures c.one_tree.ensures
