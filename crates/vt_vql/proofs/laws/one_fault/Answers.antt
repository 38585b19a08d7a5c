use Rattle.vt_vql.proofs.FileLemmas.{same_fault}
use Rattle.vt_vql.proofs.laws.one_fault.Goals as goal

pub returns : goal.returns
returns c = same_fault c.one_bad_line.ensures c.bad_spells_nothing.ensures
