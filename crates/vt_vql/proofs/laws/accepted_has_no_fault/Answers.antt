use Rattle.vt_vql.proofs.FileLemmas.{no_fault}
use Rattle.vt_vql.proofs.laws.accepted_has_no_fault.Goals as goal

pub returns : goal.returns
returns c = no_fault c.one_list.ensures c.bad_spells_nothing.ensures
