use Rattle.vt_model.proofs.IsaLemmas.{isa-path, isa-itself, isa-trans}
use Rattle.vt_model.proofs.laws.isa_is_a_path.Goals as goal

pub returns-clause-path : goal.returns-clause-path
returns-clause-path c = isa-path c.args.meta.now c.is_sound.ensures

pub returns-clause-reflexive : goal.returns-clause-reflexive
returns-clause-reflexive c = isa-itself c.args.meta.now c.is_sound.ensures

pub returns-clause-transitive : goal.returns-clause-transitive
returns-clause-transitive c = isa-trans c.args.meta.now c.is_sound.ensures
