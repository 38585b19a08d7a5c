use Rattle.vt_meta.proofs.SupersLemmas.{above_itself-IsOnCycle}
use Rattle.vt_meta.proofs.laws.super_cycle_is_a_path.Goals as goal

pub returns : goal.returns
returns c = above_itself-IsOnCycle
