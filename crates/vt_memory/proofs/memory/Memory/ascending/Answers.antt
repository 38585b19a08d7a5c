use Rattle.std.proofs.Common.{subst}
use Rattle.vt_base.specs.Rows.{Ascends}
use Rattle.vt_memory.specs.Keyed.{Keyed}
use Rattle.vt_memory.proofs.SetLemmas.{Ascends-rows_of}
use Rattle.vt_memory.proofs.memory.Memory.ascending.Goals as goal

pub returns : goal.returns
returns c = let P : Keyed → Type 0 = λ seen. Ascends seen.rows in subst P c.self.view_is (Ascends-rows_of c.self.inside.slab)
