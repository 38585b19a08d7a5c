use Rattle.std.proofs.Common.{ap, ◌∙◌}
use Rattle.vt_sorted.specs.Inside.Pieces.{joined}
use Rattle.vt_sorted.proofs.ChunkLemmas.{joined-behind}
use Rattle.vt_sorted.proofs.chunks.Chunks.into_vec.Goals as goal

pub returns : goal.returns
returns g c = joined-behind c.self.inside.used c.self.inside.all.items c.self.invariant ∙ ap (λ v. joined v.items) c.self.view_is
