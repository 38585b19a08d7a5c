use Rattle.std.proofs.Common.{is_some, ap, ◌∙◌}
use Rattle.vt_base.specs.Rows.{has_row}
use Rattle.vt_memory.specs.Keyed.{Keyed}
use Rattle.vt_memory.proofs.IndexLemmas.{has-by_key}
use Rattle.vt_memory.proofs.memory.Memory.has.Goals as goal

pub returns : goal.returns
returns c =
    c.is_some.ensures ∙ ap is_some c.key_of.ensures
    ∙ has-by_key c.self.inside.slab c.self.inside.whole c.args.row.now c.self.invariant.by_row
    ∙ ap (λ (seen : Keyed). has_row seen.rows c.args.row.now) c.self.view_is
