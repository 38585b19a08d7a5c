use Rattle.std.proofs.Common.{◌<◌, length, get_or, refl, sym, ◌∙◌, arith}
use Rattle.vt_memory.proofs.ChainLemmas.{path_step}
use Rattle.vt_memory.proofs.chains.Walk.next.Goals as goal

pub invariant_of-self : goal.invariant_of-self
invariant_of-self c =
    let next = c.self.inside.next.now in
    let inside : c.self.inside.at < length next = omega arith in
    (path_step next c.self.inside.at (get_or next c.self.inside.at 0) c.self.invariant inside refl).1

pub returns : goal.returns
returns c =
    let next = c.self.inside.next.now in
    let inside : c.self.inside.at < length next = omega arith in
    sym c.self.view_is ∙ (path_step next c.self.inside.at (get_or next c.self.inside.at 0) c.self.invariant inside refl).0
