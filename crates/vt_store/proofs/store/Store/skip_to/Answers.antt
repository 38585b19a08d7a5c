use Rattle.std.proofs.Common.{◌≤◌, sym, subst}
use Rattle.vt_graph.specs.Held.{Held}
use Rattle.vt_store.proofs.StoreLemmas.{valid_after}
use Rattle.vt_store.proofs.store.Store.skip_to.Goals as goal

-- the model stays valid
pub invariant_of-self : goal.invariant_of-self
invariant_of-self c =
    valid_after c.self.inside.graph c.set_next.new.self c.args.number c.self.invariant c.set_next.ensures.meta c.set_next.ensures.next
    (subst (λ (s : Held). s.model.next ≤ c.args.number) (sym c.self.view_is) c.requires.above) c.requires.in_range
