use Rattle.std.proofs.Common.{sym, subst}
use Rattle.vt_model.specs.Sound.{IsSound}
use Rattle.vt_model.specs.Valid.{IsValid}
use Rattle.vt_graph.specs.Held.{Held}
use Rattle.vt_store.proofs.StoreLemmas.{valid_empty}
use Rattle.vt_store.proofs.store.Store.new.Goals as goal

-- the empty model is valid
pub invariant_of-result : goal.invariant_of-result
invariant_of-result c = subst (λ (s : Held). IsSound s.meta × IsValid s.meta s.model) (sym c.in_ok-graph.ensures) (c.is_sound.ensures, valid_empty c.args.meta.now)
