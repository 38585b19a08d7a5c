use Rattle.std.proofs.Common.{map, sym, ap, ◌∙◌, subst, arith}
use Rattle.vt_memory.specs.Inside.Indexed.{IsSound}
use Rattle.vt_memory.specs.declared.index.Index.{Index}
use Rattle.vt_memory.proofs.IndexLemmas.{IsSound-none, columns-empty}
use Rattle.vt_memory.proofs.memory.Memory.with_places.Goals as goal

pub invariant_of-result : goal.invariant_of-result
invariant_of-result c =
    let slab = c.in_ok-slab.slab in
    let whole = c.in_ok-whole.whole in
    let reach = c.capacity-reach.result in
    subst (IsSound slab whole) (sym c.in_ok-indexes.ensures)
    (IsSound-none slab c.args.places reach c.args.keys.items whole c.in_ok-slab.ensures.empty c.requires (omega (arith, c.capacity-reach.ensures.value)) c.in_ok-whole.ensures.chains c.in_ok-whole.ensures.reach)

pub returns-clause-keys : goal.returns-clause-keys
returns-clause-keys c =
    ap (map (λ (index : Index). index.columns)) c.in_ok-indexes.ensures ∙ columns-empty c.args.places c.capacity-reach.result c.args.keys.items
