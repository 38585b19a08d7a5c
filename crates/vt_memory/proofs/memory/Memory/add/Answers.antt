use Rattle.std.proofs.Common.{◌≡◌, false, map, sym, ap, ◌∙◌, subst, arith}
use Rattle.vt_sorted.specs.Ascending.{with_item}
use Rattle.vt_base.specs.Order.{tuple_cmp}
use Rattle.vt_base.specs.Rows.{has_row}
use Rattle.vt_memory.specs.Keyed.{Keyed}
use Rattle.vt_memory.specs.Inside.Chains.{with_key}
use Rattle.vt_memory.specs.Inside.Numbers.{number_of}
use Rattle.vt_memory.specs.Inside.Indexed.{rows_of, IsSound, with_entry}
use Rattle.vt_memory.specs.declared.index.Index.{Index}
use Rattle.vt_memory.proofs.SetLemmas.{Some-injective, rows_of-added}
use Rattle.vt_memory.proofs.IndexLemmas.{can_take, columns-with, IsSound-with}
use Rattle.vt_memory.proofs.memory.Memory.add.Goals as goal

pub put_all-requires : goal.put_all-requires
put_all-requires c =
    let v = c.self.inside in
    let e = c.insert_reserved-key.ensures in
    can_take v.slab v.indexes.items c.insert_reserved-key.result c.self.invariant.by_key e.was_vacant (omega (arith, e.key_in_range, e.capacity))

pub invariant_of-self : goal.invariant_of-self
invariant_of-self c =
    let v = c.self.inside in
    let k = c.insert_reserved-key.result in
    let e = c.insert_reserved-key.ensures in
    let P : Keyed → Type 0 = λ seen. has_row seen.rows c.args.row ≡ false in
    let absent : has_row (rows_of v.slab) c.args.row ≡ false = subst P (sym c.self.view_is) c.requires.absent in
    let number : c.number_of-number.result ≡ number_of c.args.row = c.number_of-number.ensures ∙ ap number_of c.as_slice.ensures in
    let chains : c.push.new.self.chains ≡ with_key v.whole.chains (number_of c.args.row) k = c.push.ensures.chains ∙ ap (λ n. with_key v.whole.chains n k) number in
    let same : c.index.result.now ≡ c.args.row = Some-injective c.index.result.now c.args.row (sym c.index.ensures ∙ e.updates.changed) in
    let indexes : c.put_all.new.indexes.items ≡ map (with_entry k c.args.row) v.indexes.items = c.put_all.ensures ∙ ap (λ r. map (with_entry k r) v.indexes.items) same in
    subst (IsSound c.insert_reserved-key.new.self c.push.new.self) (sym indexes)
    (IsSound-with v.slab c.insert_reserved-key.new.self v.whole c.push.new.self v.indexes.items k c.args.row c.self.invariant absent e.capacity e.was_vacant e.updates chains c.push.ensures.reach)

pub returns-clause-rows : goal.returns-clause-rows
returns-clause-rows c =
    let e = c.insert_reserved-key.ensures in
    rows_of-added c.self.inside.slab c.insert_reserved-key.new.self c.insert_reserved-key.result c.args.row e.was_vacant e.updates
    ∙ ap (λ (seen : Keyed). with_item tuple_cmp seen.rows c.args.row) c.self.view_is

pub returns-clause-keys : goal.returns-clause-keys
returns-clause-keys c =
    ap (map (λ (index : Index). index.columns)) c.put_all.ensures
    ∙ columns-with c.insert_reserved-key.result c.index.result.now c.self.inside.indexes.items
    ∙ ap (λ (seen : Keyed). seen.keys) c.self.view_is
