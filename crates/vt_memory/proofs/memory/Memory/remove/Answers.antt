use Rattle.std.proofs.Common.{◌≡◌, false, Some, None, is_some, map, sym, ap, ◌∙◌, subst, arith}
use Rattle.slab.specs.Slab.{get}
use Rattle.vt_sorted.specs.Ascending.{without_item}
use Rattle.vt_base.specs.Order.{tuple_cmp}
use Rattle.vt_base.specs.Rows.{has_row}
use Rattle.vt_memory.specs.Keyed.{Keyed}
use Rattle.vt_memory.specs.Inside.Chains.{times, chain_at, without_key}
use Rattle.vt_memory.specs.Inside.Numbers.{number_of}
use Rattle.vt_memory.specs.Inside.Indexed.{rows_of, IsSound, key_among}
use Rattle.vt_memory.specs.declared.index.Index.{Index}
use Rattle.vt_memory.proofs.SetLemmas.{Ascends-rows_of, absent_stays, rows_of-removed, stands_from}
use Rattle.vt_memory.proofs.IndexLemmas.{in_chain, has_entry, columns-without, IsSound-without, key_found, has-by_key}
use Rattle.vt_memory.proofs.memory.Memory.remove.Goals as goal

pub take-requires : goal.take-requires
take-requires g c =
    let v = c.self.inside in
    let row = c.args.row.now in
    let found : get v.slab c.in-Some.key ≡ Some row = key_found v.slab row (chain_at v.whole.chains (number_of row)) c.in-Some.key (sym c.key_of.ensures ∙ c.in-Some.is) in
    let number : c.number_of.result ≡ number_of row = c.number_of.ensures ∙ ap number_of c.as_slice.ensures in
    omega (arith, ap (λ n. times c.in-Some.key (chain_at v.whole.chains n)) number, in_chain number_of v.slab v.whole c.self.invariant.by_row c.in-Some.key row found)

pub take_all-requires : goal.take_all-requires
take_all-requires g c =
    let v = c.self.inside in
    let row = c.args.row.now in
    let found : get v.slab c.in-Some.key ≡ Some row = key_found v.slab row (chain_at v.whole.chains (number_of row)) c.in-Some.key (sym c.key_of.ensures ∙ c.in-Some.is) in
    has_entry v.slab v.indexes.items c.in-Some.key row c.self.invariant.by_key found

pub remove-requires : goal.remove-requires
remove-requires g c =
    let v = c.self.inside in
    let row = c.args.row.now in
    let found : get v.slab c.in-Some.key ≡ Some row = key_found v.slab row (chain_at v.whole.chains (number_of row)) c.in-Some.key (sym c.key_of.ensures ∙ c.in-Some.is) in
    ap is_some found

pub invariant_of-self : goal.invariant_of-self
invariant_of-self g c =
    let v = c.self.inside in
    let row = c.args.row.now in
    let found : get v.slab c.in-Some.key ≡ Some row = key_found v.slab row (chain_at v.whole.chains (number_of row)) c.in-Some.key (sym c.key_of.ensures ∙ c.in-Some.is) in
    let number : c.number_of.result ≡ number_of row = c.number_of.ensures ∙ ap number_of c.as_slice.ensures in
    let chains : c.take.new.self.chains ≡ without_key v.whole.chains (number_of row) c.in-Some.key = c.take.ensures.chains ∙ ap (λ n. without_key v.whole.chains n c.in-Some.key) number in
    subst (IsSound c.remove.new.self c.take.new.self) (sym c.take_all.ensures)
    (IsSound-without v.slab c.remove.new.self v.whole c.take.new.self v.indexes.items c.in-Some.key row c.self.invariant c.remove.ensures.capacity found c.remove.ensures.updates chains c.take.ensures.reach)

pub returns-in-Some-clause-rows : goal.returns-in-Some-clause-rows
returns-in-Some-clause-rows g c =
    let v = c.self.inside in
    let row = c.args.row.now in
    let found : get v.slab c.in-Some.key ≡ Some row = key_found v.slab row (chain_at v.whole.chains (number_of row)) c.in-Some.key (sym c.key_of.ensures ∙ c.in-Some.is) in
    rows_of-removed v.slab c.remove.new.self c.in-Some.key row c.self.invariant.alone found c.remove.ensures.updates
    ∙ ap (λ (seen : Keyed). without_item tuple_cmp seen.rows row) c.self.view_is

pub returns-in-Some-clause-stood : goal.returns-in-Some-clause-stood
returns-in-Some-clause-stood g c =
    let v = c.self.inside in
    let row = c.args.row.now in
    let found : get v.slab c.in-Some.key ≡ Some row = key_found v.slab row (chain_at v.whole.chains (number_of row)) c.in-Some.key (sym c.key_of.ensures ∙ c.in-Some.is) in
    sym (stands_from v.slab c.in-Some.key row found) ∙ ap (λ (seen : Keyed). has_row seen.rows row) c.self.view_is

pub returns-in-Some-clause-keys : goal.returns-in-Some-clause-keys
returns-in-Some-clause-keys g c =
    ap (map (λ (index : Index). index.columns)) c.take_all.ensures
    ∙ columns-without c.in-Some.key c.args.row.now c.self.inside.indexes.items
    ∙ ap (λ (seen : Keyed). seen.keys) c.self.view_is

pub returns-in-None-clause-rows : goal.returns-in-None-clause-rows
returns-in-None-clause-rows g c =
    let v = c.self.inside in
    let row = c.args.row.now in
    let none : key_among v.slab row (chain_at v.whole.chains (number_of row)) ≡ None = sym c.key_of.ensures ∙ c.in-None.is in
    let absent : has_row (rows_of v.slab) row ≡ false = sym (has-by_key v.slab v.whole row c.self.invariant.by_row) ∙ ap is_some none in
    let P : Keyed → Type 0 = λ seen. seen.rows ≡ without_item tuple_cmp seen.rows row in
    subst P c.self.view_is (sym (absent_stays (rows_of v.slab) row (Ascends-rows_of v.slab) absent))

pub returns-in-None-clause-stood : goal.returns-in-None-clause-stood
returns-in-None-clause-stood g c =
    let v = c.self.inside in
    let row = c.args.row.now in
    let none : key_among v.slab row (chain_at v.whole.chains (number_of row)) ≡ None = sym c.key_of.ensures ∙ c.in-None.is in
    let absent : has_row (rows_of v.slab) row ≡ false = sym (has-by_key v.slab v.whole row c.self.invariant.by_row) ∙ ap is_some none in
    sym absent ∙ ap (λ (seen : Keyed). has_row seen.rows row) c.self.view_is
