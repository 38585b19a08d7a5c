use Rattle.std.proofs.Common.{◌≡◌, ◌<◌, length, get_or, ap, ◌∙◌, arith}
use Rattle.std.proofs.lemmas.List.{length-set}
use Rattle.vt_memory.specs.Inside.Indexed.{with_entry}
use Rattle.vt_memory.proofs.IndexLemmas.{changed_one}
use Rattle.vt_memory.proofs.index.put_all.Goals as goal

pub loop-i-preserved : goal.loop-i-preserved
loop-i-preserved c =
    let old = c.args.indexes.now.items in
    let xs = c.loop-i.indexes.items in
    let was = c.index_mut.result.now in
    let inv = c.loop-i.invariant in
    let inside : c.loop-i.i < length old = omega (arith, c.loop-i-test.true, c.loop-i.auto.i-end, c.len-i-end.ensures, c.args.indexes.now.ok.0) in
    let is : c.put.new.index ≡ with_entry c.args.key c.args.row.now (get_or xs c.loop-i.i was) = c.put.ensures ∙ ap (with_entry c.args.key c.args.row.now) c.index_mut.ensures.value in
    let next = changed_one (with_entry c.args.key c.args.row.now) old xs c.loop-i.i c.put.new.index was inside inv.long inv.done inv.rest is in
    record { done = next.0; rest = next.1; long = length-set xs c.loop-i.i c.put.new.index ∙ inv.long }
