use Rattle.std.proofs.Common.{◌≡◌, ◌+◌, ◌≤◌, [], length, nat_eq, slice_get, Some, rules, sym, subst}
use Rattle.indexmap.specs.IndexSet.{insert_all}
use Rattle.vt_model.specs.Above.{supers_at}
use Rattle.vt_model.proofs.AboveLemmas.{IsWalk, walk_start, walk_step, above_end, above_all}
use Rattle.vt_model.proofs.above.classes_above.Goals as goal

pub loop-next-init : goal.loop-next-init
loop-next-init c =
    let is : c.add_all.new.above.keys ≡ insert_all nat_eq [] c.args.starts.now = search rules in
    subst (λ keys. IsWalk c.args.supers.now c.args.starts.now keys 0) (sym is) (walk_start c.args.supers.now c.args.starts.now c.requires.starts)

-- the walk has come to its end
pub returns-in_default : goal.returns-in_default
returns-in_default c =
    let end : length c.loop-next.above.keys ≤ c.loop-next.next = search rules in
    above_end c.args.supers.now c.args.starts.now c.requires.supers c.loop-next.above.keys c.loop-next.next c.loop-next.invariant end

pub loop-next-preserved : goal.loop-next-preserved
loop-next-preserved c =
    let at : slice_get c.loop-next.above.keys c.loop-next.next ≡ Some c.in-Some.place.now = search rules in
    let is : c.add_supers.new.above.keys ≡ insert_all nat_eq c.loop-next.above.keys (supers_at c.args.supers.now c.in-Some.place.now) = search rules in
    subst (λ keys. IsWalk c.args.supers.now c.args.starts.now keys (c.loop-next.next + 1)) (sym is)
    (walk_step c.args.supers.now c.args.starts.now c.requires.supers c.loop-next.above.keys c.loop-next.next c.in-Some.place.now c.loop-next.invariant at)

-- it has come to as many classes as there are
pub returns : goal.returns
returns c = above_all c.args.supers.now c.args.starts.now c.requires.supers c.loop-next.above.keys c.loop-next.next c.loop-next.invariant c.loop-next-test.false
