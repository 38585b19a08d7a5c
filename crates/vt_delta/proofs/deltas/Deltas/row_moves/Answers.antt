use Rattle.std.proofs.Common.{rules, ◌≡◌, ◌≤◌, ◌<◌, length}
use Rattle.std.specs.Prelude.{slice_index_or}
use Rattle.std.proofs.lemmas.Result.{IfOk-weaker, IfErr-weaker}
use Rattle.vt_delta.specs.Inside.Kept.{moved}
use Rattle.vt_delta.proofs.KeptLemmas.{changes-given, changes-given_same, changes-kept, changes-kept_same}
use Rattle.vt_delta.proofs.deltas.Deltas.row_moves.Goals as goal

-- the delta at the number was handed over
pub returns-then-n-len-clause-moved : goal.returns-then-n-len-clause-moved
returns-then-n-len-clause-moved c =
    let below : c.args.n < length c.self.inside.given.items = search rules in
    let old_is : slice_index_or c.self.inside.given.items c.args.n c.index_mut.result.now ≡ c.index_mut.result.now = search rules in
    IfOk-weaker c.move_one.result _ _
    (λ _ turned. changes-given c.self.inside.given.items c.self.inside.kept c.self.inside.above c.self.inside.empty c.args.self.now c.self.view_is c.args.n c.requires.there
    below c.index_mut.result.now c.move_one.new.delta old_is (moved c.args.way c.args.row) turned)
    c.move_one.ensures.moved

pub returns-then-n-len-clause-unchanged : goal.returns-then-n-len-clause-unchanged
returns-then-n-len-clause-unchanged c =
    let below : c.args.n < length c.self.inside.given.items = search rules in
    let old_is : slice_index_or c.self.inside.given.items c.args.n c.index_mut.result.now ≡ c.index_mut.result.now = search rules in
    IfErr-weaker c.move_one.result _ _
    (λ _ stayed. changes-given_same c.self.inside.given.items c.self.inside.kept c.self.inside.above c.self.inside.empty c.args.self.now c.self.view_is c.args.n c.requires.there
    below c.index_mut.result.now c.move_one.new.delta old_is stayed)
    c.move_one.ensures.unchanged

-- it is above those
pub returns-else-n-len-clause-moved : goal.returns-else-n-len-clause-moved
returns-else-n-len-clause-moved c =
    let past : length c.self.inside.given.items ≤ c.args.n = search rules in
    IfOk-weaker c.move_kept.result _ _
    (λ _ turned. changes-kept c.self.inside.given.items c.self.inside.kept c.self.inside.above c.self.inside.empty c.args.self.now c.self.view_is c.args.n c.requires.there
    past c.move_kept.new.kept (moved c.args.way c.args.row) c.self.invariant turned c.move_kept.ensures.others)
    c.move_kept.ensures.moved

pub returns-else-n-len-clause-unchanged : goal.returns-else-n-len-clause-unchanged
returns-else-n-len-clause-unchanged c =
    let past : length c.self.inside.given.items ≤ c.args.n = search rules in
    IfErr-weaker c.move_kept.result _ _
    (λ _ stayed. changes-kept_same c.self.inside.given.items c.self.inside.kept c.self.inside.above c.self.inside.empty c.args.self.now c.self.view_is c.args.n c.requires.there
    past c.move_kept.new.kept c.self.invariant stayed c.move_kept.ensures.others)
    c.move_kept.ensures.unchanged
