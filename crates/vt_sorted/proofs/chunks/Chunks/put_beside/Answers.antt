use Rattle.std.proofs.Common.{◌≡◌, ◌+◌, ◌<◌, ◌≤◌, [], length, get_or, set, suc, take, cond, sym, ap, subst, ◌∙◌, add-one, arith}
use Rattle.std.specs.List.{insert, remove}
use Rattle.std.specs.Result.{is_ok}
use Rattle.std.proofs.Math.Seq.{take-set-lt}
use Rattle.std.proofs.lemmas.List.{get_or_read, length-set}
use Rattle.vt_sorted.specs.Inside.Pieces.{AreBehind}
use Rattle.vt_sorted.proofs.PieceLemmas.{set_then_insert}
use Rattle.vt_sorted.proofs.ChunkLemmas.{get_or-take, take-insert, take-remove_at, length-take_le, free_is_empty, behind-set, behind-remove_at, behind-insert}
use Rattle.vt_sorted.proofs.chunks.Chunks.put_beside.Goals as goal

pub put_and_split-requires-clause-empty : goal.put_and_split-requires-clause-empty
put_and_split-requires-clause-empty g c =
    let all = c.self.inside.all.items in
    let used = c.self.inside.used in
    let spare = ap (λ v. v.spare) c.self.view_is in
    let some : used < length all = omega arith in
    get_or_read all used _ some c.remove-upper.ensures.value [] ∙ free_is_empty used all c.self.invariant

pub invariant_of-self : goal.invariant_of-self
invariant_of-self g c =
    let all = c.self.inside.all.items in
    let used = c.self.inside.used in
    let j = c.args.j in
    let lo = c.put_and_split.new.self in
    let hi = c.put_and_split.new.upper in
    let spare = ap (λ v. v.spare) c.self.view_is in
    let some : used < length all = omega arith in
    let count = ap (λ v. length v.items) c.self.view_is in
    let size = length-take_le all used c.self.invariant.in_range in
    let inside : j < used = omega arith in
    let rest : AreBehind used (remove all used) = behind-remove_at used all some c.self.invariant in
    let lower : AreBehind used (set (remove all used) j lo) = behind-set used (remove all used) j lo inside rest in
    let both : AreBehind (suc used) (insert (set (remove all used) j lo) (j + 1) hi) = behind-insert used (set (remove all used) j lo) (j + 1) hi (omega arith) lower in
    let is : c.insert.new.self.items ≡ insert (set (remove all used) j lo) (j + 1) hi =
    c.insert.ensures.items ∙ ap (λ r. cond (is_ok r) (insert (set c.remove-upper.new.self.items j lo) (j + 1) hi) (set c.remove-upper.new.self.items j lo)) c.unwrap.ensures
    ∙ ap (λ xs. insert (set xs j lo) (j + 1) hi) c.remove-upper.ensures.items in
    subst (λ n. AreBehind n c.insert.new.self.items) (sym (add-one used)) (subst (AreBehind (suc used)) (sym is) both)

pub returns-clause-items : goal.returns-clause-items
returns-clause-items g c =
    let all = c.self.inside.all.items in
    let used = c.self.inside.used in
    let old = c.args.self.now.items in
    let j = c.args.j in
    let lo = c.put_and_split.new.self in
    let hi = c.put_and_split.new.upper in
    let rest = c.remove-upper.new.self.items in
    let view : take used all ≡ old = ap (λ v. v.items) c.self.view_is in
    let spare = ap (λ v. v.spare) c.self.view_is in
    let some : used < length all = omega arith in
    let count = ap length view in
    let size = length-take_le all used c.self.invariant.in_range in
    let within : j < used = omega arith in
    let inside : j < length old = c.requires.in_range in
    let kept : take used rest ≡ old = ap (take used) c.remove-upper.ensures.items ∙ take-remove_at all used ∙ view in
    let behind = (behind-remove_at used all some c.self.invariant).in_range in
    let same = ap length c.remove-upper.ensures.items in
    let longer = length-set rest j lo in
    let there : j < length rest = omega arith in
    let is : c.index_mut.result.now ≡ get_or old j [] =
    get_or_read rest j _ there c.index_mut.ensures.value [] ∙ sym (get_or-take rest used j [] within) ∙ ap (λ xs. get_or xs j []) kept in
    let new : c.insert.new.self.items ≡ insert (set rest j lo) (j + 1) hi =
    c.insert.ensures.items ∙ ap (λ r. cond (is_ok r) (insert (set rest j lo) (j + 1) hi) (set rest j lo)) c.unwrap.ensures in
    record {
      lower = lo;
      upper = hi;
      items =
          ap (λ n. take n c.insert.new.self.items) (add-one used) ∙ ap (take (suc used)) new
          ∙ take-insert (set rest j lo) used (j + 1) hi (omega arith) (omega arith)
          ∙ ap (λ xs. insert xs (j + 1) hi) (take-set-lt used rest j lo within)
          ∙ ap (λ xs. insert (set xs j lo) (j + 1) hi) kept
          ∙ set_then_insert old j lo hi inside;
      whole = c.put_and_split.ensures.items ∙ ap (λ xs. insert xs c.args.at c.args.item) is;
      lower_filled = c.put_and_split.ensures.lower;
      upper_filled = c.put_and_split.ensures.upper;
      sum = c.put_and_split.ensures.whole;
    }
