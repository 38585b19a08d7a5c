use Rattle.std.proofs.Common.{◌≡◌, ◌+◌, ◌-◌, ◌<◌, [], ◌∷◌, ◌++◌, length, get_or, set, take, suc, cond, sym, ap, subst, ◌∙◌, add-one, arith}
use Rattle.std.specs.List.{remove}
use Rattle.std.specs.Result.{is_ok}
use Rattle.std.proofs.Math.Seq.{take-set-lt}
use Rattle.std.proofs.lemmas.List.{get_or_read, length-set}
use Rattle.std.proofs.lemmas.List.Edits.{get_or-remove_below, length-remove}
use Rattle.vt_sorted.specs.Inside.Pieces.{AreBehind}
use Rattle.vt_sorted.proofs.PieceLemmas.{remove_then_set}
use Rattle.vt_sorted.proofs.ChunkLemmas.{get_or-take, take-remove_below, take-push, length-take_le, behind-set, behind-push, behind-remove_below}
use Rattle.vt_sorted.proofs.chunks.Chunks.merge.Goals as goal

pub invariant_of-self : goal.invariant_of-self
invariant_of-self g c =
    let all = c.self.inside.all.items in
    let used = c.self.inside.used in
    let u = used - 1 in
    let k = c.args.k in
    let lo = c.join.new.self in
    let hi = c.join.new.other in
    let rest = c.remove-next.new.self.items in
    let count = ap (λ v. length v.items) c.self.view_is in
    let size = length-take_le all used c.self.invariant.in_range in
    let one : used ≡ suc u = omega arith in
    let fewer : AreBehind u (remove all (k + 1)) = behind-remove_below u all (k + 1) (omega arith) (subst (λ n. AreBehind n all) one c.self.invariant) in
    let lower : AreBehind u (set (remove all (k + 1)) k lo) = behind-set u (remove all (k + 1)) k lo (omega arith) fewer in
    let is : c.push.new.self.items ≡ set (remove all (k + 1)) k lo ++ hi ∷ [] =
    c.push.ensures.items ∙ ap (λ r. cond (is_ok r) (set rest k lo ++ hi ∷ []) (set rest k lo)) c.unwrap.ensures
    ∙ ap (λ xs. set xs k lo ++ hi ∷ []) c.remove-next.ensures.items in
    subst (AreBehind u) (sym is) (behind-push u (set (remove all (k + 1)) k lo) hi c.join.ensures.empty lower)

pub returns-clause-items : goal.returns-clause-items
returns-clause-items g c =
    let all = c.self.inside.all.items in
    let used = c.self.inside.used in
    let u = used - 1 in
    let old = c.args.self.now.items in
    let k = c.args.k in
    let lo = c.join.new.self in
    let hi = c.join.new.other in
    let rest = c.remove-next.new.self.items in
    let view : take used all ≡ old = ap (λ v. v.items) c.self.view_is in
    let count = ap length view in
    let bound = c.self.invariant.in_range in
    let size = length-take_le all used bound in
    let one : used ≡ suc u = omega arith in
    let inside : k + 1 < length old = c.requires.in_range in
    let there : k + 1 < length all = omega arith in
    let fewer = length-remove all (k + 1) there in
    let same = ap length c.remove-next.ensures.items in
    let kept : take u rest ≡ remove old (k + 1) =
    ap (take u) c.remove-next.ensures.items ∙ take-remove_below all u (k + 1) (omega arith) (omega arith)
    ∙ ap (λ n. remove (take n all) (k + 1)) (sym one) ∙ ap (λ xs. remove xs (k + 1)) view in
    let left : k < length rest = omega arith in
    let within : k < u = omega arith in
    let here : c.index_mut.result.now ≡ get_or old k [] =
    get_or_read rest k _ left c.index_mut.ensures.value [] ∙ sym (get_or-take rest u k [] within)
    ∙ ap (λ xs. get_or xs k []) kept ∙ get_or-remove_below old (k + 1) [] k (omega arith) inside in
    let next : c.remove-next.result ≡ get_or old (suc k) [] =
    get_or_read all (k + 1) _ there c.remove-next.ensures.value [] ∙ sym (get_or-take all used (k + 1) [] (omega arith))
    ∙ ap (λ xs. get_or xs (k + 1) []) view ∙ ap (λ m. get_or old m []) (add-one k) in
    let both : lo ≡ get_or old k [] ++ get_or old (suc k) [] = c.join.ensures.joined ∙ ap (λ xs. xs ++ c.remove-next.result) here ∙ ap (λ xs. get_or old k [] ++ xs) next in
    let pushed : c.push.new.self.items ≡ set rest k lo ++ hi ∷ [] =
    c.push.ensures.items ∙ ap (λ r. cond (is_ok r) (set rest k lo ++ hi ∷ []) (set rest k lo)) c.unwrap.ensures in
    let long = length-set rest k lo in
    ap (take u) pushed ∙ take-push (set rest k lo) u hi (omega arith)
    ∙ take-set-lt u rest k lo within ∙ ap (λ xs. set xs k lo) kept
    ∙ ap (λ x. set (remove old (k + 1)) k x) both
    ∙ remove_then_set old k (get_or old k [] ++ get_or old (suc k) []) inside
