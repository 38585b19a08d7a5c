use Rattle.std.proofs.Common.{◌≡◌, ◌∙◌, ℕ, Bool, [], ◌∷◌, ◌++◌, nat_eq, sym, rules, arith}
use Rattle.std.specs.List.{list_any}
use Rattle.std.proofs.lemmas.List.FromFn.{map-range_with_len_more}
use Rattle.vt_model.proofs.above.marks.Goals as goal

pub loop-d-preserved : goal.loop-d-preserved
loop-d-preserved c =
    let d = c.loop-d.d-counter in
    let mark : ℕ → Bool = λ d. list_any (nat_eq d) c.args.above.now.keys in
    let one : c.contains.result ≡ mark d = search rules in
    c.in_ok-add.ensures.added
    ∙ (λ i. c.loop-d.invariant i ++ one i ∷ [])
    ∙ sym (map-range_with_len_more mark 0 d d (omega arith))
