use Rattle.std.proofs.Common.{◌<◌, ◌≤◌, ◌^◌, sym, ◌∙◌, arith, rules, true≢false}
use Rattle.std.proofs.lemmas.Str.Pattern.{starts_char}
use Rattle.vt_script.proofs.WordLemmas.{signed, parsed_within, parsed_above, unparsed}
use Rattle.vt_script.proofs.words.number.Goals as goal

-- a plus comes first
pub returns-then-starts_with-clause-value : goal.returns-then-starts_with-clause-value
returns-then-starts_with-clause-value c =
    let plus = starts_char 43 c.args.word.now c.starts_with.result c.starts_with.ensures.cases (omega arith) (omega arith) in
    sym (signed c.args.most c.args.word.now (plus.0 c.if-starts_with.true))

-- no number of 64 bits
pub returns-in_default-clause-value : goal.returns-in_default-clause-value
returns-in_default-clause-value c =
    let plus = starts_char 43 c.args.word.now c.starts_with.result c.starts_with.ensures.cases (omega arith) (omega arith) in
    let small : c.args.most < 2 ^ 64 = search rules in
    sym (unparsed c.args.most c.args.word.now c.in_default.field-0 small c.in_default.ensures.value.0 (λ e. true≢false (sym (plus.1 e) ∙ c.if-starts_with.false)))

-- a number that is small enough
pub returns-then-n-most-clause-value : goal.returns-then-n-most-clause-value
returns-then-n-most-clause-value c =
    let plus = starts_char 43 c.args.word.now c.starts_with.result c.starts_with.ensures.cases (omega arith) (omega arith) in
    let small : c.in-Ok.n ≤ c.args.most = search rules in
    sym (parsed_within c.args.most c.args.word.now c.in-Ok.n c.in-Ok.ensures.value.0 (λ e. true≢false (sym (plus.1 e) ∙ c.if-starts_with.false)) small)

-- one that is not
pub returns-else-n-most-clause-value : goal.returns-else-n-most-clause-value
returns-else-n-most-clause-value c =
    let plus = starts_char 43 c.args.word.now c.starts_with.result c.starts_with.ensures.cases (omega arith) (omega arith) in
    let great : c.args.most < c.in-Ok.n = search rules in
    sym (parsed_above c.args.most c.args.word.now c.in-Ok.n c.in-Ok.ensures.value.0 (λ e. true≢false (sym (plus.1 e) ∙ c.if-starts_with.false)) great)
