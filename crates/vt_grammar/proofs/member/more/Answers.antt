use Rattle.std.proofs.Common.{rules, sym, ◌∙◌, ap, subst}
use Rattle.vt_grammar.specs.Grammar.{star}
use Rattle.vt_grammar.specs.Reading.{read}
use Rattle.vt_grammar.specs.Gives.{Fails, ahead}
use Rattle.vt_grammar.proofs.RollLemmas.{roll_done, roll_goes, roll_shrinks, roll_stopped}
use Rattle.vt_grammar.proofs.member.more.Goals as goal

-- none is next: what was read is all
pub returns : goal.returns
returns g c = sym c.each.invariant ∙ roll_done g.M.Member.grammar g.M.Member.decided c.each.all c.each.rest.now (sym c.is_next.ensures ∙ c.each-test.false)

-- one stopped, and so does the whole reading
pub returns-in_err-member : goal.returns-in_err-member
returns-in_err-member g c =
    let fails : Fails c.in_err-member.field-0.0 (ahead c.args.before (read (star g.M.Member.grammar) c.args.lexemes.now)) =
    subst (λ r. Fails c.in_err-member.field-0.0 r) c.each.invariant (roll_stopped g.M.Member.grammar g.M.Member.decided c.each.all c.each.rest.now c.in_err-member.field-0.0 (sym c.is_next.ensures ∙ c.each-test.true) c.in_err-member.ensures) in
    search rules

-- one more is read
pub each-preserved : goal.each-preserved
each-preserved g c =
    ap (λ out. ahead out (read (star g.M.Member.grammar) c.in_ok-member.next.now)) c.in_ok-add.ensures.added
    ∙ roll_goes g.M.Member.grammar g.M.Member.decided c.each.all c.each.rest.now c.in_ok-member.next.now c.in_ok-member.member (sym c.is_next.ensures ∙ c.each-test.true) c.in_ok-member.ensures
    ∙ c.each.invariant

-- and a lexeme at least with it
pub each-smaller : goal.each-smaller
each-smaller g c = roll_shrinks g.M.Member.grammar g.M.Member.decided c.each.rest.now c.in_ok-member.member c.in_ok-member.next.now c.in_ok-member.ensures
