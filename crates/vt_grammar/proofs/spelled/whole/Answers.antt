use Rattle.std.proofs.Common.{Ok, Err, sym, ◌∙◌, ap}
use Rattle.vt_grammar.proofs.WholeLemmas.{gives_ok, gives_err, ended_spelled, read_only, left_only, left_fault, stop_only, stop_fault}
use Rattle.vt_grammar.proofs.spelled.whole.Goals as goal

-- nothing is left: what was read is spelled
pub returns-then-is_empty-clause-accepted : goal.returns-then-is_empty-clause-accepted
returns-then-is_empty-clause-accepted g c = ended_spelled g.T.Spelled.grammar g.T.Spelled.factored g.T.Spelled.decided g.T.Spelled.same c.args.lexemes.now c.in-Ok.value c.in-Ok.rest.now (gives_ok _ _ _ _ c.requires c.in-Ok.is) (sym c.is_empty.ensures ∙ c.if-is_empty.true)

-- nothing is left: what is spelled was read
pub returns-then-is_empty-clause-only : goal.returns-then-is_empty-clause-only
returns-then-is_empty-clause-only g c = λ x h n. ap Ok (read_only g.T.Spelled.grammar g.T.Spelled.factored g.T.Spelled.decided g.T.Spelled.same c.args.lexemes.now c.in-Ok.value c.in-Ok.rest.now x (gives_ok _ _ _ _ c.requires c.in-Ok.is) h).0

-- something is left: nothing is spelled
pub returns-else-is_empty-clause-only : goal.returns-else-is_empty-clause-only
returns-else-is_empty-clause-only g c = λ x h n. left_only g.T.Spelled.grammar g.T.Spelled.factored g.T.Spelled.decided g.T.Spelled.same c.args.lexemes.now c.in-Ok.value c.in-Ok.rest.now x (gives_ok _ _ _ _ c.requires c.in-Ok.is) (sym c.is_empty.ensures ∙ c.if-is_empty.false) h

-- something is left: the fault stands at the first of it
pub returns-else-is_empty-clause-refused : goal.returns-else-is_empty-clause-refused
returns-else-is_empty-clause-refused g c = λ n e. left_fault g.T.Spelled.grammar g.T.Spelled.factored g.T.Spelled.decided g.T.Spelled.same c.args.lexemes.now c.in-Ok.value c.in-Ok.rest.now n (gives_ok _ _ _ _ c.requires c.in-Ok.is) (sym c.is_empty.ensures ∙ c.if-is_empty.false) cc

-- the reading stopped, and something is spelled: memory ran out
pub returns-in-Err-clause-only : goal.returns-in-Err-clause-only
returns-in-Err-clause-only g c = λ x h n. absurd (n (ap Err (stop_only g.T.Spelled.grammar g.T.Spelled.factored g.T.Spelled.decided g.T.Spelled.same c.args.lexemes.now c.in-Err.stop x (gives_err _ _ _ _ c.requires c.in-Err.is) h)))

-- the reading stopped at a fault
pub returns-in-Err-clause-refused : goal.returns-in-Err-clause-refused
returns-in-Err-clause-refused g c = λ n e. stop_fault g.T.Spelled.grammar g.T.Spelled.factored g.T.Spelled.decided g.T.Spelled.same c.args.lexemes.now c.in-Err.stop n (gives_err _ _ _ _ c.requires c.in-Err.is) cc
