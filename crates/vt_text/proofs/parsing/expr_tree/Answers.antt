use Rattle.std.proofs.Common.{rules, sym, ◌∙◌}
use Rattle.vt_text.proofs.SpelledLemmas.{all_read, some_left, none_read}
use Rattle.vt_text.proofs.parsing.expr_tree.Goals as goal

-- nothing is left
pub returns-then-is_empty : goal.returns-then-is_empty
returns-then-is_empty c = all_read c.args.attributes c.args.lexemes.now c.in-Ok.tree c.in-Ok.rest.now (search (rules, c.in-Ok.ensures)) (sym c.is_empty.ensures ∙ c.if-is_empty.true)

-- something is left
pub returns-else-is_empty : goal.returns-else-is_empty
returns-else-is_empty c = some_left c.args.attributes c.args.lexemes.now c.in-Ok.tree c.in-Ok.rest.now (search (rules, c.in-Ok.ensures)) (sym c.is_empty.ensures ∙ c.if-is_empty.false)

-- the reading stops
pub returns-in-Err-Fault : goal.returns-in-Err-Fault
returns-in-Err-Fault c = none_read c.args.attributes c.args.lexemes.now c.in-Err-Fault.field-0-0 (search (rules, c.in-Err-Fault.ensures, c.in-Err-Fault.field-0-is))
