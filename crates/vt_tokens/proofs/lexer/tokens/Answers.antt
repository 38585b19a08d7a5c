use Rattle.vt_tokens.proofs.SpellingLemmas.{scanned_more}
use Rattle.vt_tokens.proofs.lexer.tokens.Goals as goal

-- one more piece is found
pub each-preserved : goal.each-preserved
each-preserved c = scanned_more _ _ _ _ _ _ _ _ _ _ c.each.invariant c.in-Some.ensures c.split_at.ensures.front c.split_at.ensures.back c.in_ok-add_if_token.ensures c.line_ends-line.ensures.value c.line_ends-line.ensures.bounded
