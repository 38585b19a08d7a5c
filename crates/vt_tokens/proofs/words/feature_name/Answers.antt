use Rattle.std.proofs.Common.{rules}
use Rattle.vt_tokens.proofs.NameLemmas.{name_read, name_fails, name_missing}
use Rattle.vt_tokens.proofs.words.feature_name.Goals as goal
use Rattle.vt_tokens.proofs.words.feature_name.Goals.{in_default-via-in-Some+else-is_word, in_default-via-in_default}

-- a word is next
pub returns-in-Some : goal.returns-in-Some
returns-in-Some c = let e = name_read c.in-Some.lexeme.now c.in-Some.rest.now in search (rules, e)

-- another lexeme is next, or none
pub returns-in_default : goal.returns-in_default
returns-in_default c = elim c.in_default.branch [
  | in_default-via-in-Some+else-is_word w ↦ (let e = name_fails w.in-Some.lexeme.now w.in-Some.rest.now in search (rules, e))
  | in_default-via-in_default w ↦ name_missing c.args.lexemes.now w.in_default.ensures.cases
]
