-- What the grammar gives at a constraint and at a repetition.
use Rattle.std.proofs.Common.{ℕ, ◌≡◌, List, [], Ok, Err}
use Rattle.vt_grammar.specs.declared.lexeme.Lexeme.{Lexeme}
use Rattle.vt_grammar.specs.Grammar.{alt, star}
use Rattle.vt_grammar.specs.Reading.{read}
use Rattle.vt_grammar.specs.Gives.{ahead}
use Rattle.vt_grammar.specs.Forms.{applied}
use Rattle.vt_grammar.proofs.RollLemmas.{ahead_nil}
use Rattle.vt_tokens.specs.Words.{identifier}
use Rattle.vt_tokens.proofs.NameLemmas.{named_rest, rest_fails}
use Rattle.vt_vql.specs.Inside.Factored.{type_rest, feature_rest, constraint, line, pattern}

-- ---- a constraint, whose rest is a function of the name before it

pub constraint_read : (ls rest : List Lexeme) (name : List ℕ) → read identifier ls ≡ Ok (name, rest) → read constraint ls ≡ read (applied name (alt type_rest feature_rest)) rest
constraint_read = named_rest identifier (alt type_rest feature_rest)

pub constraint_fails : (ls : List Lexeme) (n : ℕ) → read identifier ls ≡ Err n → read constraint ls ≡ Err n
constraint_fails = rest_fails identifier (alt type_rest feature_rest)

-- ---- repetitions

pub lines_read : (ls : List Lexeme) → ahead [] (read (star line) ls) ≡ read (star line) ls
lines_read ls = ahead_nil (read (star line) ls)

pub patterns_read : (ls : List Lexeme) → ahead [] (read (star pattern) ls) ≡ read (star pattern) ls
patterns_read ls = ahead_nil (read (star pattern) ls)
