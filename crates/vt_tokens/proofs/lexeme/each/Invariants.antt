use Rattle.std.proofs.Common.{◌≡◌, ◌++◌, drop}
use Rattle.vt_tokens.specs.Lexemes.{lexemes_of}
use Rattle.vt_tokens.proofs.lexeme.each.Given as goal

-- the lexemes so far, then those of the tokens that are left
abbrev pub invariant-loop-token : goal.invariant-loop-token
invariant-loop-token l = l.lexemes ++ lexemes_of l.text (drop l.token-index l.tokens) ≡ lexemes_of l.text l.tokens
