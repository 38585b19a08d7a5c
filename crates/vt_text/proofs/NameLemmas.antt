-- What the grammar gives where a name begins a literal or a slot.
use Rattle.std.proofs.Common.{ℕ, ◌≡◌, Bool, List, Ok, Err}
use Rattle.vt_grammar.specs.declared.lexeme.Lexeme.{Lexeme}
use Rattle.vt_grammar.specs.Forms.{applied}
use Rattle.vt_grammar.specs.Reading.{read}
use Rattle.vt_tokens.specs.Words.{identifier}
use Rattle.vt_tokens.proofs.NameLemmas.{named_rest, rest_fails}
use Rattle.vt_text.specs.Inside.FactoredLeaf.{name_rest, named}

pub named_read : (attributes : Bool) (ls rest : List Lexeme) (name : List ℕ) → read identifier ls ≡ Ok (name, rest) → read (named attributes) ls ≡ read (applied name (name_rest attributes)) rest
named_read attributes = named_rest identifier (name_rest attributes)

pub named_fails : (attributes : Bool) (ls : List Lexeme) (n : ℕ) → read identifier ls ≡ Err n → read (named attributes) ls ≡ Err n
named_fails attributes = rest_fails identifier (name_rest attributes)
