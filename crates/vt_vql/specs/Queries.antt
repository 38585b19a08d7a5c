-- The program that bytes spell over a metamodel, and the first fault of bytes that spell none.
use Rattle.std.specs.Prelude.{◌≡◌, ℕ, List, true, false, Some, None}
use Rattle.std.specs.Str.{is_utf8}
use Rattle.vt_grammar.specs.Grammar.{Spells}
use Rattle.vt_tokens.specs.Spelling as token
use Rattle.vt_tokens.specs.Spelling.{IsBadAt}
use Rattle.vt_tokens.specs.Lexemes.{lexemes_of}
use Rattle.vt_tokens.specs.declared.token.Token.{Token}
use Rattle.vt_model.specs.Metamodel.{Metamodel}
use Rattle.vt_query.specs.declared.program.Program.{Program}
use Rattle.vt_vql.specs.Rules.{file}
use Rattle.vt_vql.specs.Resolving.{narrow_program}
use Rattle.vt_vql.specs.declared.tree.FileTree.{FileTree}
use Rattle.vt_vql.specs.declared.fault.QueryFault.{QueryFault}
use Rattle.vt_vql.specs.declared.fault.QueryFault.TheVariants.{NotText, BadToken, NotBuilt, NoMemory}

-- the bytes are a text of tokens, these spell patterns, and the patterns make the program
pub record Accepts (meta : Metamodel) (bytes : List ℕ) (program : Program) : Type 0 where
  pub text : is_utf8 bytes ≡ true
  pub tokens : List Token
  pub cut : token.Spells bytes tokens
  pub tree : FileTree
  pub spelled : Spells file (lexemes_of bytes tokens) tree
  pub makes : narrow_program meta tree ≡ Some program

-- the bytes are a text of tokens, and whatever patterns these spell are no narrow ones
pub record IsNotNarrow (meta : Metamodel) (bytes : List ℕ) : Type 0 where
  pub text : is_utf8 bytes ≡ true
  pub tokens : List Token
  pub cut : token.Spells bytes tokens
  pub none : (tree : FileTree) → Spells file (lexemes_of bytes tokens) tree → narrow_program meta tree ≡ None

-- a call answers the fault that there is; want of memory may stand for any answer
abbrev pub IsFaultOf : Metamodel → List ℕ → QueryFault → Type 0
IsFaultOf meta bytes (NotText place) = (is_utf8 bytes ≡ false) × (place ≡ 0)
IsFaultOf meta bytes (BadToken line) = (is_utf8 bytes ≡ true) × IsBadAt bytes line
IsFaultOf meta bytes (NotBuilt place) = IsNotNarrow meta bytes × (place ≡ 0)
IsFaultOf meta bytes NoMemory = Unit {0}
