-- The grammar of query files with each common front taken once, as it is read.
use Rattle.std.specs.Prelude.{ℕ, List}
use Rattle.vt_grammar.specs.declared.symbol.Symbol.TheVariants as symbol
use Rattle.vt_grammar.specs.Grammar.{Grammar, nothing, token, alt, made}
use Rattle.vt_grammar.specs.Forms.{◌&◌, before}
use Rattle.vt_tokens.specs.Words.{identifier, feature_name, string}
use Rattle.vt_syntax.specs.Terms.{integer, truth, blank, java_type, column, call_with, right_with}
use Rattle.vt_syntax.specs.Rules.{find_with, check, enclosed_with, ends_with, path_of, body_with, pattern_with, file_with}
use Rattle.vt_syntax.specs.declared.tree.FileTree.{FileTree}
use Rattle.vt_syntax.specs.declared.tree.PatternTree.{PatternTree}
use Rattle.vt_syntax.specs.declared.tree.BodyTree.{BodyTree}
use Rattle.vt_syntax.specs.declared.tree.ConstraintTree.{ConstraintTree}
use Rattle.vt_syntax.specs.declared.tree.ConstraintTree.TheVariants as constraint_tree
use Rattle.vt_syntax.specs.declared.tree.TypeTree.TheVariants as type_tree
use Rattle.vt_syntax.specs.declared.tree.RightTree.{RightTree}
use Rattle.vt_syntax.specs.declared.tree.CallTree.{CallTree}
use Rattle.vt_syntax.specs.declared.tree.ArgTree.{ArgTree}
use Rattle.vt_syntax.specs.declared.tree.ArgTree.TheVariants as arg_tree
use Rattle.vt_syntax.specs.declared.tree.TermTree.{TermTree}
use Rattle.vt_syntax.specs.declared.tree.TermTree.TheVariants as term_tree

-- ---- terms

-- "::" ID behind an ID
abbrev pub literal_rest : Grammar (List ℕ → TermTree)
literal_rest = made (λ x name. term_tree.Literal name x.1) (token symbol.DoubleColon & feature_name)

-- nothing behind it
abbrev pub variable_rest : Grammar (List ℕ → TermTree)
variable_rest = made (λ _ name. term_tree.Variable name) nothing

abbrev pub name_rest : Grammar (List ℕ → TermTree)
name_rest = alt literal_rest variable_rest

-- ID | ID "::" ID
abbrev pub named : Grammar TermTree
named = made (λ x. x.1 x.0) (identifier & name_rest)

-- "_" | [ "-" ] NUMBER | STRING | "true" | "false"
abbrev pub plain : Grammar TermTree
plain = alt blank (alt (made term_tree.Int integer) (alt (made term_tree.Text string) (made term_tree.Bool truth)))

abbrev pub term : Grammar TermTree
term = alt named plain

-- ---- calls

abbrev pub arg : Grammar ArgTree
arg = alt (made arg_tree.Term term) column

abbrev pub call : Grammar CallTree
call = call_with arg

abbrev pub right : Grammar RightTree
right = right_with term call

-- ---- constraints

-- "==" right | "!=" term behind a term
abbrev pub equal_rest : Grammar (TermTree → ConstraintTree)
equal_rest = made (λ x left. constraint_tree.Equal left x.1) (token symbol.Equal & right)

abbrev pub differ_rest : Grammar (TermTree → ConstraintTree)
differ_rest = made (λ x left. constraint_tree.Differ left x.1) (token symbol.Differ & term)

abbrev pub comparison : Grammar (TermTree → ConstraintTree)
comparison = alt equal_rest differ_rest

-- "(" term ")" behind an ID
abbrev pub type_rest : Grammar (List ℕ → ConstraintTree)
type_rest = made (λ t name. constraint_tree.Type (type_tree.Named name) t) (enclosed_with term)

-- a path's features and ends behind an ID
abbrev pub path_rest : Grammar (List ℕ → ConstraintTree)
path_rest = made path_of (ends_with term)

-- what makes a term of an ID, and a comparison of that term
abbrev pub compared_rest : Grammar (List ℕ → ConstraintTree)
compared_rest = made (λ x name. x.1 (x.0 name)) (name_rest & comparison)

abbrev pub constraint_rest : Grammar (List ℕ → ConstraintTree)
constraint_rest = alt type_rest (alt path_rest compared_rest)

-- a constraint that begins with an ID
abbrev pub named_constraint : Grammar ConstraintTree
named_constraint = made (λ x. x.1 x.0) (identifier & constraint_rest)

-- a comparison of a term without a name
abbrev pub plain_constraint : Grammar ConstraintTree
plain_constraint = made (λ x. x.1 x.0) (plain & comparison)

-- "java" qname "(" term ")"
abbrev pub java_constraint : Grammar ConstraintTree
java_constraint = made (λ x. constraint_tree.Type x.0 x.1) (java_type & enclosed_with term)

abbrev pub constraint : Grammar ConstraintTree
constraint = (alt (find_with call) (alt check (alt java_constraint (alt named_constraint plain_constraint))))

-- ---- patterns and files

-- a constraint and its semicolon
abbrev pub line : Grammar ConstraintTree
line = before constraint (token symbol.Semicolon)

abbrev pub body : Grammar BodyTree
body = body_with constraint

abbrev pub pattern : Grammar PatternTree
pattern = pattern_with body

abbrev pub file : Grammar FileTree
file = file_with pattern
