-- The grammar of query files.
use Rattle.std.specs.Prelude.{ℕ, List, Bool, is_none, Option, Some, None}
use Rattle.vt_grammar.specs.declared.symbol.Symbol.TheVariants as symbol
use Rattle.vt_grammar.specs.declared.lexeme.Lexeme.{Lexeme}
use Rattle.vt_grammar.specs.Grammar.{Grammar, token, alt, star, made, balanced}
use Rattle.vt_grammar.specs.Forms.{◌&◌, after, before, separated, some_of, maybe}
use Rattle.vt_tokens.specs.Words.{identifier, feature_name, string}
use Rattle.vt_syntax.specs.Terms.{skipped, qualified_name, term, type_name, code, call, right}
use Rattle.vt_syntax.specs.declared.tree.FileTree.{FileTree}
use Rattle.vt_syntax.specs.declared.tree.PatternTree.{PatternTree}
use Rattle.vt_syntax.specs.declared.tree.ParamTree.{ParamTree}
use Rattle.vt_syntax.specs.declared.tree.BodyTree.{BodyTree}
use Rattle.vt_syntax.specs.declared.tree.ConstraintTree.{ConstraintTree}
use Rattle.vt_syntax.specs.declared.tree.ConstraintTree.TheVariants as constraint_tree
use Rattle.vt_syntax.specs.declared.tree.CallTree.{CallTree}
use Rattle.vt_syntax.specs.declared.tree.TermTree.{TermTree}

-- ---- constraints

-- a call behind `neg`, or without it
abbrev pub called : Option Lexeme → CallTree → ConstraintTree
called None call = constraint_tree.Find call
called (Some neg) call = constraint_tree.Neg call

-- [ "neg" ] "find" call
abbrev pub find_with : Grammar CallTree → Grammar ConstraintTree
find_with call = made (λ x. called x.0 x.1.1) (maybe (token symbol.Neg) & token symbol.Find & call)

-- "check" "(" balanced ")"
abbrev pub check : Grammar ConstraintTree
check = made constraint_tree.Check (code symbol.Check)

-- "(" term ")"
abbrev pub enclosed_with : Grammar TermTree → Grammar TermTree
enclosed_with term = made (λ x. x.1.0) (token symbol.LeftParen & term & token symbol.RightParen)

-- type "(" term ")"
abbrev pub type_constraint : Grammar ConstraintTree
type_constraint = made (λ x. constraint_tree.Type x.0 x.1) (type_name & enclosed_with term)

-- what follows the class of a path: its features, and its two ends
abbrev pub Ends : Type 0
Ends = List (List ℕ) × TermTree × TermTree

-- "." ID { "." ID } "(" term "," term ")"
abbrev pub ends_with : Grammar TermTree → Grammar Ends
ends_with term = made (λ x. (x.1.0, x.1.1.1.0, x.1.1.1.1.1.0))
    (token symbol.Dot & separated (token symbol.Dot) feature_name
    & token symbol.LeftParen & term & token symbol.Comma & term & token symbol.RightParen)

abbrev pub path_of : Ends → List ℕ → ConstraintTree
path_of ends class = constraint_tree.Path class ends.0 ends.1 ends.2

-- ID "." ID { "." ID } "(" term "," term ")"
abbrev pub path_constraint : Grammar ConstraintTree
path_constraint = made (λ x. path_of x.1 x.0) (identifier & ends_with term)

-- term "==" right
abbrev pub equal : Grammar ConstraintTree
equal = made (λ x. constraint_tree.Equal x.0 x.1.1) (term & (token symbol.Equal & right))

-- term "!=" term
abbrev pub differ : Grammar ConstraintTree
differ = made (λ x. constraint_tree.Differ x.0 x.1.1) (term & (token symbol.Differ & term))

-- constraint = [ "neg" ] "find" call | "check" "(" balanced ")" | type "(" term ")"
--            | ID "." ID { "." ID } "(" term "," term ")" | term "==" right | term "!=" term
abbrev pub constraint : Grammar ConstraintTree
constraint =
    (alt (find_with call)
    (alt check
    (alt type_constraint
    (alt path_constraint
    (alt equal
    differ)))))

-- ---- patterns

-- body = "{" { constraint ";" } "}"
abbrev pub body_with : Grammar ConstraintTree → Grammar BodyTree
body_with constraint = made (λ constraints. record { constraints = constraints })
    (after (token symbol.LeftBrace) (before (star (before constraint (token symbol.Semicolon))) (token symbol.RightBrace)))

-- param = ID [ ":" type ]
abbrev pub param : Grammar ParamTree
param = made (λ x. record { name = x.0; ty = x.1 }) (identifier & maybe (after (token symbol.Colon) type_name))

-- "@" ID [ "(" balanced ")" ]
abbrev pub annotation : Grammar (List ℕ)
annotation = made (λ x. x.1.0)
    (token symbol.At & identifier & skipped (maybe (token symbol.LeftParen & balanced & token symbol.RightParen)))

-- [ "private" ]
abbrev pub shown : Grammar Bool
shown = made is_none (maybe (token symbol.Private))

-- pattern = { "@" ID [ "(" balanced ")" ] } [ "private" ] "pattern" ID
--           "(" [ param { "," param } ] ")" body { "or" body }
abbrev pub pattern_with : Grammar BodyTree → Grammar PatternTree
pattern_with body =
    made (λ x. record { name = x.1.1.1.0; shown = x.1.0; params = x.1.1.1.1.1.0; bodies = x.1.1.1.1.1.1.1 })
    (star annotation & shown & token symbol.Pattern & identifier & token symbol.LeftParen
    & some_of (separated (token symbol.Comma) param) & token symbol.RightParen & separated (token symbol.Or) body)

-- ---- files

-- [ ";" ]
abbrev pub semicolon : Grammar (Unit {0})
semicolon = skipped (maybe (token symbol.Semicolon))

-- [ "package" qname [ ";" ] ]
abbrev pub package_line : Grammar (Unit {0})
package_line = skipped (maybe (token symbol.Package & qualified_name & semicolon))

-- "import" STRING [ ";" ]
abbrev pub import_line : Grammar (List ℕ)
import_line = made (λ x. x.1.0) (token symbol.Import & string & semicolon)

-- file = [ "package" qname [ ";" ] ] { "import" STRING [ ";" ] } { pattern }
abbrev pub file_with : Grammar PatternTree → Grammar FileTree
file_with pattern = made (λ x. record { imports = x.1.0; patterns = x.1.1 }) (package_line & star import_line & star pattern)

abbrev pub file : Grammar FileTree
file = file_with (pattern_with (body_with constraint))
