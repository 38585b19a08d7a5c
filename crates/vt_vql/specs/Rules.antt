-- The grammar of query files, as far as they are narrow.
use Rattle.std.specs.Prelude.{List, Bool, is_none}
use Rattle.vt_grammar.specs.declared.symbol.Symbol.TheVariants as symbol
use Rattle.vt_grammar.specs.Grammar.{Grammar, token, alt, star, made}
use Rattle.vt_grammar.specs.Forms.{◌&◌, after, before, separated, some_of, maybe}
use Rattle.vt_tokens.specs.Words.{identifier, feature_name}
use Rattle.vt_vql.specs.declared.tree.FileTree.{FileTree}
use Rattle.vt_vql.specs.declared.tree.PatternTree.{PatternTree}
use Rattle.vt_vql.specs.declared.tree.ParamTree.{ParamTree}
use Rattle.vt_vql.specs.declared.tree.ConstraintTree.{ConstraintTree}
use Rattle.vt_vql.specs.declared.tree.ConstraintTree.TheVariants as constraint_tree
use Rattle.vt_vql.specs.declared.tree.TermTree.{TermTree}
use Rattle.vt_vql.specs.declared.tree.TermTree.TheVariants as term_tree

-- term = ID | "_"
abbrev pub term : Grammar TermTree
term = alt (made term_tree.Variable identifier) (made (λ _. term_tree.Blank) (token symbol.Blank))

-- ID "(" term ")"
abbrev pub type_constraint : Grammar ConstraintTree
type_constraint = made (λ x. constraint_tree.Type x.0 x.1.1.0)
    (identifier & token symbol.LeftParen & term & token symbol.RightParen)

-- ID "." ID "(" term "," term ")"
abbrev pub feature_constraint : Grammar ConstraintTree
feature_constraint = made (λ x. constraint_tree.Feature x.0 x.1.1.0 x.1.1.1.1.0 x.1.1.1.1.1.1.0)
    (identifier & token symbol.Dot & feature_name & token symbol.LeftParen & term & token symbol.Comma & term & token symbol.RightParen)

-- constraint = ID "(" term ")" | ID "." ID "(" term "," term ")"
abbrev pub constraint : Grammar ConstraintTree
constraint = alt type_constraint feature_constraint

-- param = ID [ ":" ID ]
abbrev pub param : Grammar ParamTree
param = made (λ x. record { name = x.0; ty = x.1 }) (identifier & maybe (after (token symbol.Colon) identifier))

-- body = "{" { constraint ";" } "}"
abbrev pub body : Grammar (List ConstraintTree)
body = after (token symbol.LeftBrace) (before (star (before constraint (token symbol.Semicolon))) (token symbol.RightBrace))

-- [ "private" ]
abbrev pub shown : Grammar Bool
shown = made is_none (maybe (token symbol.Private))

-- pattern = [ "private" ] "pattern" ID "(" [ param { "," param } ] ")" body
abbrev pub pattern : Grammar PatternTree
pattern = made (λ x. record { name = x.1.1.0; shown = x.0; params = x.1.1.1.1.0; constraints = x.1.1.1.1.1.1 })
    (shown & token symbol.Pattern & identifier & token symbol.LeftParen
    & some_of (separated (token symbol.Comma) param) & token symbol.RightParen & body)

-- file = { pattern }
abbrev pub file : Grammar FileTree
file = made (λ patterns. record { patterns = patterns }) (star pattern)
