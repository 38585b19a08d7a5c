-- The grammar of query files with each common front taken once, as it is read.
use Rattle.std.specs.Prelude.{ℕ, List}
use Rattle.vt_grammar.specs.declared.symbol.Symbol.TheVariants as symbol
use Rattle.vt_grammar.specs.Grammar.{Grammar, token, alt, star, made}
use Rattle.vt_grammar.specs.Forms.{◌&◌, after, before, separated, some_of}
use Rattle.vt_tokens.specs.Words.{identifier, feature_name}
use Rattle.vt_vql.specs.Rules.{term, param, shown}
use Rattle.vt_vql.specs.declared.tree.FileTree.{FileTree}
use Rattle.vt_vql.specs.declared.tree.PatternTree.{PatternTree}
use Rattle.vt_vql.specs.declared.tree.ConstraintTree.{ConstraintTree}
use Rattle.vt_vql.specs.declared.tree.ConstraintTree.TheVariants as constraint_tree

-- "(" term ")" behind an ID
abbrev pub type_rest : Grammar (List ℕ → ConstraintTree)
type_rest = made (λ x name. constraint_tree.Type name x.1.0) (token symbol.LeftParen & term & token symbol.RightParen)

-- "." ID "(" term "," term ")" behind an ID
abbrev pub feature_rest : Grammar (List ℕ → ConstraintTree)
feature_rest = made (λ x name. constraint_tree.Feature name x.1.0 x.1.1.1.0 x.1.1.1.1.1.0)
    (token symbol.Dot & feature_name & token symbol.LeftParen & term & token symbol.Comma & term & token symbol.RightParen)

abbrev pub constraint : Grammar ConstraintTree
constraint = made (λ x. x.1 x.0) (identifier & alt type_rest feature_rest)

-- a constraint and its semicolon
abbrev pub line : Grammar ConstraintTree
line = before constraint (token symbol.Semicolon)

abbrev pub body : Grammar (List ConstraintTree)
body = after (token symbol.LeftBrace) (before (star line) (token symbol.RightBrace))

abbrev pub pattern : Grammar PatternTree
pattern = made (λ x. record { name = x.1.1.0; shown = x.0; params = x.1.1.1.1.0; constraints = x.1.1.1.1.1.1 })
    (shown & token symbol.Pattern & identifier & token symbol.LeftParen
    & some_of (separated (token symbol.Comma) param) & token symbol.RightParen & body)

abbrev pub file : Grammar FileTree
file = made (λ patterns. record { patterns = patterns }) (star pattern)
