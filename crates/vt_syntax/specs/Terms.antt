-- The grammar of what constraints are made of: terms, types, calls and expressions.
use Rattle.std.specs.Prelude.{ℕ, ℤ, neg_ℤ, List, Bool, true, false, Option, Some, None}
use Rattle.vt_base.specs.declared.aggregate.AggKind.TheVariants as kind
use Rattle.vt_grammar.specs.declared.symbol.Symbol.{Symbol}
use Rattle.vt_grammar.specs.declared.symbol.Symbol.TheVariants as symbol
use Rattle.vt_grammar.specs.declared.lexeme.Lexeme.{Lexeme}
use Rattle.vt_grammar.specs.Grammar.{Grammar, token, alt, made, balanced}
use Rattle.vt_grammar.specs.Forms.{◌&◌, separated, some_of, maybe}
use Rattle.vt_syntax.specs.Expressions.{expression_of}
use Rattle.vt_tokens.specs.Words.{identifier, feature_name, number, string}
use Rattle.vt_syntax.specs.declared.tree.TypeTree.{TypeTree}
use Rattle.vt_syntax.specs.declared.tree.TypeTree.TheVariants as type_tree
use Rattle.vt_syntax.specs.declared.tree.RightTree.{RightTree}
use Rattle.vt_syntax.specs.declared.tree.RightTree.TheVariants as right_tree
use Rattle.vt_syntax.specs.declared.tree.AggTree.{AggTree}
use Rattle.vt_syntax.specs.declared.tree.AggTree.TheVariants as agg_tree
use Rattle.vt_syntax.specs.declared.tree.CodeTree.{CodeTree}
use Rattle.vt_syntax.specs.declared.tree.CallTree.{CallTree}
use Rattle.vt_syntax.specs.declared.tree.ArgTree.{ArgTree}
use Rattle.vt_syntax.specs.declared.tree.ArgTree.TheVariants as arg_tree
use Rattle.vt_syntax.specs.declared.tree.TermTree.{TermTree}
use Rattle.vt_syntax.specs.declared.tree.TermTree.TheVariants as term_tree

-- the same lexemes, whose value means nothing
abbrev pub skipped : {A : Type 0} → Grammar A → Grammar (Unit {0})
skipped a = made (λ _. tt) a

-- ID { "." ID }
abbrev pub qualified_name : Grammar (List (List ℕ))
qualified_name = separated (token symbol.Dot) identifier

-- ---- terms

-- a number behind a `-`, or without one
abbrev pub signed : Option Lexeme → ℤ → ℤ
signed None n = n
signed (Some minus) n = neg_ℤ n

-- [ "-" ] NUMBER
abbrev pub integer : Grammar ℤ
integer = made (λ x. signed x.0 x.1) (maybe (token symbol.Minus) & number)

-- "true" | "false"
abbrev pub truth : Grammar Bool
truth = alt (made (λ _. true) (token symbol.True)) (made (λ _. false) (token symbol.False))

-- "_"
abbrev pub blank : Grammar TermTree
blank = made (λ _. term_tree.Blank) (token symbol.Blank)

-- ID "::" ID
abbrev pub literal : Grammar TermTree
literal = made (λ x. term_tree.Literal x.0 x.1.1) (identifier & (token symbol.DoubleColon & feature_name))

-- term = ID | "_" | [ "-" ] NUMBER | STRING | "true" | "false" | ID "::" ID
abbrev pub term : Grammar TermTree
term =
    (alt (made term_tree.Variable identifier)
    (alt blank
    (alt (made term_tree.Int integer)
    (alt (made term_tree.Text string)
    (alt (made term_tree.Bool truth)
    literal)))))

-- type = ID | "java" qname
abbrev pub java_type : Grammar TypeTree
java_type = made (λ x. type_tree.Java x.0.line) (token symbol.Java & qualified_name)

abbrev pub type_name : Grammar TypeTree
type_name = alt (made type_tree.Named identifier) java_type

-- ---- calls and expressions

-- "(" balanced ")" behind `check` or `eval`
abbrev pub code : Symbol → Grammar CodeTree
code word = made (λ x. record { line = x.0.line; expr = expression_of x.1.1.0 })
    (token word & token symbol.LeftParen & balanced & token symbol.RightParen)

-- arg = term | "#" [ ID ]
abbrev pub column : Grammar ArgTree
column = made (λ _. arg_tree.Column) (token symbol.Hash & maybe identifier)

abbrev pub arg : Grammar ArgTree
arg = alt (made arg_tree.Term term) column

-- [ "+" | "*" ]
abbrev pub closure : Grammar (Option ℕ)
closure = maybe (made (λ l. l.line) (alt (token symbol.Plus) (token symbol.Times)))

-- call = ID [ "+" | "*" ] "(" [ arg { "," arg } ] ")"
abbrev pub call_with : Grammar ArgTree → Grammar CallTree
call_with arg = made (λ x. record { pattern = x.0; closure = x.1.0; args = x.1.1.1.0 })
    (identifier & closure & token symbol.LeftParen & some_of (separated (token symbol.Comma) arg) & token symbol.RightParen)

abbrev pub call : Grammar CallTree
call = call_with arg

-- agg = "sum" | "min" | "max" | "avg" | "count"
abbrev pub agg : Grammar AggTree
agg =
    (alt (made (λ _. agg_tree.Of kind.Sum) (token symbol.Sum))
    (alt (made (λ _. agg_tree.Of kind.Min) (token symbol.Min))
    (alt (made (λ _. agg_tree.Of kind.Max) (token symbol.Max))
    (alt (made (λ l. agg_tree.Avg l.line) (token symbol.Avg))
    (made (λ l. agg_tree.Count l.line) (token symbol.Count))))))

-- right = term | "eval" "(" balanced ")" | agg "find" call
abbrev pub aggregate_with : Grammar CallTree → Grammar RightTree
aggregate_with call = made (λ x. right_tree.Aggregate x.0 x.1.1) (agg & token symbol.Find & call)

abbrev pub right_with : Grammar TermTree → Grammar CallTree → Grammar RightTree
right_with term call = alt (made right_tree.Term term) (alt (made right_tree.Eval (code symbol.Eval)) (aggregate_with call))

abbrev pub right : Grammar RightTree
right = right_with term call
