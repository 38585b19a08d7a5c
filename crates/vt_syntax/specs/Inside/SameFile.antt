-- The grammar of query files is the same with each common front taken once.
use Rattle.std.proofs.Common.{ℕ, List, inr}
use Rattle.vt_grammar.specs.declared.symbol.Symbol.TheVariants as symbol
use Rattle.vt_grammar.specs.Grammar.{Grammar, token, alt, made}
use Rattle.vt_grammar.specs.Forms.{◌&◌, separated, some_of}
use Rattle.vt_grammar.specs.SameAs.{SameAs}
use Rattle.vt_grammar.specs.Inside.SameLaws.{same_itself, same_seq, same_made, same_alt, same_star, same_after, same_before, same_separated, same_some_of}
use Rattle.vt_tokens.specs.Words.{identifier, feature_name}
use Rattle.vt_syntax.specs.Terms.{java_type, type_name, column, closure, agg, code, call_with, aggregate_with, right_with}
use Rattle.vt_syntax.specs.Terms as written
use Rattle.vt_syntax.specs.Rules.{find_with, check, enclosed_with, ends_with, path_of, body_with, pattern_with, file_with, annotation, shown, param, package_line, import_line}
use Rattle.vt_syntax.specs.Rules as rule
use Rattle.vt_syntax.specs.Inside.Factored.{literal_rest, variable_rest, named, plain, equal_rest, differ_rest, comparison, type_rest, path_rest, compared_rest, constraint_rest, named_constraint, plain_constraint, java_constraint}
use Rattle.vt_syntax.specs.Inside.Factored as one
use Rattle.vt_syntax.specs.Inside.SameChoices.{same_through, same_split, same_join, same_named, same_turned, same_regroup, same_order, same_gathered, same_ended}
use Rattle.vt_syntax.specs.declared.tree.ConstraintTree.TheVariants as constraint_tree
use Rattle.vt_syntax.specs.declared.tree.TypeTree.TheVariants as type_tree
use Rattle.vt_syntax.specs.declared.tree.RightTree.TheVariants as right_tree
use Rattle.vt_syntax.specs.declared.tree.TermTree.TheVariants as term_tree
use Rattle.vt_syntax.specs.declared.tree.ArgTree.TheVariants as arg_tree

-- what a function of an ID gives
abbrev behind_name : {A : Type 0} → Grammar (List ℕ → A) → Grammar A
behind_name rest = made (λ x. x.1 x.0) (identifier & rest)

-- ---- terms

-- a literal or a variable begins with a name
same_name : SameAs (alt written.literal (made term_tree.Variable identifier)) named
same_name = same_through _ (alt (behind_name literal_rest) (behind_name variable_rest)) _
    (same_alt _ _ _ _
    (same_turned (λ x name. term_tree.Literal name x.1) identifier (token symbol.DoubleColon & feature_name))
    (same_ended term_tree.Variable identifier (λ ls y h. inr (h.0, h.1.0, h.1.1))))
    (same_join identifier literal_rest variable_rest)

same_term : SameAs written.term one.term
same_term = same_through _ (alt (alt written.literal (made term_tree.Variable identifier)) plain) _
    (same_order _ _ _ _ _ _)
    (same_alt _ _ _ _ same_name (same_itself plain))

-- ---- calls

same_call : SameAs written.call one.call
same_call = same_made _ _ _
    (same_seq _ _ _ _ (same_itself identifier)
    (same_seq _ _ _ _ (same_itself closure)
    (same_seq _ _ _ _ (same_itself (token symbol.LeftParen))
    (same_seq _ _ _ _
    (same_some_of _ _ (same_separated _ _ _ _ (same_itself (token symbol.Comma))
    (same_alt _ _ _ _ (same_made arg_tree.Term _ _ same_term) (same_itself column))))
    (same_itself (token symbol.RightParen))))))

same_right : SameAs written.right one.right
same_right = same_alt _ _ _ _ (same_made right_tree.Term _ _ same_term)
    (same_alt _ _ _ _ (same_itself (made right_tree.Eval (code symbol.Eval)))
    (same_made _ _ _ (same_seq _ _ _ _ (same_itself agg) (same_seq _ _ _ _ (same_itself (token symbol.Find)) same_call))))

same_find : SameAs (find_with written.call) (find_with one.call)
same_find = same_made _ _ _ (same_seq _ _ _ _ (same_itself _) (same_seq _ _ _ _ (same_itself (token symbol.Find)) same_call))

-- ---- constraints

same_enclosed : SameAs (enclosed_with written.term) (enclosed_with one.term)
same_enclosed = same_made _ _ _ (same_seq _ _ _ _ (same_itself (token symbol.LeftParen)) (same_seq _ _ _ _ same_term (same_itself (token symbol.RightParen))))

same_ends : SameAs (ends_with written.term) (ends_with one.term)
same_ends = same_made _ _ _
    (same_seq _ _ _ _ (same_itself (token symbol.Dot))
    (same_seq _ _ _ _ (same_itself (separated (token symbol.Dot) feature_name))
    (same_seq _ _ _ _ (same_itself (token symbol.LeftParen))
    (same_seq _ _ _ _ same_term
    (same_seq _ _ _ _ (same_itself (token symbol.Comma))
    (same_seq _ _ _ _ same_term (same_itself (token symbol.RightParen))))))))

-- a type is a name, or begins with `java`
same_type : SameAs rule.type_constraint (alt (behind_name type_rest) java_constraint)
same_type = same_through _ (made (λ x. constraint_tree.Type x.0 x.1) (type_name & enclosed_with one.term)) _
    (same_made _ _ _ (same_seq _ _ _ _ (same_itself type_name) same_enclosed))
    (same_through _ _ _
    (same_split (λ x. constraint_tree.Type x.0 x.1) (made type_tree.Named identifier) java_type (enclosed_with one.term))
    (same_alt _ _ _ _
    (same_named type_tree.Named (λ d t. constraint_tree.Type d t) identifier (enclosed_with one.term))
    (same_itself java_constraint)))

same_path : SameAs rule.path_constraint (behind_name path_rest)
same_path = same_through _ (made (λ x. path_of x.1 x.0) (identifier & ends_with one.term)) _
    (same_made _ _ _ (same_seq _ _ _ _ (same_itself identifier) same_ends))
    (same_turned path_of identifier (ends_with one.term))

-- both comparisons begin with a term
same_equal : SameAs rule.equal (made (λ x. x.1 x.0) (one.term & equal_rest))
same_equal = same_through _ (made (λ x. constraint_tree.Equal x.0 x.1.1) (one.term & (token symbol.Equal & one.right))) _
    (same_made _ _ _ (same_seq _ _ _ _ same_term (same_seq _ _ _ _ (same_itself (token symbol.Equal)) same_right)))
    (same_turned (λ x left. constraint_tree.Equal left x.1) one.term (token symbol.Equal & one.right))

same_differ : SameAs rule.differ (made (λ x. x.1 x.0) (one.term & differ_rest))
same_differ = same_through _ (made (λ x. constraint_tree.Differ x.0 x.1.1) (one.term & (token symbol.Differ & one.term))) _
    (same_made _ _ _ (same_seq _ _ _ _ same_term (same_seq _ _ _ _ (same_itself (token symbol.Differ)) same_term)))
    (same_turned (λ x left. constraint_tree.Differ left x.1) one.term (token symbol.Differ & one.term))

-- and the term with a name, or without one
same_comparisons : SameAs (alt rule.equal rule.differ) (alt (behind_name compared_rest) plain_constraint)
same_comparisons =
    same_through _ _ _ (same_alt _ _ _ _ same_equal same_differ)
    (same_through _ _ _ (same_join one.term equal_rest differ_rest)
    (same_through _ _ _ (same_split (λ x. x.1 x.0) named plain comparison)
    (same_alt _ _ _ _ (same_regroup identifier one.name_rest comparison) (same_itself plain_constraint))))

same_named_ones : SameAs (alt (behind_name type_rest) (alt (behind_name path_rest) (behind_name compared_rest))) named_constraint
same_named_ones =
    same_through _ _ _ (same_alt _ _ _ _ (same_itself (behind_name type_rest)) (same_join identifier path_rest compared_rest))
    (same_join identifier type_rest (alt path_rest compared_rest))

same_constraint : SameAs rule.constraint one.constraint
same_constraint = same_alt _ _ _ _ same_find (same_alt _ _ _ _ (same_itself check)
    (same_through _ _ _ (same_alt _ _ _ _ same_type (same_alt _ _ _ _ same_path same_comparisons))
    (same_through _ _ _ (same_gathered (behind_name type_rest) java_constraint (behind_name path_rest) (behind_name compared_rest) plain_constraint)
    (same_alt _ _ _ _ (same_itself java_constraint) (same_alt _ _ _ _ same_named_ones (same_itself plain_constraint))))))

-- ---- patterns and files

same_body : SameAs (body_with rule.constraint) one.body
same_body = same_made _ _ _
    (same_after _ _ _ _ (same_itself (token symbol.LeftBrace))
    (same_before _ _ _ _ (same_star _ _ (same_before _ _ _ _ same_constraint (same_itself (token symbol.Semicolon))))
    (same_itself (token symbol.RightBrace))))

same_pattern : SameAs (pattern_with (body_with rule.constraint)) one.pattern
same_pattern = same_made _ _ _
    (same_seq _ _ _ _ (same_star _ _ (same_itself annotation))
    (same_seq _ _ _ _ (same_itself shown)
    (same_seq _ _ _ _ (same_itself (token symbol.Pattern))
    (same_seq _ _ _ _ (same_itself identifier)
    (same_seq _ _ _ _ (same_itself (token symbol.LeftParen))
    (same_seq _ _ _ _ (same_itself (some_of (separated (token symbol.Comma) param)))
    (same_seq _ _ _ _ (same_itself (token symbol.RightParen))
    (same_separated _ _ _ _ (same_itself (token symbol.Or)) same_body))))))))

pub same_file : SameAs rule.file one.file
same_file = same_made _ _ _
    (same_seq _ _ _ _ (same_itself package_line)
    (same_seq _ _ _ _ (same_star _ _ (same_itself import_line)) (same_star _ _ same_pattern)))
