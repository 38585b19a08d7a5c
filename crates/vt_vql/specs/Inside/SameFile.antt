-- The grammar of query files is the same with each common front taken once.
use Rattle.vt_grammar.specs.declared.symbol.Symbol.TheVariants as symbol
use Rattle.vt_grammar.specs.Grammar.{token}
use Rattle.vt_grammar.specs.Forms.{◌&◌, separated, some_of}
use Rattle.vt_grammar.specs.SameAs.{SameAs}
use Rattle.vt_grammar.specs.Inside.SameLaws.{same_itself, same_seq, same_made, same_star, same_after, same_before, same_front_of_two}
use Rattle.vt_tokens.specs.Words.{identifier, feature_name}
use Rattle.vt_vql.specs.Rules.{term, param, shown}
use Rattle.vt_vql.specs.Rules as rule
use Rattle.vt_vql.specs.Inside.Factored as one
use Rattle.vt_vql.specs.declared.tree.ConstraintTree.TheVariants as constraint_tree

-- both constraints begin with a name
same_constraint : SameAs rule.constraint one.constraint
same_constraint = same_front_of_two identifier
    (token symbol.LeftParen & term & token symbol.RightParen)
    (token symbol.Dot & feature_name & token symbol.LeftParen & term & token symbol.Comma & term & token symbol.RightParen)
    (λ x name. constraint_tree.Type name x.1.0)
    (λ x name. constraint_tree.Feature name x.1.0 x.1.1.1.0 x.1.1.1.1.1.0)

same_body : SameAs rule.body one.body
same_body = same_after _ _ _ _ (same_itself (token symbol.LeftBrace))
    (same_before _ _ _ _ (same_star _ _ (same_before _ _ _ _ same_constraint (same_itself (token symbol.Semicolon))))
    (same_itself (token symbol.RightBrace)))

same_pattern : SameAs rule.pattern one.pattern
same_pattern = same_made _ _ _
    (same_seq _ _ _ _ (same_itself shown)
    (same_seq _ _ _ _ (same_itself (token symbol.Pattern))
    (same_seq _ _ _ _ (same_itself identifier)
    (same_seq _ _ _ _ (same_itself (token symbol.LeftParen))
    (same_seq _ _ _ _ (same_itself (some_of (separated (token symbol.Comma) param)))
    (same_seq _ _ _ _ (same_itself (token symbol.RightParen)) same_body))))))

pub same_file : SameAs rule.file one.file
same_file = same_made _ _ _ (same_star _ _ same_pattern)
