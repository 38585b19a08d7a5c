-- What is meant by what is spelled.
use Rattle.std.proofs.Common.{◌≡◌, Bool, List, Some, None, Result, Ok, Err, IfOk, IfErr, sym, ◌∙◌, ap, subst}
use Rattle.vt_base.specs.Names.{EnumNames}
use Rattle.vt_grammar.specs.declared.lexeme.Lexeme.{Lexeme}
use Rattle.vt_grammar.specs.Grammar.{Spells}
use Rattle.vt_text.specs.declared.expr.Expr.{Expr}
use Rattle.vt_text.specs.declared.tree.Slot.{Slot}
use Rattle.vt_text.specs.declared.tree.ExprTree.{ExprTree}
use Rattle.vt_text.specs.declared.parsing.Parsed.{Parsed}
use Rattle.vt_text.specs.declared.parsing.ExprFault.{ExprFault}
use Rattle.vt_text.specs.declared.parsing.ExprFault.TheVariants.{NotExpr, UnknownLiteral, NoMemory}
use Rattle.vt_text.specs.ExpressionRules.{expression}
use Rattle.vt_text.specs.Parsing.{slots_of, expr_of, IsMeantBy, IsTreeFault, IsParsed, IsFaultOf}
use Rattle.vt_text.specs.Inside.Trees.{Makes}

-- over the slots of a tree, its expression is what is meant by it
pub meant_of : (enums : List EnumNames) (tree : ExprTree) (slots : List Slot) (e : Expr) → slots ≡ slots_of tree → expr_of enums slots tree ≡ Some e
    → IsMeantBy enums tree (record { expr = e; slots = slots })
meant_of enums tree slots e s m = record { slots = s; expr = ap (λ l. expr_of enums l tree) (sym s) ∙ m }

-- and where it has none, that is its fault
pub fault_of : (enums : List EnumNames) (tree : ExprTree) (slots : List Slot) (fault : ExprFault) → slots ≡ slots_of tree → Makes (Err fault) (expr_of enums slots tree)
    → IsTreeFault enums tree fault
fault_of enums tree slots NotExpr s m = absurd m
fault_of enums tree slots UnknownLiteral s m = ap (λ l. expr_of enums l tree) (sym s) ∙ m
fault_of enums tree slots NoMemory s m = tt

module _ (attributes : Bool) (enums : List EnumNames) (ls : List Lexeme) (tree : ExprTree) (spelled : Spells (expression attributes) ls tree) where
  -- what is meant by the tree that lexemes spell is what they mean
  pub accepted_of : (r : Result Parsed ExprFault) → IfOk r (λ parsed. IsMeantBy enums tree parsed) → IfOk r (λ parsed. IsParsed attributes enums ls parsed)
  accepted_of (Ok parsed) m = record { tree = tree; spelled = spelled; meant = m }
  accepted_of (Err fault) m = tt

  pub refused_of : (r : Result Parsed ExprFault) → IfErr r (λ fault. IsTreeFault enums tree fault) → IfErr r (λ fault. IsFaultOf attributes enums ls fault)
  refused_of (Ok parsed) m = tt
  refused_of (Err NotExpr) m = absurd m
  refused_of (Err UnknownLiteral) m = record { tree = tree; spelled = spelled; none = m }
  refused_of (Err NoMemory) m = tt

-- the same of the same lexemes
pub parsed_of_same : (attributes : Bool) (enums : List EnumNames) (ls ms : List Lexeme) (parsed : Parsed) → IsParsed attributes enums ls parsed → ls ≡ ms → IsParsed attributes enums ms parsed
parsed_of_same attributes enums ls ms parsed p e = subst (λ l. IsParsed attributes enums l parsed) e p

pub fault_of_same : (attributes : Bool) (enums : List EnumNames) (ls ms : List Lexeme) (fault : ExprFault) → IsFaultOf attributes enums ls fault → ls ≡ ms → IsFaultOf attributes enums ms fault
fault_of_same attributes enums ls ms fault f e = subst (λ l. IsFaultOf attributes enums l fault) e f
