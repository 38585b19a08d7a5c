-- The expression that is meant by one as it is written, and its slots.
use Rattle.std.specs.Prelude.{◌≡◌, ℕ, List, [], ◌∷◌, ◌++◌, filter, position, Bool as Flag, true, false, not, ◌&&◌, Option, Some, None, option_map, unwrap_or}
use Rattle.vt_facts.specs.Names.{is_name}
use Rattle.vt_facts.specs.Parts.{◌>>=◌}
use Rattle.vt_base.specs.Names.{EnumNames, literal_numbers}
use Rattle.vt_grammar.specs.declared.lexeme.Lexeme.{Lexeme}
use Rattle.vt_grammar.specs.Grammar.{Spells}
use Rattle.vt_text.specs.ExpressionRules.{expression}
use Rattle.vt_text.specs.declared.expr.Operand.{Operand}
use Rattle.vt_text.specs.declared.expr.Expr.{Expr}
use Rattle.vt_text.specs.declared.expr.Expr.TheVariants as expr
use Rattle.vt_text.specs.declared.tree.Slot.{Slot as ASlot}
use Rattle.vt_text.specs.declared.tree.ExprTree.{ExprTree, Bool, Int, Text, Literal, Slot, Negative', Not', Chain', Row_of-ExprTree, end_of-ExprTree, more_of-ExprTree, Row_of-OperandTree, end_of-OperandTree, more_of-OperandTree}
use Rattle.vt_text.specs.declared.parsing.Parsed.{Parsed}
use Rattle.vt_text.specs.declared.parsing.ExprFault.{ExprFault}
use Rattle.vt_text.specs.declared.parsing.ExprFault.TheVariants.{NotExpr, UnknownLiteral, NoMemory}

-- ---- slots

abbrev pub is_attr : Option (List ℕ) → Option (List ℕ) → Flag
is_attr None None = true
is_attr (Some a) (Some b) = is_name a b
is_attr a b = false

-- one variable, or one attribute of one variable
abbrev pub is_slot : ASlot → ASlot → Flag
is_slot a b = is_name a.name b.name && is_attr a.attr b.attr

abbrev mutual
  -- what an expression reads, from left to right
  pub reads : ExprTree → List ASlot
  reads (Bool b) = []
  reads (Int n) = []
  reads (Text t) = []
  reads (Literal e l) = []
  reads (Slot s) = s ∷ []
  reads (Negative' p a) = boxed_reads a
  reads (Not' p a) = boxed_reads a
  reads (Chain' p first q rest) = boxed_reads first ++ further_reads rest

  pub further_reads : {m : _} → Row_of-OperandTree m → List ASlot
  further_reads end_of-OperandTree = []
  further_reads (more_of-OperandTree operator e rest) = reads e ++ further_reads rest

  pub boxed_reads : {m : _} → Row_of-ExprTree m → List ASlot
  boxed_reads end_of-ExprTree = []
  boxed_reads (more_of-ExprTree e rest) = reads e

-- each once, where it first stands
abbrev pub firsts : List ASlot → List ASlot
firsts [] = []
firsts (s ∷ ss) = s ∷ filter (λ t. not (is_slot s t)) (firsts ss)

-- one slot for each variable, and for each attribute of one
abbrev pub slots_of : ExprTree → List ASlot
slots_of tree = firsts (reads tree)

-- the number of a slot is its place among them
abbrev pub place_of : List ASlot → ASlot → ℕ
place_of slots s = unwrap_or (position (is_slot s) slots) 0

-- ---- expressions

abbrev mutual
  -- the expression over these slots, and none where a literal isn't there
  pub expr_of : List EnumNames → List ASlot → ExprTree → Option Expr
  expr_of enums slots (Bool b) = Some (expr.Bool b)
  expr_of enums slots (Int n) = Some (expr.Int n)
  expr_of enums slots (Text t) = Some (expr.Text t)
  expr_of enums slots (Literal e l) = option_map (λ numbers. expr.Enum numbers.0 numbers.1) (literal_numbers enums e l)
  expr_of enums slots (Slot s) = Some (expr.Slot (place_of slots s))
  expr_of enums slots (Negative' p a) = option_map (λ e. expr.Negative e) (boxed_expr enums slots a)
  expr_of enums slots (Not' p a) = option_map (λ e. expr.Not e) (boxed_expr enums slots a)
  expr_of enums slots (Chain' p first q rest) = boxed_expr enums slots first >>= λ f. option_map (λ operands. expr.Chain f operands) (further_exprs enums slots rest)

  pub further_exprs : List EnumNames → List ASlot → {m : _} → Row_of-OperandTree m → Option (List Operand)
  further_exprs enums slots end_of-OperandTree = Some []
  further_exprs enums slots (more_of-OperandTree operator e rest) =
      expr_of enums slots e >>= λ here. option_map (λ operands. record { operator = operator; expr = here } ∷ operands) (further_exprs enums slots rest)

  pub boxed_expr : List EnumNames → List ASlot → {m : _} → Row_of-ExprTree m → Option Expr
  boxed_expr enums slots end_of-ExprTree = None
  boxed_expr enums slots (more_of-ExprTree e rest) = expr_of enums slots e

-- the slots of a tree, and its expression over them
pub record IsMeantBy (enums : List EnumNames) (tree : ExprTree) (parsed : Parsed) : Type 0 where
  pub slots : parsed.slots ≡ slots_of tree
  pub expr : expr_of enums (slots_of tree) tree ≡ Some parsed.expr

-- why a tree has no expression; want of memory may stand for any answer
abbrev pub IsTreeFault : List EnumNames → ExprTree → ExprFault → Type 0
IsTreeFault enums tree NotExpr = ⊥
IsTreeFault enums tree UnknownLiteral = expr_of enums (slots_of tree) tree ≡ None
IsTreeFault enums tree NoMemory = Unit {0}

-- ---- from lexemes

-- the lexemes spell a tree, and this is meant by it
pub record IsParsed (attributes : Flag) (enums : List EnumNames) (ls : List Lexeme) (parsed : Parsed) : Type 0 where
  pub tree : ExprTree
  pub spelled : Spells (expression attributes) ls tree
  pub meant : IsMeantBy enums tree parsed

-- they spell one that names a literal which isn't there
pub record LacksLiteral (attributes : Flag) (enums : List EnumNames) (ls : List Lexeme) : Type 0 where
  pub tree : ExprTree
  pub spelled : Spells (expression attributes) ls tree
  pub none : expr_of enums (slots_of tree) tree ≡ None

-- they are no expression
abbrev pub IsNoExpression : Flag → List Lexeme → Type 0
IsNoExpression attributes ls = (tree : ExprTree) → Spells (expression attributes) ls tree → ⊥

-- why they aren't parsed; want of memory may stand for any answer
abbrev pub IsFaultOf : Flag → List EnumNames → List Lexeme → ExprFault → Type 0
IsFaultOf attributes enums ls NotExpr = IsNoExpression attributes ls
IsFaultOf attributes enums ls UnknownLiteral = LacksLiteral attributes enums ls
IsFaultOf attributes enums ls NoMemory = Unit {0}
