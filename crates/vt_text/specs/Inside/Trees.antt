-- What is meant by expressions as they are written, over lists as loops go.
use Rattle.std.specs.Prelude.{◌≡◌, List, [], ◌∷◌, ◌++◌, filter, not, if◌then◌else◌, Option, Some, None, option_map, Result, Ok, Err}
use Rattle.std.specs.List.{list_any}
use Rattle.vt_facts.specs.Parts.{◌>>=◌}
use Rattle.vt_base.specs.Names.{EnumNames}
use Rattle.vt_text.specs.declared.expr.Operand.{Operand}
use Rattle.vt_text.specs.declared.tree.Slot.{Slot}
use Rattle.vt_text.specs.declared.tree.OperandTree.{OperandTree}
use Rattle.vt_text.specs.declared.parsing.ExprFault.{ExprFault}
use Rattle.vt_text.specs.declared.parsing.ExprFault.TheVariants.{NotExpr, UnknownLiteral, NoMemory}
use Rattle.vt_text.specs.Parsing.{is_slot, reads, firsts, expr_of}

-- what operands read, from left to right
abbrev pub operand_reads : List OperandTree → List Slot
operand_reads [] = []
operand_reads (o ∷ os) = reads o.expr ++ operand_reads os

-- those, and one more where it isn't among them
unfoldable pub with_first : List Slot → Slot → List Slot
with_first there slot = if list_any (λ own. is_slot own slot) there then there else there ++ slot ∷ []

-- each once where it first stands, but those that are there
unfoldable pub beyond : List Slot → List Slot → List Slot
beyond there slots = filter (λ t. not (list_any (λ own. is_slot own t) there)) (firsts slots)

-- operands over slots, and none where a literal isn't there
abbrev pub operand_exprs : List EnumNames → List Slot → List OperandTree → Option (List Operand)
operand_exprs enums slots [] = Some []
operand_exprs enums slots (o ∷ os) =
    expr_of enums slots o.expr >>= λ here. option_map (λ operands. record { operator = o.operator; expr = here } ∷ operands) (operand_exprs enums slots os)

-- what is made, or that a literal isn't there; memory may run out
abbrev pub Makes : {A : Type 0} → Result A ExprFault → Option A → Type 0
Makes (Ok x) made = made ≡ Some x
Makes (Err UnknownLiteral) made = made ≡ None
Makes (Err NotExpr) made = ⊥
Makes (Err NoMemory) made = Unit {0}
