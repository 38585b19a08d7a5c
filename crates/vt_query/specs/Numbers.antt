-- Numbers of classes, enums, literals and slots that are there.
use Rattle.std.specs.Prelude.{ℕ, ◌<◌, length, slice_get, IsSomeAnd}
use Rattle.vt_base.specs.declared.value.Kind.TheVariants as kind
use Rattle.vt_base.specs.declared.value.Value.{Value}
use Rattle.vt_base.specs.declared.value.Value.TheVariants as value
use Rattle.vt_text.specs.declared.expr.Expr.{Expr, Bool, Int, Text, Enum, Slot, Negative', Not', Chain', Row_of-Expr, end_of-Expr, more_of-Expr, Row_of-Operand, end_of-Operand, more_of-Operand}
use Rattle.vt_model.specs.Metamodel.{Metamodel}
use Rattle.vt_query.specs.declared.program.Ty.{Ty}
use Rattle.vt_query.specs.declared.program.Ty.TheVariants.{Class, Kind}

-- the enum is there, and has the literal
abbrev pub IsLiteral : Metamodel → ℕ → ℕ → Type 0
IsLiteral meta e l = IsSomeAnd (slice_get meta.enums e) (λ info. l < length info.literals)

-- no object; a literal is there
abbrev pub IsConstant : Metamodel → Value → Type 0
IsConstant meta (value.Obj o) = ⊥
IsConstant meta (value.Enum e l) = IsLiteral meta e l
IsConstant meta v = Unit {0}

-- a class or an enum is there
abbrev pub IsType : Metamodel → Ty → Type 0
IsType meta (Class c) = c.0 < length meta.classes
IsType meta (Kind (kind.Enum e)) = e < length meta.enums
IsType meta (Kind k) = Unit {0}

abbrev mutual
  -- each slot is one of so many, and each literal is there
  pub IsOver : Metamodel → ℕ → Expr → Type 0
  IsOver meta count (Bool b) = Unit {0}
  IsOver meta count (Int n) = Unit {0}
  IsOver meta count (Text t) = Unit {0}
  IsOver meta count (Enum e l) = IsLiteral meta e l
  IsOver meta count (Slot i) = i < count
  IsOver meta count (Negative' p a) = IsBoxOver meta count a
  IsOver meta count (Not' p a) = IsBoxOver meta count a
  IsOver meta count (Chain' p first q rest) = IsBoxOver meta count first × AreOver meta count rest

  -- so are those of operands
  pub AreOver : Metamodel → ℕ → {m : _} → Row_of-Operand m → Type 0
  AreOver meta count end_of-Operand = Unit {0}
  AreOver meta count (more_of-Operand operator e rest) = IsOver meta count e × AreOver meta count rest

  -- and of the expression in a box
  pub IsBoxOver : Metamodel → ℕ → {m : _} → Row_of-Expr m → Type 0
  IsBoxOver meta count end_of-Expr = Unit {0}
  IsBoxOver meta count (more_of-Expr e rest) = IsOver meta count e
