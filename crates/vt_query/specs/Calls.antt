-- Which patterns a pattern calls.
use Rattle.std.specs.Prelude.{◌≡◌, ℕ, ◌<◌, Contains, slice_get, Option, Some, None}
use Rattle.vt_base.specs.declared.numbers.PatternId.{PatternId}
use Rattle.vt_query.specs.declared.program.Body.{Body}
use Rattle.vt_query.specs.declared.program.Constraint.{Constraint}
use Rattle.vt_query.specs.declared.program.Constraint.TheVariants.{Find, Neg, Agg}
use Rattle.vt_query.specs.declared.program.Pattern.{Pattern}
use Rattle.vt_query.specs.declared.program.Program.{Program}

-- the pattern that a constraint calls
abbrev pub called : Constraint → Option PatternId
called (Find p args) = Some p
called (Neg p args) = Some p
called (Agg kind t p args) = Some p
called c = None

-- a constraint of one of the pattern's bodies calls the other pattern
pub record Calls (program : Program) (p q : PatternId) : Type 0 where
  pub pattern : Pattern
  pub at : slice_get program.patterns p.0 ≡ Some pattern
  pub body : Body
  pub of : Contains pattern.bodies body
  pub constraint : Constraint
  pub asks : Contains body.constraints constraint
  pub calls : called constraint ≡ Some q

-- no pattern calls itself, directly or through others: patterns have ranks, and each calls only
-- those of lower rank
pub record IsAcyclic (program : Program) : Type 0 where
  pub rank : PatternId → ℕ
  pub falls : (p q : PatternId) → Calls program p q → rank q < rank p
