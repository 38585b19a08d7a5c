-- Programs whose numbers, names and calls are in order.
use Rattle.std.specs.Prelude.{◌≡◌, ◌≢◌, ℕ, ◌<◌, ◌≤◌, [], length, map, count_by, slice_get, true, All, IfSome, IsSomeAnd}
use Rattle.vt_base.specs.declared.numbers.PatternId.{PatternId}
use Rattle.vt_model.specs.Metamodel.{Metamodel}
use Rattle.vt_facts.specs.Names.{is_distinct}
use Rattle.vt_query.specs.Numbers.{IsConstant, IsType, IsOver}
use Rattle.vt_query.specs.Terms.{is_column}
use Rattle.vt_query.specs.declared.program.Term.{Term}
use Rattle.vt_query.specs.declared.program.Term.TheVariants.{Var, Const}
use Rattle.vt_query.specs.declared.program.Arg.{Arg}
use Rattle.vt_query.specs.declared.program.Arg.TheVariants as arg
use Rattle.vt_query.specs.declared.program.Constraint.{Constraint}
use Rattle.vt_query.specs.declared.program.Constraint.TheVariants.{Is, Attr, Ref, Equal, Differ, Find, Neg, Check, Eval, Agg}
use Rattle.vt_query.specs.declared.program.Body.{Body}
use Rattle.vt_query.specs.declared.program.Pattern.{Pattern}
use Rattle.vt_query.specs.declared.program.Program.{Program}

-- one of so many variables, or a value that is no object
abbrev pub IsTerm : Metamodel → ℕ → Term → Type 0
IsTerm meta vars (Var i) = i < vars
IsTerm meta vars (Const v) = IsConstant meta v

-- a term, or none
abbrev pub IsArgument : Metamodel → ℕ → Arg → Type 0
IsArgument meta vars (arg.Term t) = IsTerm meta vars t
IsArgument meta vars arg.Any = Unit {0}
IsArgument meta vars arg.Column = Unit {0}

-- the called pattern is there and has so many parameters
abbrev pub Takes : Program → PatternId → ℕ → Type 0
Takes program p count = IsSomeAnd (slice_get program.patterns p.0) (λ called. length called.params ≡ count)

-- each variable, class, feature, enum and literal is there, an expression has an item for each of its
-- slots, a call an argument for each parameter, and an aggregate marks one column
abbrev pub IsFormed : Metamodel → Program → ℕ → Constraint → Type 0
IsFormed meta program vars (Is ty t) = IsType meta ty × IsTerm meta vars t
IsFormed meta program vars (Attr c a from to) =
    (c.0 < length meta.classes) × (a.0 < length meta.attributes) × IsTerm meta vars from × IsTerm meta vars to
IsFormed meta program vars (Ref c r from to) =
    (c.0 < length meta.classes) × (r.0 < length meta.references) × IsTerm meta vars from × IsTerm meta vars to
IsFormed meta program vars (Equal a b) = IsTerm meta vars a × IsTerm meta vars b
IsFormed meta program vars (Differ a b) = IsTerm meta vars a × IsTerm meta vars b
IsFormed meta program vars (Find p args) = All (IsTerm meta vars) args × Takes program p (length args)
IsFormed meta program vars (Neg p args) = All (IsArgument meta vars) args × Takes program p (length args) × (count_by is_column args ≡ 0)
IsFormed meta program vars (Check e slots) = IsOver meta (length slots) e × All (λ i. i < vars) slots
IsFormed meta program vars (Eval t e slots) = IsTerm meta vars t × IsOver meta (length slots) e × All (λ i. i < vars) slots
IsFormed meta program vars (Agg kind t p args) =
    IsTerm meta vars t × All (IsArgument meta vars) args × Takes program p (length args) × (count_by is_column args ≡ 1)

-- the parameters are among the variables
pub record IsFormedBody (meta : Metamodel) (program : Program) (params : ℕ) (body : Body) : Type 0 where
  pub room : params ≤ body.vars
  pub constraints : All (IsFormed meta program body.vars) body.constraints

-- the parameters have different names and types that are there, and there is a body
pub record IsFormedPattern (meta : Metamodel) (program : Program) (pattern : Pattern) : Type 0 where
  pub params : is_distinct (map (λ p. p.name) pattern.params) ≡ true
  pub types : All (λ p. IfSome p.ty (IsType meta)) pattern.params
  pub some : pattern.bodies ≢ []
  pub bodies : All (IsFormedBody meta program (length pattern.params)) pattern.bodies

-- the patterns have different names
pub record IsWellFormed (meta : Metamodel) (program : Program) : Type 0 where
  pub names : is_distinct (map (λ p. p.name) program.patterns) ≡ true
  pub patterns : All (IsFormedPattern meta program) program.patterns
