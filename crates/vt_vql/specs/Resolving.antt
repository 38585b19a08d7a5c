-- The program that patterns make over a metamodel, where they are narrow.
use Rattle.std.specs.Prelude.{ℕ, zero, suc, ◌+◌, ◌&&◌, ◌||◌, ◌==◌, List, [], ◌∷◌, ◌++◌, map, filter, length, flat_map, slice_get, Bool, true, false, not, nat_le, is_some, if◌then◌else◌, Option, Some, None, option_map, option_and_then, unwrap_or}
use Rattle.std.specs.List.{list_all, list_any}
use Rattle.vt_base.specs.declared.numbers.AttrId.{AttrId}
use Rattle.vt_base.specs.declared.numbers.ClassId.{ClassId}
use Rattle.vt_base.specs.declared.value.Kind.{Kind}
use Rattle.vt_base.specs.declared.value.Kind.TheVariants as kind
use Rattle.vt_facts.specs.Parts.{◌>>=◌}
use Rattle.vt_model.specs.Metamodel.{Metamodel, class_named, feature}
use Rattle.vt_facts.specs.Names.{is_distinct}
use Rattle.vt_model.specs.declared.metamodel.Feature.{Feature}
use Rattle.vt_model.specs.declared.metamodel.Feature.TheVariants as a_feature
use Rattle.vt_query.specs.declared.program.Program.{Program}
use Rattle.vt_query.specs.declared.program.Pattern.{Pattern}
use Rattle.vt_query.specs.declared.program.Body.{Body}
use Rattle.vt_query.specs.declared.program.Param.{Param}
use Rattle.vt_query.specs.declared.program.Ty.{Ty}
use Rattle.vt_query.specs.declared.program.Ty.TheVariants.{Class}
use Rattle.vt_query.specs.declared.program.Term.{Term}
use Rattle.vt_query.specs.declared.program.Term.TheVariants.{Var}
use Rattle.vt_query.specs.declared.program.Constraint.{Constraint}
use Rattle.vt_query.specs.declared.program.Constraint.TheVariants.{Is, Attr, Ref}
use Rattle.vt_vql.specs.Scope.{Scope, number_of, with_term, with_constraint, with_constraints}
use Rattle.vt_vql.specs.declared.narrow.Use.{Use}
use Rattle.vt_vql.specs.declared.tree.FileTree.{FileTree}
use Rattle.vt_vql.specs.declared.tree.PatternTree.{PatternTree}
use Rattle.vt_vql.specs.declared.tree.ParamTree.{ParamTree}
use Rattle.vt_vql.specs.declared.tree.ConstraintTree.{ConstraintTree}
use Rattle.vt_vql.specs.declared.tree.ConstraintTree.TheVariants as tree

-- ---- names

-- each of a list, and none where one is none
abbrev pub all_of : {A B : Type 0} → (A → Option B) → List A → Option (List B)
all_of f [] = Some []
all_of f (x ∷ xs) = do
  y ← f x
  ys ← all_of f xs
  Some (y ∷ ys)

-- a declared type is the name of a class
abbrev pub type_of : Metamodel → Option (List ℕ) → Option (Option Ty)
type_of meta None = Some None
type_of meta (Some name) = option_map (λ c. Some (Class c)) (class_named meta name)

abbrev pub param_of : Metamodel → ParamTree → Option Param
param_of meta p = option_map (λ ty. record { name = p.name; ty = ty }) (type_of meta p.ty)

-- a declared type is one more constraint, of the parameter with this number
abbrev pub declared : ℕ → Option Ty → List Constraint
declared i None = []
declared i (Some ty) = Is ty (Var i) ∷ []

-- those of the parameters from the i-th on
abbrev pub declared_from : ℕ → List Param → List Constraint
declared_from i [] = []
declared_from i (p ∷ ps) = declared i p.ty ++ declared_from (i + 1) ps

-- a feature constraint is one of an attribute or of a reference
abbrev pub with_feature : ClassId → Feature → Term → Term → Constraint
with_feature c (a_feature.Attr a) from to = Attr c a from to
with_feature c (a_feature.Ref r) from to = Ref c r from to

abbrev pub constraint_of : Metamodel → Scope → ConstraintTree → Option Constraint
constraint_of meta scope (tree.Type ty t) = do
  c ← class_named meta ty
  Some (Is (Class c) (Var (number_of scope t)))
constraint_of meta scope (tree.Feature class name from to) = do
  c ← class_named meta class
  f ← feature meta c name
  Some (with_feature c f (Var (number_of scope from)) (Var (number_of (with_term scope from) to)))

-- variables are numbered by their first occurrence
abbrev pub constraints_from : Metamodel → Scope → List ConstraintTree → Option (List Constraint)
constraints_from meta scope [] = Some []
constraints_from meta scope (t ∷ ts) = do
  c ← constraint_of meta scope t
  cs ← constraints_from meta (with_constraint scope t) ts
  Some (c ∷ cs)

-- the parameters are the first variables
abbrev pub scope_of : List ParamTree → Scope
scope_of params = map (λ p. Some p.name) params

-- the one body has the declared types first
abbrev pub pattern_of : Metamodel → PatternTree → Option Pattern
pattern_of meta p = do
  params ← all_of (param_of meta) p.params
  constraints ← constraints_from meta (scope_of p.params) p.constraints
  Some (record {
    name = p.name;
    shown = p.shown;
    params = params;
    bodies = record {
      vars = length (with_constraints (scope_of p.params) p.constraints);
      constraints = declared_from 0 params ++ constraints;
    } ∷ [];
  })

-- ---- kinds

-- one kind
abbrev pub is_kind : Kind → Kind → Bool
is_kind kind.Bool kind.Bool = true
is_kind kind.Int kind.Int = true
is_kind kind.Text kind.Text = true
is_kind (kind.Enum d) (kind.Enum e) = d == e
is_kind kind.Obj kind.Obj = true
is_kind k l = false

abbrev pub use_of : Term → Kind → List Use
use_of (Var i) k = record { variable = i; kind = k } ∷ []
use_of t k = []

abbrev pub kind_of_attribute : Metamodel → AttrId → Kind
kind_of_attribute meta a = unwrap_or (option_map (λ info. info.kind) (slice_get meta.attributes a.0)) kind.Obj

-- what the terms of a constraint stand for
abbrev pub uses_of : Metamodel → Constraint → List Use
uses_of meta (Is (Class c) t) = use_of t kind.Obj
uses_of meta (Attr c a from to) = use_of from kind.Obj ++ use_of to (kind_of_attribute meta a)
uses_of meta (Ref c r from to) = use_of from kind.Obj ++ use_of to kind.Obj
uses_of meta c = []

-- no variable has two kinds
abbrev pub agree : Use → Use → Bool
agree u v = not (u.variable == v.variable) || is_kind u.kind v.kind

abbrev pub all_agree : List Use → Bool
all_agree uses = list_all (λ u. list_all (agree u) uses) uses

-- each of the first variables stands in a constraint
abbrev pub each_stands : ℕ → List Use → Bool
each_stands zero uses = true
each_stands (suc n) uses = each_stands n uses && list_any (λ u. u.variable == n) uses

-- ---- narrow patterns

-- at most 16 parameters, and at most 128 constraints, the declared types among them
abbrev pub has_few_constraints : PatternTree → Bool
has_few_constraints p =
    nat_le (length p.params) 16
    && nat_le (length (filter (λ q. is_some q.ty) p.params) + length p.constraints) 128

-- and at most 64 variables
abbrev pub has_few_variables : PatternTree → Bool
has_few_variables p = nat_le (length (with_constraints (scope_of p.params) p.constraints)) 64

-- the uses of all constraints of a body agree, and each variable has one
abbrev pub has_known_uses : Metamodel → Body → Bool
has_known_uses meta b = all_agree (flat_map (uses_of meta) b.constraints) && each_stands b.vars (flat_map (uses_of meta) b.constraints)

abbrev pub has_kinds : Metamodel → Pattern → Bool
has_kinds meta p = list_all (has_known_uses meta) p.bodies

abbrev pub if_has_kinds : Metamodel → Pattern → Option Pattern
if_has_kinds meta p = if has_kinds meta p then Some p else None

-- no two parameters have one name
abbrev pub narrow_pattern : Metamodel → PatternTree → Option Pattern
narrow_pattern meta p =
    if has_few_constraints p && has_few_variables p && is_distinct (map (λ q. q.name) p.params)
    then option_and_then (if_has_kinds meta) (pattern_of meta p)
    else None

-- at most 512 patterns, no two of which have one name
unfoldable pub narrow_program : Metamodel → FileTree → Option Program
narrow_program meta tree =
    if nat_le (length tree.patterns) 512 && is_distinct (map (λ p. p.name) tree.patterns)
    then option_map (λ patterns. record { patterns = patterns }) (all_of (narrow_pattern meta) tree.patterns)
    else None
