-- What constraints and declared types make is narrow.
use Rattle.std.proofs.Common.{ℕ, ◌≡◌, ◌≤◌, ◌<◌, ◌+◌, List, [], ◌∷◌, length, Option, Some, None, refl, subst, arith, position, nat_eq}
use Rattle.std.specs.Prelude.{All}
use Rattle.std.specs.List.{AllByRecursion}
use Rattle.std.specs.Cmp.Lexicographic.{pointwise}
use Rattle.std.proofs.lemmas.List.Elements.{All-from_recursion, All-append}
use Rattle.vt_base.specs.declared.numbers.ClassId.{ClassId}
use Rattle.vt_facts.specs.Parts.{◌>>=◌}
use Rattle.vt_model.specs.Base.{counts_of}
use Rattle.vt_model.specs.Metamodel.{Metamodel, class_named, feature, or_reference, is_attribute_of, is_reference_of}
use Rattle.vt_model.specs.declared.metamodel.Feature.{Feature}
use Rattle.vt_model.specs.declared.metamodel.Feature.TheVariants as a_feature
use Rattle.vt_query.specs.Narrow.{IsNarrowConstraint}
use Rattle.vt_query.specs.declared.program.Param.{Param}
use Rattle.vt_query.specs.declared.program.Ty.{Ty}
use Rattle.vt_query.specs.declared.program.Ty.TheVariants.{Class}
use Rattle.vt_query.specs.declared.program.Ty.TheVariants as ty
use Rattle.vt_query.specs.declared.program.Term.TheVariants.{Var}
use Rattle.vt_query.specs.declared.program.Constraint.{Constraint}
use Rattle.vt_query.specs.declared.program.Constraint.TheVariants.{Is}
use Rattle.vt_vql.specs.Scope.{Scope, number_of, with_term, with_constraint, with_constraints}
use Rattle.vt_vql.specs.Resolving.{type_of, param_of, declared, declared_from, with_feature, constraint_of, constraints_from}
use Rattle.vt_vql.specs.declared.tree.ParamTree.{ParamTree}
use Rattle.vt_vql.specs.declared.tree.ConstraintTree.{ConstraintTree}
use Rattle.vt_vql.specs.declared.tree.ConstraintTree.TheVariants as tree
use Rattle.vt_vql.proofs.MadeLemmas.{bind_some, map_some, position_within}
use Rattle.vt_vql.proofs.ScopeLemmas.{term_grows, constraints_grow, number_below}
use Rattle.std.proofs.lemmas.Option.{same_Some}

-- ---- classes and features are there

class_there : (meta : Metamodel) (name : List ℕ) (c : ClassId) → class_named meta name ≡ Some c → c.0 < length meta.classes
class_there meta name c e =
    let w = map_some (λ (n : ℕ). record { 0 = n }) (position (λ k. pointwise nat_eq k.name name) meta.classes) c e in
    subst (λ (k : ClassId). k.0 < length meta.classes) w.2 (position_within _ meta.classes w.0 w.1)

abbrev IsThere : Metamodel → Feature → Type 0
IsThere meta (a_feature.Attr a) = a.0 < length meta.attributes
IsThere meta (a_feature.Ref r) = r.0 < length meta.references

either_there : (meta : Metamodel) (attribute reference : Option ℕ) (f : Feature)
    → ((n : ℕ) → attribute ≡ Some n → n < length meta.attributes) → ((n : ℕ) → reference ≡ Some n → n < length meta.references)
    → or_reference attribute reference ≡ Some f → IsThere meta f
either_there meta (Some a) reference f h k e = subst (IsThere meta) (same_Some _ f e) (h a refl)
either_there meta None (Some r) f h k e = subst (IsThere meta) (same_Some _ f e) (k r refl)
either_there meta None None f h k e = absurd (let n : None ≡ Some f = e in cc)

feature_there : (meta : Metamodel) (c : ClassId) (name : List ℕ) (f : Feature) → feature meta c name ≡ Some f → IsThere meta f
feature_there meta c name f e =
    either_there meta (position (is_attribute_of meta c name) meta.attributes) (position (is_reference_of meta c name) meta.references) f
    (position_within _ meta.attributes) (position_within _ meta.references) e

-- ---- constraints

module _ (meta : Metamodel) (vars : ℕ) where
  feature_narrow : (c : ClassId) (f : Feature) (i j : ℕ) → c.0 < length meta.classes → IsThere meta f → i < vars → j < vars
      → IsNarrowConstraint (counts_of meta) vars (with_feature c f (Var i) (Var j))
  feature_narrow c (a_feature.Attr a) i j h k l m = (h, k, l, m)
  feature_narrow c (a_feature.Ref r) i j h k l m = (h, k, l, m)

  constraint_narrow : (scope : Scope) (t : ConstraintTree) (c : Constraint) → constraint_of meta scope t ≡ Some c → length (with_constraint scope t) ≤ vars
      → IsNarrowConstraint (counts_of meta) vars c
  constraint_narrow scope (tree.Type name t) c e room =
      let class = bind_some (class_named meta name) (λ k. Some (Is (Class k) (Var (number_of scope t)))) c e in
      let number : number_of scope t < vars = omega (arith, number_below scope t) in
      subst (IsNarrowConstraint (counts_of meta) vars) (same_Some _ c class.2) (class_there meta name class.0 class.1, number)
  constraint_narrow scope (tree.Feature name feature_name from to) c e room =
      let class = bind_some (class_named meta name) (λ k. feature meta k feature_name >>= λ f. Some (with_feature k f (Var (number_of scope from)) (Var (number_of (with_term scope from) to)))) c e in
      let known = bind_some (feature meta class.0 feature_name) (λ f. Some (with_feature class.0 f (Var (number_of scope from)) (Var (number_of (with_term scope from) to)))) c class.2 in
      let first : number_of scope from < vars = omega (arith, number_below scope from, term_grows (with_term scope from) to) in
      let second : number_of (with_term scope from) to < vars = omega (arith, number_below (with_term scope from) to) in
      subst (IsNarrowConstraint (counts_of meta) vars) (same_Some _ c known.2)
      (feature_narrow class.0 known.0 _ _ (class_there meta name class.0 class.1) (feature_there meta class.0 feature_name known.0 known.1) first second)

  pub constraints_narrow : (scope : Scope) (ts : List ConstraintTree) (cs : List Constraint) → constraints_from meta scope ts ≡ Some cs
      → length (with_constraints scope ts) ≤ vars → AllByRecursion (IsNarrowConstraint (counts_of meta) vars) cs
  constraints_narrow scope [] cs e room = subst (AllByRecursion (IsNarrowConstraint (counts_of meta) vars)) (same_Some [] cs e) tt
  constraints_narrow scope (t ∷ ts) cs e room =
      let head = bind_some (constraint_of meta scope t) (λ c. constraints_from meta (with_constraint scope t) ts >>= λ rest. Some (c ∷ rest)) cs e in
      let tail = bind_some (constraints_from meta (with_constraint scope t) ts) (λ rest. Some (head.0 ∷ rest)) cs head.2 in
      let within : length (with_constraint scope t) ≤ vars = omega (arith, room, constraints_grow (with_constraint scope t) ts) in
      subst (AllByRecursion (IsNarrowConstraint (counts_of meta) vars)) (same_Some _ cs tail.2)
      (constraint_narrow scope t head.0 head.1 within, constraints_narrow (with_constraint scope t) ts tail.0 tail.1 room)

  -- ---- declared types

  -- a class that is there, where one is declared
  abbrev pub IsKnown : Option Ty → Type 0
  IsKnown None = Unit {0}
  IsKnown (Some (ty.Class c)) = c.0 < length meta.classes
  IsKnown (Some (ty.Kind k)) = ⊥

  type_known : (name : Option (List ℕ)) (t : Option Ty) → type_of meta name ≡ Some t → IsKnown t
  type_known None t e = subst IsKnown (same_Some None t e) tt
  type_known (Some name) t e =
      let w = map_some (λ c. Some (Class c)) (class_named meta name) t e in
      subst IsKnown w.2 (class_there meta name w.0 w.1)

  pub param_known : (p : ParamTree) (q : Param) → param_of meta p ≡ Some q → IsKnown q.ty
  param_known p q e =
      let w = map_some {B = Param} (λ t. record { name = p.name; ty = t }) (type_of meta p.ty) q e in
      subst (λ (r : Param). IsKnown r.ty) w.2 (type_known p.ty w.0 w.1)

  declared_narrow : (i : ℕ) (t : Option Ty) → IsKnown t → i < vars → All (IsNarrowConstraint (counts_of meta) vars) (declared i t)
  declared_narrow i None h l = All-from_recursion (IsNarrowConstraint (counts_of meta) vars) [] tt
  declared_narrow i (Some (ty.Class c)) h l = All-from_recursion (IsNarrowConstraint (counts_of meta) vars) (Is (Class c) (Var i) ∷ []) ((h, l), tt)
  declared_narrow i (Some (ty.Kind k)) h l = absurd h

  pub all_declared : (i : ℕ) (params : List Param) → AllByRecursion (λ p. IsKnown p.ty) params → i + length params ≤ vars
      → All (IsNarrowConstraint (counts_of meta) vars) (declared_from i params)
  all_declared i [] h l = All-from_recursion (IsNarrowConstraint (counts_of meta) vars) [] tt
  all_declared i (p ∷ ps) h l =
      All-append (IsNarrowConstraint (counts_of meta) vars) (declared i p.ty) (declared_from (i + 1) ps)
      (declared_narrow i p.ty h.0 (omega arith)) (all_declared (i + 1) ps h.1 (omega arith))
