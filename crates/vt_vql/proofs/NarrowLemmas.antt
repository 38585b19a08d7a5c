-- What a file makes is narrow and in order.
use Rattle.std.proofs.Common.{ℕ, ◌≡◌, ◌≢◌, ◌≤◌, ◌&&◌, true, List, [], ◌∷◌, ◌++◌, length, map, Some, option_map, refl, sym, ◌∙◌, ap, subst, arith, nat_le}
use Rattle.std.specs.Prelude.{flat_map, option_and_then, IfSome, Option, None}
use Rattle.std.proofs.lemmas.List.{length-map}
use Rattle.std.proofs.lemmas.List.Elements.{All-from_recursion, All-append, All-weaker}
use Rattle.vt_facts.specs.Parts.{◌>>=◌}
use Rattle.vt_model.specs.Base.{counts_of}
use Rattle.vt_model.specs.Metamodel.{Metamodel}
use Rattle.vt_facts.specs.Names.{is_distinct}
use Rattle.vt_query.specs.Narrow.{IsVariable, IsNarrowConstraint, IsNarrowBody, IsNarrowPattern, IsNarrow}
use Rattle.vt_query.specs.Numbers.{IsType}
use Rattle.vt_query.specs.WellFormed.{IsTerm, IsFormed, IsFormedBody, IsFormedPattern, IsWellFormed}
use Rattle.vt_query.specs.declared.program.Program.{Program}
use Rattle.vt_query.specs.declared.program.Pattern.{Pattern}
use Rattle.vt_query.specs.declared.program.Body.{Body}
use Rattle.vt_query.specs.declared.program.Param.{Param}
use Rattle.vt_query.specs.declared.program.Ty.{Ty}
use Rattle.vt_query.specs.declared.program.Ty.TheVariants as ty
use Rattle.vt_query.specs.declared.program.Term.{Term}
use Rattle.vt_query.specs.declared.program.Term.TheVariants.{Var, Const}
use Rattle.vt_query.specs.declared.program.Constraint.{Constraint}
use Rattle.vt_query.specs.declared.program.Constraint.TheVariants.{Is, Attr, Ref}
use Rattle.vt_vql.specs.Scope.{with_constraints}
use Rattle.vt_vql.specs.Resolving.{all_of, type_of, param_of, declared_from, constraints_from, scope_of, pattern_of, uses_of, all_agree, each_stands, has_few_constraints, has_few_variables, has_known_uses, has_kinds, if_has_kinds, narrow_pattern, narrow_program}
use Rattle.vt_vql.specs.declared.tree.FileTree.{FileTree}
use Rattle.vt_vql.specs.declared.tree.PatternTree.{PatternTree}
use Rattle.vt_vql.specs.declared.tree.ParamTree.{ParamTree}
use Rattle.vt_vql.proofs.MadeLemmas.{both, last_of_three, if_some, bind_some, then_some, map_some, made_each, made_keeps}
use Rattle.vt_vql.proofs.ScopeLemmas.{constraints_grow, one_stands}
use Rattle.vt_vql.proofs.StandsLemmas.{asked}
use Rattle.vt_vql.proofs.ConstraintLemmas.{IsKnown, param_known, all_declared, constraints_narrow}
use Rattle.std.proofs.lemmas.Option.{same_Some}

-- ---- a pattern

param_keeps : (meta : Metamodel) (p : ParamTree) (q : Param) → param_of meta p ≡ Some q → q.name ≡ p.name
param_keeps meta p q e =
    let w = map_some {B = Param} (λ t. record { name = p.name; ty = t }) (type_of meta p.ty) q e in
    ap (λ (r : Param). r.name) (sym w.2)

names_kept : (meta : Metamodel) (ps : List ParamTree) (qs : List Param) → all_of (param_of meta) ps ≡ Some qs → map (λ q. q.name) qs ≡ map (λ p. p.name) ps
names_kept meta ps qs e = made_keeps (param_of meta) (λ q. q.name) (λ p. p.name) (param_keeps meta) ps qs e

as_many : (meta : Metamodel) (ps : List ParamTree) (qs : List Param) → all_of (param_of meta) ps ≡ Some qs → length qs ≡ length ps
as_many meta ps qs e = sym (length-map qs (λ q. q.name)) ∙ ap length (names_kept meta ps qs e) ∙ length-map ps (λ p. p.name)

abbrev vars_of : PatternTree → ℕ
vars_of p = length (with_constraints (scope_of p.params) p.constraints)

-- the parameters are among the variables
params_within : (meta : Metamodel) (p : PatternTree) (qs : List Param) → all_of (param_of meta) p.params ≡ Some qs → length qs ≤ vars_of p
params_within meta p qs e =
    omega (arith, as_many meta p.params qs e, length-map p.params (λ q. Some q.name), constraints_grow (scope_of p.params) p.constraints)

abbrev body_of : PatternTree → List Param → List Constraint → Body
body_of p params cs = record { vars = vars_of p; constraints = declared_from 0 params ++ cs }

abbrev made_of : PatternTree → List Param → List Constraint → Pattern
made_of p params cs = record { name = p.name; shown = p.shown; params = params; bodies = body_of p params cs ∷ [] }

-- what a narrow pattern is made of
record Parts (meta : Metamodel) (p : PatternTree) (q : Pattern) : Type 0 where
  params : List Param
  cs : List Constraint
  all_params : all_of (param_of meta) p.params ≡ Some params
  all_constraints : constraints_from meta (scope_of p.params) p.constraints ≡ Some cs
  made : made_of p params cs ≡ q
  distinct : is_distinct (map (λ r. r.name) p.params) ≡ true
  kinds : has_kinds meta (made_of p params cs) ≡ true

parts_of : (meta : Metamodel) (p : PatternTree) (q : Pattern) → narrow_pattern meta p ≡ Some q → Parts meta p q
parts_of meta p q e =
    let tested = if_some (has_few_constraints p && has_few_variables p && is_distinct (map (λ r. r.name) p.params)) (option_and_then (if_has_kinds meta) (pattern_of meta p)) q e in
    let found = then_some (if_has_kinds meta) (pattern_of meta p) q tested.1 in
    let known = if_some (has_kinds meta found.0) (Some found.0) q found.2 in
    let params = bind_some (all_of (param_of meta) p.params) (λ qs. constraints_from meta (scope_of p.params) p.constraints >>= λ cs. Some (made_of p qs cs)) found.0 found.1 in
    let cs = bind_some (constraints_from meta (scope_of p.params) p.constraints) (λ cs. Some (made_of p params.0 cs)) found.0 params.2 in
    let made : made_of p params.0 cs.0 ≡ found.0 = same_Some _ _ cs.2 in
    record {
      params = params.0;
      cs = cs.0;
      all_params = params.1;
      all_constraints = cs.1;
      made = made ∙ same_Some found.0 q known.1;
      distinct = last_of_three (has_few_constraints p) (has_few_variables p) _ tested.0;
      kinds = ap (has_kinds meta) made ∙ known.0;
    }

body_narrow : (meta : Metamodel) (p : PatternTree) (q : Pattern) (w : Parts meta p q) → IsNarrowBody (counts_of meta) (body_of p w.params w.cs)
body_narrow meta p q w =
    let narrow = IsNarrowConstraint (counts_of meta) (vars_of p) in
    let uses = both (has_known_uses meta (body_of p w.params w.cs)) true w.kinds in
    let stands = both (all_agree (flat_map (uses_of meta) (declared_from 0 w.params ++ w.cs))) (each_stands (vars_of p) (flat_map (uses_of meta) (declared_from 0 w.params ++ w.cs))) uses.0 in
    record {
      constraints = All-append narrow (declared_from 0 w.params) w.cs
          (all_declared meta (vars_of p) 0 w.params (made_each (param_of meta) (λ r. IsKnown meta (vars_of p) r.ty) (param_known meta (vars_of p)) p.params w.params w.all_params)
          (omega (arith, params_within meta p w.params w.all_params)))
          (All-from_recursion narrow w.cs (constraints_narrow meta (vars_of p) (scope_of p.params) p.constraints w.cs w.all_constraints (omega arith)));
      asked = λ i l. asked meta i (declared_from 0 w.params ++ w.cs) (one_stands i (vars_of p) _ l stands.1);
    }

pattern_narrow : (meta : Metamodel) (p : PatternTree) (q : Pattern) → narrow_pattern meta p ≡ Some q → IsNarrowPattern (counts_of meta) q
pattern_narrow meta p q e =
    let w = parts_of meta p q e in
    subst (IsNarrowPattern (counts_of meta)) w.made (record { body = body_of p w.params w.cs; one = refl; narrow = body_narrow meta p q w })

-- ---- a narrow pattern is in order

term_formed : (meta : Metamodel) (vars : ℕ) (t : Term) → IsVariable vars t → IsTerm meta vars t
term_formed meta vars (Var i) h = h
term_formed meta vars (Const v) h = absurd h

constraint_formed : (meta : Metamodel) (program : Program) (vars : ℕ) (c : Constraint) → IsNarrowConstraint (counts_of meta) vars c → IsFormed meta program vars c
constraint_formed meta program vars (Is (ty.Class c) t) h = (h.0, term_formed meta vars t h.1)
constraint_formed meta program vars (Attr c a from to) h = (h.0, h.1, term_formed meta vars from h.2, term_formed meta vars to h.3)
constraint_formed meta program vars (Ref c r from to) h = (h.0, h.1, term_formed meta vars from h.2, term_formed meta vars to h.3)
constraint_formed meta program vars c h = absurd h

body_formed : (program : Program) (meta : Metamodel) (p : PatternTree) (q : Pattern) (w : Parts meta p q) → IsFormedBody meta program (length w.params) (body_of p w.params w.cs)
body_formed program meta p q w = record {
  room = params_within meta p w.params w.all_params;
  constraints = All-weaker (IsNarrowConstraint (counts_of meta) (vars_of p)) (IsFormed meta program (vars_of p)) (constraint_formed meta program (vars_of p))
      (declared_from 0 w.params ++ w.cs) (body_narrow meta p q w).constraints;
}

type_there : (meta : Metamodel) (vars : ℕ) (t : Option Ty) → IsKnown meta vars t → IfSome t (IsType meta)
type_there meta vars None h = tt
type_there meta vars (Some (ty.Class c)) h = h
type_there meta vars (Some (ty.Kind k)) h = absurd h

not_empty : {A : Type 0} (x : A) (xs : List A) → x ∷ xs ≢ []
not_empty x xs = λ e. cc

pattern_formed : (program : Program) (meta : Metamodel) (p : PatternTree) (q : Pattern) → narrow_pattern meta p ≡ Some q → IsFormedPattern meta program q
pattern_formed program meta p q e =
    let w = parts_of meta p q e in
    let is_typed : Param → Type 0 = λ r. IfSome r.ty (IsType meta) in
    subst (IsFormedPattern meta program) w.made (record {
      params = ap is_distinct (names_kept meta p.params w.params w.all_params) ∙ w.distinct;
      types = All-from_recursion is_typed w.params
          (made_each (param_of meta) is_typed (λ s r known. type_there meta (vars_of p) r.ty (param_known meta (vars_of p) s r known)) p.params w.params w.all_params);
      some = not_empty _ _;
      bodies = All-from_recursion (IsFormedBody meta program (length w.params)) (body_of p w.params w.cs ∷ []) (body_formed program meta p q w, tt);
    })

pattern_keeps : (meta : Metamodel) (p : PatternTree) (q : Pattern) → narrow_pattern meta p ≡ Some q → q.name ≡ p.name
pattern_keeps meta p q e = let w = parts_of meta p q e in ap (λ (r : Pattern). r.name) (sym w.made)

-- ---- a program

-- the patterns, and that their names differ
program_parts : (meta : Metamodel) (file : FileTree) (program : Program) → narrow_program meta file ≡ Some program
    → (all_of (narrow_pattern meta) file.patterns ≡ Some program.patterns) × (is_distinct (map (λ p. p.name) file.patterns) ≡ true)
unfolding narrow_program
program_parts meta file program e =
    let tested = if_some (nat_le (length file.patterns) 512 && is_distinct (map (λ p. p.name) file.patterns)) (option_map {U = Program} (λ patterns. record { patterns = patterns }) (all_of (narrow_pattern meta) file.patterns)) program e in
    let found = map_some {B = Program} (λ patterns. record { patterns = patterns }) (all_of (narrow_pattern meta) file.patterns) program tested.1 in
    (found.1 ∙ ap (λ (r : Program). Some r.patterns) found.2, (both _ _ tested.0).1)

pub made_narrow : (meta : Metamodel) (file : FileTree) (program : Program) → narrow_program meta file ≡ Some program → IsNarrow (counts_of meta) program
made_narrow meta file program e =
    All-from_recursion (IsNarrowPattern (counts_of meta)) program.patterns
    (made_each (narrow_pattern meta) (IsNarrowPattern (counts_of meta)) (pattern_narrow meta) file.patterns program.patterns (program_parts meta file program e).0)

pub made_well_formed : (meta : Metamodel) (file : FileTree) (program : Program) → narrow_program meta file ≡ Some program → IsWellFormed meta program
made_well_formed meta file program e =
    let w = program_parts meta file program e in
    record {
      names = ap is_distinct (made_keeps (narrow_pattern meta) (λ q. q.name) (λ p. p.name) (pattern_keeps meta) file.patterns program.patterns w.0) ∙ w.1;
      patterns = All-from_recursion (IsFormedPattern meta program) program.patterns
          (made_each (narrow_pattern meta) (IsFormedPattern meta program) (pattern_formed program meta) file.patterns program.patterns w.0);
    }
