-- A variable that is used stands in a constraint.
use Rattle.std.proofs.Common.{ℕ, ◌≡◌, ◌==◌, ◌||◌, ◌⊎◌, inl, inr, Bool, true, false, List, [], ◌∷◌, ◌++◌, flat_map, refl, sym, ◌∙◌, ap, arith}
use Rattle.std.specs.Prelude.{Contains}
use Rattle.std.specs.List.{list_any}
use Rattle.std.proofs.lemmas.Bool.{false≢true, eqb-true}
use Rattle.std.proofs.lemmas.List.Folds.{list_any-append}
use Rattle.std.proofs.lemmas.List.Elements.{Contains-append_right}
use Rattle.vt_base.specs.declared.value.Kind.{Kind}
use Rattle.vt_base.specs.declared.value.Kind.TheVariants as kind
use Rattle.vt_model.specs.Metamodel.{Metamodel}
use Rattle.vt_query.specs.Narrow.{StandsIn}
use Rattle.vt_query.specs.declared.program.Ty.TheVariants.{Class}
use Rattle.vt_query.specs.declared.program.Term.{Term}
use Rattle.vt_query.specs.declared.program.Term.TheVariants.{Var, Const}
use Rattle.vt_query.specs.declared.program.Constraint.{Constraint}
use Rattle.vt_query.specs.declared.program.Constraint.TheVariants.{Is, Attr, Ref}
use Rattle.vt_vql.specs.Resolving.{use_of, kind_of_attribute, uses_of}
use Rattle.vt_vql.specs.declared.narrow.Use.{Use}
use Rattle.vt_vql.proofs.MadeLemmas.{one_of_two}

-- the use is one of the variable
abbrev of_variable : ℕ → Use → Bool
of_variable i u = u.variable == i

or_none : (b : Bool) → b || false ≡ true → b ≡ true
or_none true e = refl
or_none false e = e

-- ---- in a constraint

term_is : (i : ℕ) (t : Term) (k : Kind) → list_any (of_variable i) (use_of t k) ≡ true → t ≡ Var i
term_is i (Var j) k e = ap Var (eqb-true j i (or_none (j == i) e))
term_is i (Const v) k e = absurd (false≢true e)

-- the one term or the other
either : (i : ℕ) (from to : Term) (k l : Kind) → list_any (of_variable i) (use_of from k ++ use_of to l) ≡ true → (from ≡ Var i) ⊎ (to ≡ Var i)
either i from to k l e = elim (one_of_two _ _ (sym (list_any-append (of_variable i) (use_of from k) (use_of to l)) ∙ e)) [
  | inl h ↦ inl (term_is i from k h)
  | inr h ↦ inr (term_is i to l h)
]

stands_here : (meta : Metamodel) (i : ℕ) (c : Constraint) → list_any (of_variable i) (uses_of meta c) ≡ true → StandsIn i c
stands_here meta i (Is (Class c) t) e = term_is i t kind.Obj e
stands_here meta i (Attr c a from to) e = either i from to kind.Obj (kind_of_attribute meta a) e
stands_here meta i (Ref c r from to) e = either i from to kind.Obj kind.Obj e
stands_here meta i c e = absurd (false≢true e)

-- ---- in one of the constraints

abbrev pub Asked : ℕ → List Constraint → Type 0
Asked i cs = (c : Constraint) × Contains cs c × StandsIn i c

asked_later : (i : ℕ) (c : Constraint) (cs : List Constraint) → Asked i cs → Asked i (c ∷ cs)
asked_later i c cs w = (w.0, Contains-append_right (c ∷ []) cs w.0 w.1, w.2)

pub asked : (meta : Metamodel) (i : ℕ) (cs : List Constraint) → list_any (of_variable i) (flat_map (uses_of meta) cs) ≡ true → Asked i cs
asked meta i [] e = absurd (false≢true e)
asked meta i (c ∷ cs) e = elim (one_of_two _ _ (sym (list_any-append (of_variable i) (uses_of meta c) (flat_map (uses_of meta) cs)) ∙ e)) [
  | inl h ↦ (c, (0, omega arith, refl), stands_here meta i c h)
  | inr h ↦ asked_later i c cs (asked meta i cs h)
]
