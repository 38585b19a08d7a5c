-- The variables of a body, and their numbers.
use Rattle.std.specs.Prelude.{ℕ, List, [], ◌∷◌, ◌++◌, length, nat_eq, position, Bool, false, if◌then◌else◌, Option, Some, None, unwrap_or}
use Rattle.std.specs.Cmp.Lexicographic.{pointwise}
use Rattle.std.specs.List.{list_any}
use Rattle.vt_vql.specs.declared.tree.ConstraintTree.{ConstraintTree}
use Rattle.vt_vql.specs.declared.tree.ConstraintTree.TheVariants as tree
use Rattle.vt_vql.specs.declared.tree.TermTree.{TermTree}
use Rattle.vt_vql.specs.declared.tree.TermTree.TheVariants.{Variable, Blank}

-- the variables so far, each numbered by its place: a name, and none where a `_` stands for it
abbrev pub Scope : Type 0
Scope = List (Option (List ℕ))

-- whether a variable has the name
abbrev pub has_name : List ℕ → Option (List ℕ) → Bool
has_name name None = false
has_name name (Some own) = pointwise nat_eq own name

-- a name that stands for no variable yet is a new one, and so is each `_`
abbrev pub with_term : Scope → TermTree → Scope
with_term scope (Variable name) = if list_any (has_name name) scope then scope else scope ++ Some name ∷ []
with_term scope Blank = scope ++ None ∷ []

-- the number of the variable that a term stands for, which may be the next one
abbrev pub number_of : Scope → TermTree → ℕ
number_of scope (Variable name) = unwrap_or (position (has_name name) scope) (length scope)
number_of scope Blank = length scope

-- the variables after the terms of a constraint
abbrev pub with_constraint : Scope → ConstraintTree → Scope
with_constraint scope (tree.Type ty t) = with_term scope t
with_constraint scope (tree.Feature class feature from to) = with_term (with_term scope from) to

-- the variables after those of all constraints
abbrev pub with_constraints : Scope → List ConstraintTree → Scope
with_constraints scope [] = scope
with_constraints scope (c ∷ cs) = with_constraints (with_constraint scope c) cs
