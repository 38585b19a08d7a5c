-- Numbers of variables, and how many there are.
use Rattle.std.proofs.Common.{ℕ, zero, suc, ◌≡◌, ◌≤◌, ◌<◌, ◌+◌, ◌^◌, ◌==◌, ◌&&◌, Bool, true, false, Option, List, [], ◌∷◌, ◌++◌, length, Some, None, unwrap_or, position, refl, sym, ◌∙◌, ap, arith, if◌then◌else◌, length-append, subst, ltb, get_or}
use Rattle.std.specs.List.{list_any, position_or_len}
use Rattle.std.proofs.lemmas.Bool.{ltb-true, ltb-false, false≢true}
use Rattle.std.proofs.lemmas.List.Quantifiers.{position-Some}
use Rattle.std.proofs.lemmas.List.Folds.{Any-from_list_any}
use Rattle.std.proofs.lemmas.List.Sums.{fails_before_first}
use Rattle.vt_vql.specs.Scope.{Scope, has_name, number_of, with_term, with_constraint, with_constraints}
use Rattle.vt_vql.specs.Resolving.{each_stands}
use Rattle.vt_vql.specs.declared.narrow.Use.{Use}
use Rattle.vt_vql.specs.declared.tree.TermTree.{TermTree}
use Rattle.vt_vql.specs.declared.tree.TermTree.TheVariants.{Variable, Blank}
use Rattle.vt_vql.specs.declared.tree.ConstraintTree.{ConstraintTree}
use Rattle.vt_vql.specs.declared.tree.ConstraintTree.TheVariants as tree

-- ---- numbers

-- a place among variables, or the next one, is no greater than their number
place_within : {X : Type 0} (p : X → Bool) (xs : List X) (d : X) (o : Option ℕ) → position p xs ≡ o → unwrap_or o (length xs) ≤ length xs
place_within p xs d None e = omega arith
place_within p xs d (Some i) e = let h = position-Some p xs i d e in omega (arith, h.0)

-- so it fits where that number does
pub number_small : (scope : Scope) (name : List ℕ) → length scope < 2 ^ 16 → unwrap_or (position (has_name name) scope) (length scope) < 2 ^ 16
number_small scope name h = omega (arith, h, place_within (has_name name) scope None (position (has_name name) scope) refl)

-- ---- how many

-- one more at most
or_one_more : (b : Bool) (scope : Scope) (v : Option (List ℕ)) → length (if b then scope else scope ++ v ∷ []) ≤ length scope + 1
or_one_more true scope v = omega arith
or_one_more false scope v = omega (arith, length-append scope (v ∷ []))

-- a term adds one variable at most
pub term_adds_one : (scope : Scope) (t : TermTree) → length (with_term scope t) ≤ length scope + 1
term_adds_one scope (Variable name) = or_one_more (list_any (has_name name) scope) scope (Some name)
term_adds_one scope Blank = omega (arith, length-append scope (None ∷ []))

-- a constraint two
pub constraint_adds_two : (scope : Scope) (c : ConstraintTree) → length (with_constraint scope c) ≤ length scope + 2
constraint_adds_two scope (tree.Type ty t) = omega (arith, term_adds_one scope t)
constraint_adds_two scope (tree.Feature class feature from to) = omega (arith, term_adds_one scope from, term_adds_one (with_term scope from) to)

-- a term takes none away
not_fewer : (b : Bool) (scope : Scope) (v : Option (List ℕ)) → length scope ≤ length (if b then scope else scope ++ v ∷ [])
not_fewer true scope v = omega arith
not_fewer false scope v = omega (arith, length-append scope (v ∷ []))

pub term_grows : (scope : Scope) (t : TermTree) → length scope ≤ length (with_term scope t)
term_grows scope (Variable name) = not_fewer (list_any (has_name name) scope) scope (Some name)
term_grows scope Blank = omega (arith, length-append scope (None ∷ []))

-- nor do constraints
pub constraint_grows : (scope : Scope) (c : ConstraintTree) → length scope ≤ length (with_constraint scope c)
constraint_grows scope (tree.Type ty t) = term_grows scope t
constraint_grows scope (tree.Feature class feature from to) = omega (arith, term_grows scope from, term_grows (with_term scope from) to)

pub constraints_grow : (scope : Scope) (cs : List ConstraintTree) → length scope ≤ length (with_constraints scope cs)
constraints_grow scope [] = omega arith
constraints_grow scope (c ∷ cs) = omega (arith, constraint_grows scope c, constraints_grow (with_constraint scope c) cs)

-- ---- a term's number is one of those after it

-- where one passes, the first that passes is there
first_within : {X : Type 0} (p : X → Bool) (xs : List X) → list_any p xs ≡ true → (below : Bool) → ltb (position_or_len p xs) (length xs) ≡ below → position_or_len p xs < length xs
first_within p xs e true l = ltb-true _ _ l
first_within p xs e false l =
    let some = Any-from_list_any p xs e in
    let fails : p (get_or xs some.0 some.1) ≡ false = fails_before_first p xs some.0 some.1 (omega (arith, some.2, ltb-false _ _ l)) in
    absurd (false≢true (sym fails ∙ ap p some.3 ∙ some.4))

-- the number of the first that passes is below how many there are
number_within : (n count : ℕ) (below : Bool) → ltb n count ≡ below → n < count → unwrap_or (if below then Some n else None) count < count
number_within n count true e h = h
number_within n count false e h = absurd (omega (arith, h, ltb-false n count e))

place_below : (p : Option (List ℕ) → Bool) (scope : Scope) (v : Option (List ℕ)) (known : Bool) → list_any p scope ≡ known
    → unwrap_or (position p scope) (length scope) < length (if known then scope else scope ++ v ∷ [])
place_below p scope v true e = number_within (position_or_len p scope) (length scope) (ltb (position_or_len p scope) (length scope)) refl (first_within p scope e _ refl)
place_below p scope v false e = omega (arith, length-append scope (v ∷ []), place_within p scope None (position p scope) refl)

pub number_below : (scope : Scope) (t : TermTree) → number_of scope t < length (with_term scope t)
number_below scope (Variable name) = place_below (has_name name) scope (Some name) (list_any (has_name name) scope) refl
number_below scope Blank = omega (arith, length-append scope (None ∷ []))

-- ---- which stand

-- of two tests one isn't passed, so not both are
not_first : (a b : Bool) → a ≡ false → a && b ≡ false
not_first a b e = ap (λ c. c && b) e

not_second : (a b : Bool) → b ≡ false → a && b ≡ false
not_second true b e = e
not_second false b e = refl

-- the variable is below the last of the first ones, or it is the last one
missing_step : (n count : ℕ) (uses : List Use) (below : Bool) → ltb n count ≡ below → n < suc count → list_any (λ u. u.variable == n) uses ≡ false
    → (n < count → each_stands count uses ≡ false) → each_stands (suc count) uses ≡ false
missing_step n count uses true e l h before = not_first _ _ (before (ltb-true n count e))
missing_step n count uses false e l h before =
    let last : n ≡ count = omega (arith, l, ltb-false n count e) in
    not_second _ _ (subst (λ m. list_any (λ u. u.variable == m) uses ≡ false) last h)

-- where one of the first variables stands nowhere, not each does
pub one_missing : (n count : ℕ) (uses : List Use) → n < count → list_any (λ u. u.variable == n) uses ≡ false → each_stands count uses ≡ false
one_missing n zero uses l h = absurd (omega (arith, l))
one_missing n (suc count) uses l h = missing_step n count uses (ltb n count) refl l h (λ below. one_missing n count uses below h)

-- where each stands, one of them does
stands_if_known : (n count : ℕ) (uses : List Use) (stands : Bool) → list_any (λ u. u.variable == n) uses ≡ stands → n < count → each_stands count uses ≡ true → stands ≡ true
stands_if_known n count uses true e l h = refl
stands_if_known n count uses false e l h = absurd (false≢true (sym (one_missing n count uses l e) ∙ h))

pub one_stands : (n count : ℕ) (uses : List Use) → n < count → each_stands count uses ≡ true → list_any (λ u. u.variable == n) uses ≡ true
one_stands n count uses l h = stands_if_known n count uses (list_any (λ u. u.variable == n) uses) refl l h
