-- Names that differ, by how often each of them stands.
use Rattle.std.proofs.Common.{◌≡◌, ℕ, ◌+◌, List, [], ◌∷◌, ◌++◌, map, refl, ap, ap₂, subst, ◌∙◌, cond, arith, Bool, true, false}
use Rattle.std.specs.Prelude.{◌≤◌, not, count_by}
use Rattle.std.specs.List.{list_any}
use Rattle.std.proofs.lemmas.Bool.{and_parts, and_from, not-true, not_from_false}
use Rattle.std.proofs.lemmas.Slice.Eq.{bytes_eq-Decides}
use Rattle.vt_facts.specs.Names.{is_name, is_distinct}
use Rattle.vt_model.specs.declared.model.Object.{Object}
use Rattle.vt_model.specs.declared.model.GoneObject.{GoneObject}
use Rattle.vt_facts.proofs.CountLemmas.{count_by-cons, count_by-append, count_by-map, count_by-list_any, list_any-count_by}

-- ---- is_name

-- the test says that two names are the same
pub same_name : (a b : List ℕ) → is_name a b ≡ true → a ≡ b
same_name a b e = (bytes_eq-Decides a b).0 e

-- each name is itself
pub is_name-itself : (a : List ℕ) → is_name a a ≡ true
is_name-itself a = (bytes_eq-Decides a a).1 refl

-- ---- is_distinct

-- how often a name stands in a list
abbrev pub times : List ℕ → List (List ℕ) → ℕ
times name names = count_by (λ n. is_name n name) names

-- of names that differ each stands once at most
pub times-is_distinct : (names : List (List ℕ)) → is_distinct names ≡ true → (name : List ℕ) → times name names ≤ 1
times-is_distinct [] differ name = omega arith
times-is_distinct (n ∷ names) differ name =
    let both = and_parts (not (list_any (λ m. is_name m n) names)) (is_distinct names) differ in
    let none : times n names ≡ 0 = count_by-list_any (λ m. is_name m n) names (not-true (list_any (λ m. is_name m n) names) both.0) in
    let rest : times name names ≤ 1 = times-is_distinct names both.1 name in
    let all : times name (n ∷ names) ≡ cond (is_name n name) 1 0 + times name names = count_by-cons (λ m. is_name m name) n names in
    by (is_name n name) refl none rest all
  where
    by : (b : Bool) → is_name n name ≡ b → times n names ≡ 0 → times name names ≤ 1
        → times name (n ∷ names) ≡ cond b 1 0 + times name names → times name (n ∷ names) ≤ 1
    by true e none rest all = let none_here : times name names ≡ 0 = subst (λ m. times m names ≡ 0) (same_name n name e) none in omega arith
    by false e none rest all = omega arith

-- and back
pub is_distinct-times : (names : List (List ℕ)) → ((name : List ℕ) → times name names ≤ 1) → is_distinct names ≡ true
is_distinct-times [] once = refl
is_distinct-times (n ∷ names) once =
    let all = λ (name : List ℕ). count_by-cons (λ m. is_name m name) n names in
    let itself : ◌≡◌ {A = ℕ} (cond (is_name n n) 1 0) 1 = ap (λ b. cond b 1 0) (is_name-itself n) in
    let none : times n names ≡ 0 = omega (arith, all n, once n, itself) in
    and_from (not (list_any (λ m. is_name m n) names)) (is_distinct names)
    (not_from_false (list_any (λ m. is_name m n) names) (list_any-count_by (λ m. is_name m n) names none))
    (is_distinct-times names (λ name. omega (arith, all name, once name)))

-- ---- the names of objects

-- a name stands as often as live and deleted objects have it
pub times-objects : (name : List ℕ) (live : List Object) (gone : List GoneObject)
    → times name (map (λ o. o.name) live ++ map (λ o. o.name) gone) ≡ count_by (λ o. is_name o.name name) live + count_by (λ o. is_name o.name name) gone
times-objects name live gone =
    count_by-append (λ n. is_name n name) (map (λ o. o.name) live) (map (λ o. o.name) gone)
    ∙ ap₂ (λ m n. m + n) (count_by-map (λ n. is_name n name) (λ (o : Object). o.name) live) (count_by-map (λ n. is_name n name) (λ (o : GoneObject). o.name) gone)
