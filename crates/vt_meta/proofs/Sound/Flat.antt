-- The references of all classes in one list: whose each is, and that a class declares one of each name.
use Rattle.std.proofs.Common.{◌≡◌, ℕ, suc, ◌+◌, List, [], ◌∷◌, map, refl, ap, ◌∙◌, cond, arith, Bool, true, false, ◌⊎◌, inl, inr}
use Rattle.std.specs.Prelude.{◌<◌, ◌≤◌, ◌≢◌, ◌&&◌, ◌==◌, slice_get, count_by, Some}
use Rattle.std.proofs.lemmas.Bool.{and_left, ne_eqb, cases_eq}
use Rattle.vt_meta.specs.Declarations.{declared_names}
use Rattle.vt_facts.specs.Names.{is_name, is_distinct}
use Rattle.vt_meta.specs.Built.{Declared, declared_by, references_from}
use Rattle.vt_meta.specs.declared.document.ClassDocument.{ClassDocument}
use Rattle.vt_meta.specs.declared.document.ReferenceDocument.{ReferenceDocument}
use Rattle.vt_facts.proofs.CountLemmas.{count_by-no, count_by-append, count_by-cons}
use Rattle.vt_model.proofs.Valid.Names.{times, times-is_distinct}
use Rattle.vt_model.proofs.SearchLemmas.{slice_get-from_map, slice_get-append_cases}

-- ---- whose a reference is

-- a reference of the classes from the n-th on is one that a class declares
pub record IsOf (n : ℕ) (classes : List ClassDocument) (d : Declared ReferenceDocument) : Type 0 where
  pub place : ℕ
  pub class : ClassDocument
  pub at : ℕ
  pub number : d.class.0 ≡ n + place
  pub stands : slice_get classes place ≡ Some class
  pub declares : slice_get class.references at ≡ Some d.feature

-- each reference of the list is
pub IsOf-references_from : (n : ℕ) (classes : List ClassDocument) (i : ℕ) (d : Declared ReferenceDocument) → slice_get (references_from n classes) i ≡ Some d → IsOf n classes d
IsOf-references_from n [] i d e = cc
IsOf-references_from n (c ∷ cs) i d e = by (λ j. IsOf-references_from (n + 1) cs j d) (slice_get-append_cases (declared_by n c.references) (references_from (n + 1) cs) i d e)
  where
    by : ((j : ℕ) → slice_get (references_from (n + 1) cs) j ≡ Some d → IsOf (n + 1) cs d)
        → (slice_get (declared_by n c.references) i ≡ Some d) ⊎ ((j : ℕ) × (slice_get (references_from (n + 1) cs) j ≡ Some d)) → IsOf n (c ∷ cs) d
    by later (inl first) =
        let from = slice_get-from_map (λ (f : ReferenceDocument). record { class = record { 0 = n }; feature = f }) c.references i d first in
        let number : n ≡ d.class.0 = ap (λ (x : Declared ReferenceDocument). x.class.0) from.2 in
        let feature : from.0 ≡ d.feature = ap (λ (x : Declared ReferenceDocument). x.feature) from.2 in
        record { place = 0; class = c; at = i; number = omega (arith, number); stands = refl; declares = from.1 ∙ ap Some feature }
    by later (inr rest) =
        let of = later rest.0 rest.1 in
        record { place = suc of.place; class = of.class; at = of.at; number = omega (arith, of.number); stands = of.stands; declares = of.declares }

-- ---- one of each name

-- the reference of a name that the class of a number declares
abbrev pub is_named : ℕ → List ℕ → Declared ReferenceDocument → Bool
is_named k name d = d.class.0 == k && is_name d.feature.name name

-- no other class's reference is
count_by-other : (n k : ℕ) (name : List ℕ) (rs : List ReferenceDocument) → n ≢ k → count_by (is_named k name) (declared_by n rs) ≡ 0
count_by-other n k name [] other = refl
count_by-other n k name (r ∷ rs) other =
    let out : is_named k name (record { class = record { 0 = n }; feature = r }) ≡ false = and_left (n == k) (is_name r.name name) (ne_eqb n k other) in
    count_by-no (is_named k name) (record { class = record { 0 = n }; feature = r }) (declared_by n rs) out ∙ count_by-other n k name rs other

-- two tests pass no more often than the second
cond_and-le : (a b : Bool) → cond (a && b) 1 0 ≤ cond b 1 0
cond_and-le true b = omega arith
cond_and-le false true = omega arith
cond_and-le false false = omega arith

-- of a class's own there are no more than of the name
count_by-own : (n k : ℕ) (name : List ℕ) (rs : List ReferenceDocument) → count_by (is_named k name) (declared_by n rs) ≤ times name (map (λ r. r.name) rs)
count_by-own n k name [] = omega arith
count_by-own n k name (r ∷ rs) =
    let rest = count_by-own n k name rs in
    let left = count_by-cons (is_named k name) (record { class = record { 0 = n }; feature = r }) (declared_by n rs) in
    let right = count_by-cons (λ m. is_name m name) r.name (map (λ r. r.name) rs) in
    let less = cond_and-le (n == k) (is_name r.name name) in
    omega (arith, rest, left, right, less)

-- a class declares no two references of one name
pub times-references : (c : ClassDocument) (name : List ℕ) → is_distinct (declared_names c) ≡ true → times name (map (λ r. r.name) c.references) ≤ 1
times-references c name differ =
    let once = times-is_distinct (declared_names c) differ name in
    let both = count_by-append (λ m. is_name m name) (map (λ a. a.name) c.attributes) (map (λ r. r.name) c.references) in
    omega (arith, once, both)

-- among later classes there is none
pub count_by-later : (n k : ℕ) (name : List ℕ) (cs : List ClassDocument) → k < n → count_by (is_named k name) (references_from n cs) ≡ 0
count_by-later n k name [] below = refl
count_by-later n k name (c ∷ cs) below =
    let both = count_by-append (is_named k name) (declared_by n c.references) (references_from (n + 1) cs) in
    let first = count_by-other n k name c.references (λ same. absurd (omega (arith, below, same))) in
    let rest = count_by-later (n + 1) k name cs (omega (arith, below)) in
    omega (arith, both, first, rest)

-- among all there is one at most, where each class's features have different names
pub count_by-references_from : (n k : ℕ) (name : List ℕ) (cs : List ClassDocument)
    → ((j : ℕ) (c : ClassDocument) → slice_get cs j ≡ Some c → is_distinct (declared_names c) ≡ true) → count_by (is_named k name) (references_from n cs) ≤ 1
count_by-references_from n k name [] differ = omega arith
count_by-references_from n k name (c ∷ cs) differ =
    let both = count_by-append (is_named k name) (declared_by n c.references) (references_from (n + 1) cs) in
    let rest = count_by-references_from (n + 1) k name cs (λ j. differ (suc j)) in
    elim (cases_eq n k) [
      | inl same ↦
          let own = count_by-own n k name c.references in
          let once = times-references c name (differ 0 c refl) in
          let later = count_by-later (n + 1) k name cs (omega (arith, same)) in
          omega (arith, both, own, once, later)
      | inr other ↦
          let none = count_by-other n k name c.references other in
          omega (arith, both, none, rest)
    ]
