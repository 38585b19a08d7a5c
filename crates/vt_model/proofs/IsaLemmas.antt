-- The test of classes above a class, and the paths of supertypes that it stands for.
use Rattle.std.proofs.Common.{◌≡◌, ℕ, zero, suc, List, [], ◌∷◌, length, map, refl, sym, ap, subst, ⊎_elim, Bool, true, false, arith}
use Rattle.std.specs.Prelude.{◌<◌, ◌≤◌, ◌==◌, ◌↔◌, nat_eq, All, Contains, slice_get, unwrap_or, Option, Some, None}
use Rattle.std.specs.List.{list_any, IsDistinct, AllByRecursion}
use Rattle.std.proofs.lemmas.Bool.{eqb-true, eq-eqb, or_cases, or_parts, or_left, or_right, true≢false}
use Rattle.std.proofs.lemmas.List.{length-map}
use Rattle.std.proofs.lemmas.List.Elements.{All-contains, All-nil}
use Rattle.std.proofs.lemmas.List.Folds.{Any-from_list_any, list_any_at}
use Rattle.std.proofs.lemmas.Map.Keys.{IsDistinct-cons, IsDistinct-tail}
use Rattle.std.proofs.lemmas.Map.Steps.{length-le_from_distinct_below}
use Rattle.std.proofs.lemmas.Option.{slice_get_within, get_or_from_slice_get}
use Rattle.vt_base.specs.declared.numbers.ClassId.{ClassId}
use Rattle.vt_model.specs.Metamodel.{Metamodel, supers_of, IsPath, Isa, is_within, isa}
use Rattle.vt_model.specs.Sound.{IsSound}

pub same_number : {c d : ClassId} → c.0 ≡ d.0 → c ≡ d
same_number e = ap (λ n. record { 0 = n }) e

-- the numbers of classes
abbrev pub numbers : List ClassId → List ℕ
numbers classes = map (λ c. c.0) classes

-- a number that is none of a list
pub none_equal : (q : ℕ) (xs : List ℕ) → list_any (nat_eq q) xs ≡ false → AllByRecursion (λ y. nat_eq q y ≡ false) xs
none_equal q [] e = tt
none_equal q (x ∷ xs) e = let parts = or_parts (nat_eq q x) (list_any (nat_eq q) xs) e in (parts.0, none_equal q xs parts.1)

none_distinct : IsDistinct nat_eq []
unfolding IsDistinct
none_distinct = tt

module _ (supers : List (List ClassId)) where
  -- ---- from the test to a path, and back

  pub path-is_within : (n : ℕ) (c d : ClassId) → is_within supers n c d ≡ true → (path : List ClassId) × IsPath supers c path d
  path-is_within zero c d e = ([], same_number (eqb-true c.0 d.0 e))
  path-is_within (suc n) c d e = ⊎_elim
      (λ here. ([], same_number (eqb-true c.0 d.0 here)))
      (λ later.
      let at = Any-from_list_any (λ e. is_within supers n e d) (supers_of supers c) later in
      let rest = path-is_within n at.1 d at.4 in
      (at.1 ∷ rest.0, ((at.0, at.2, at.3), rest.1)))
      (or_cases (c.0 == d.0) (list_any (λ e. is_within supers n e d) (supers_of supers c)) e)

  -- a path that is no longer than the steps that are left
  pub is_within-path : (path : List ClassId) (n : ℕ) (c d : ClassId) → IsPath supers c path d → length path ≤ n → is_within supers n c d ≡ true
  is_within-path [] zero c d is short = eq-eqb c.0 d.0 (ap (λ x. x.0) is)
  is_within-path [] (suc n) c d is short = or_left (c.0 == d.0) (list_any (λ e. is_within supers n e d) (supers_of supers c)) (eq-eqb c.0 d.0 (ap (λ x. x.0) is))
  is_within-path (e ∷ path) zero c d is short = absurd (omega arith)
  is_within-path (e ∷ path) (suc n) c d is short =
      let rest : is_within supers n e d ≡ true = is_within-path path n e d is.1 (omega arith) in
      or_right (c.0 == d.0) (list_any (λ e. is_within supers n e d) (supers_of supers c))
      (list_any_at (λ e. is_within supers n e d) (supers_of supers c) is.0.0 e is.0.1 (subst (λ x. is_within supers n x d ≡ true) (sym is.0.2) rest))

  -- ---- paths that come to no class twice

  pub record Simple (c d : ClassId) : Type 0 where
    pub path : List ClassId
    pub is : IsPath supers c path d
    pub distinct : IsDistinct nat_eq (numbers (c ∷ path))

  whole : (c e d : ClassId) (path : List ClassId) → IsPath supers e path d → IsDistinct nat_eq (numbers (e ∷ path)) → nat_eq c.0 e.0 ≡ true → Simple c d
  whole c e d path is distinct here =
      let same : e ≡ c = sym (same_number (eqb-true c.0 e.0 here)) in
      record { path = path; is = subst (λ x. IsPath supers x path d) same is; distinct = subst (λ (x : ClassId). IsDistinct nat_eq (numbers (x ∷ path))) same distinct }

  -- from a class on such a path, the rest of it
  suffix : (c e d : ClassId) (path : List ClassId) → IsPath supers e path d → IsDistinct nat_eq (numbers (e ∷ path))
      → list_any (nat_eq c.0) (numbers (e ∷ path)) ≡ true → Simple c d
  suffix c e d [] is distinct found = ⊎_elim (whole c e d [] is distinct) (λ later. absurd (true≢false (sym later))) (or_cases (nat_eq c.0 e.0) false found)
  suffix c e d (f ∷ path) is distinct found = ⊎_elim
      (whole c e d (f ∷ path) is distinct)
      (suffix c f d path is.1 (IsDistinct-tail nat_eq e.0 (numbers (f ∷ path)) distinct))
      (or_cases (nat_eq c.0 e.0) (list_any (nat_eq c.0) (numbers (f ∷ path))) found)

  -- one more class before it, which may be on it
  longer : (c e d : ClassId) → Contains (supers_of supers c) e → Simple e d → Simple c d
  longer c e d first s = by (list_any (nat_eq c.0) (numbers (e ∷ s.path))) refl
    where
      by : (b : Bool) → list_any (nat_eq c.0) (numbers (e ∷ s.path)) ≡ b → Simple c d
      by true found = suffix c e d s.path s.is s.distinct found
      by false none = record {
        path = e ∷ s.path;
        is = (first, s.is);
        distinct = IsDistinct-cons nat_eq c.0 (numbers (e ∷ s.path)) (none_equal c.0 (numbers (e ∷ s.path)) none) s.distinct;
      }

  pub Simple-IsPath : (path : List ClassId) (c d : ClassId) → IsPath supers c path d → Simple c d
  Simple-IsPath [] c d is = record { path = []; is = is; distinct = IsDistinct-cons nat_eq c.0 [] tt none_distinct }
  Simple-IsPath (e ∷ path) c d is = longer c e d is.0 (Simple-IsPath path e d is.1)

  -- ---- where the supertypes are classes that are there

  module _ (n : ℕ) (there : All (All (λ (e : ClassId). e.0 < n)) supers) where
    pub below-supers_of : (c : ClassId) → All (λ (e : ClassId). e.0 < n) (supers_of supers c)
    below-supers_of c = by (slice_get supers c.0) refl
      where
        by : (r : Option (List ClassId)) → slice_get supers c.0 ≡ r → All (λ (e : ClassId). e.0 < n) (unwrap_or r [])
        by None e = All-nil (λ (e : ClassId). e.0 < n)
        by (Some above) e = subst (All (λ (e : ClassId). e.0 < n)) (get_or_from_slice_get supers c.0 above above e) (there c.0 above (slice_get_within supers c.0 above e))

    -- each class on a path but the first
    pub below-path : (path : List ClassId) (c d : ClassId) → IsPath supers c path d → (q : ℕ) → list_any (nat_eq q) (numbers path) ≡ true → q < n
    below-path [] c d is q found = absurd (true≢false (sym found))
    below-path (e ∷ path) c d is q found = ⊎_elim
        (λ here.
        let same : q ≡ e.0 = eqb-true q e.0 here in
        let below : e.0 < n = All-contains (λ (x : ClassId). x.0 < n) (supers_of supers c) e (below-supers_of c) is.0 in
        omega arith)
        (below-path path e d is.1 q)
        (or_cases (nat_eq q e.0) (list_any (nat_eq q) (numbers path)) found)

    pub short : (c d : ClassId) (s : Simple c d) → length s.path ≤ n
    short c d s =
        let few : length (numbers s.path) ≤ n = length-le_from_distinct_below (numbers s.path) n (IsDistinct-tail nat_eq c.0 (numbers s.path) s.distinct) (below-path s.path c d s.is) in
        simp length-map at few

    -- the test finds exactly the classes to which a path leads
    pub is_within_exact : (c d : ClassId) → (is_within supers n c d ≡ true) ↔ ((path : List ClassId) × IsPath supers c path d)
    is_within_exact c d = (path-is_within n c d, λ p. let s = Simple-IsPath p.0 c d p.1 in is_within-path s.path n c d s.is (short c d s))

pub isa_exact : (meta : Metamodel) (c d : ClassId) → All (All (λ e. e.0 < length meta.classes)) meta.supers → (isa meta c d ≡ true) ↔ Isa meta c d
isa_exact meta c d there = is_within_exact meta.supers (length meta.classes) there c d

-- ---- the classes of a sound metamodel

IsPath-append : (supers : List (List ClassId)) (path more : List ClassId) (c d e : ClassId) → IsPath supers c path d → IsPath supers d more e → (whole : List ClassId) × IsPath supers c whole e
IsPath-append supers [] more c d e is then = (more, subst (λ x. IsPath supers x more e) (sym is) then)
IsPath-append supers (x ∷ path) more c d e is then = let rest = IsPath-append supers path more x d e is.1 then in (x ∷ rest.0, (is.0, rest.1))

module _ (meta : Metamodel) (sound : IsSound meta) where
  -- the test is a path
  pub isa-path : (c d : ClassId) → (isa meta c d ≡ true) ↔ Isa meta c d
  isa-path c d = isa_exact meta c d sound.supers

  -- a class is itself
  pub isa-itself : (c : ClassId) → isa meta c c ≡ true
  isa-itself c = (isa-path c c).1 ([], refl)

  -- what is above a class above is above
  pub isa-trans : (c d e : ClassId) → isa meta c d ≡ true → isa meta d e ≡ true → isa meta c e ≡ true
  isa-trans c d e first second =
      let p = (isa-path c d).0 first in
      let q = (isa-path d e).0 second in
      (isa-path c e).1 (IsPath-append meta.supers p.0 q.0 c d e p.1 q.1)
