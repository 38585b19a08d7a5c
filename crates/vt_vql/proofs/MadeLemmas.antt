-- Taking apart what is made only where all of its parts are.
use Rattle.std.proofs.Common.{ℕ, ◌≡◌, ◌<◌, ◌&&◌, ◌||◌, ◌⊎◌, inl, inr, Bool, true, false, List, [], ◌∷◌, length, map, Option, Some, None, option_map, refl, sym, ◌∙◌, ap, subst, if◌then◌else◌, ltb, position}
use Rattle.std.specs.Prelude.{option_and_then}
use Rattle.std.specs.List.{AllByRecursion, position_or_len}
use Rattle.std.proofs.lemmas.Bool.{ltb-true, false≢true}
use Rattle.vt_facts.specs.Parts.{◌>>=◌}
use Rattle.vt_vql.specs.Resolving.{all_of}
use Rattle.std.proofs.lemmas.Option.{same_Some}

-- ---- tests

pub both : (a b : Bool) → a && b ≡ true → (a ≡ true) × (b ≡ true)
both true b e = (refl, e)
both false b e = absurd (false≢true e)

pub last_of_three : (a b c : Bool) → a && b && c ≡ true → c ≡ true
last_of_three true true c e = e
last_of_three true false c e = absurd (false≢true e)
last_of_three false b c e = absurd (false≢true e)

pub one_of_two : (a b : Bool) → a || b ≡ true → (a ≡ true) ⊎ (b ≡ true)
one_of_two true b e = inl refl
one_of_two false b e = inr e

-- ---- options

not_some : {A : Type 0} (y : A) → None ≡ Some y → ⊥
not_some y e = cc

pub if_some : {A : Type 0} (b : Bool) (o : Option A) (y : A) → (if b then o else None) ≡ Some y → (b ≡ true) × (o ≡ Some y)
if_some true o y e = (refl, e)
if_some false o y e = absurd (not_some y e)

pub bind_some : {A B : Type 0} (o : Option A) (f : A → Option B) (y : B) → (o >>= f) ≡ Some y → (x : A) × (o ≡ Some x) × (f x ≡ Some y)
bind_some None f y e = absurd (not_some y e)
bind_some (Some x) f y e = (x, refl, e)

pub then_some : {A B : Type 0} (f : A → Option B) (o : Option A) (y : B) → option_and_then f o ≡ Some y → (x : A) × (o ≡ Some x) × (f x ≡ Some y)
then_some f None y e = absurd (not_some y e)
then_some f (Some x) y e = (x, refl, e)

pub map_some : {A B : Type 0} (f : A → B) (o : Option A) (y : B) → option_map f o ≡ Some y → (x : A) × (o ≡ Some x) × (f x ≡ y)
map_some f None y e = absurd (not_some y e)
map_some f (Some x) y e = (x, refl, same_Some (f x) y e)

-- ---- places

below_count : (m count n : ℕ) (below : Bool) → ltb m count ≡ below → (if below then Some m else None) ≡ Some n → n < count
below_count m count n true l e = subst (λ k. k < count) (same_Some m n e) (ltb-true m count l)
below_count m count n false l e = absurd (not_some n e)

-- a place is in the list
pub position_within : {A : Type 0} (p : A → Bool) (xs : List A) (n : ℕ) → position p xs ≡ Some n → n < length xs
position_within p xs n e = below_count (position_or_len p xs) (length xs) n (ltb (position_or_len p xs) (length xs)) refl e

-- ---- lists

module _ {A B : Type 0} (f : A → Option B) where
  -- the first, the others, and that they are the list
  parts : (x : A) (xs : List A) (ys : List B) → all_of f (x ∷ xs) ≡ Some ys
      → (y : B) × (rest : List B) × (f x ≡ Some y) × (all_of f xs ≡ Some rest) × (y ∷ rest ≡ ys)
  parts x xs ys e =
      let head = bind_some (f x) (λ y. all_of f xs >>= λ rest. Some (y ∷ rest)) ys e in
      let tail = bind_some (all_of f xs) (λ rest. Some (head.0 ∷ rest)) ys head.2 in
      (head.0, tail.0, head.1, tail.1, same_Some (head.0 ∷ tail.0) ys tail.2)

  -- what holds of each that is made
  pub made_each : (P : B → Type 0) → ((x : A) (y : B) → f x ≡ Some y → P y) → (xs : List A) (ys : List B) → all_of f xs ≡ Some ys → AllByRecursion P ys
  made_each P h [] ys e = subst (AllByRecursion P) (same_Some [] ys e) tt
  made_each P h (x ∷ xs) ys e =
      let w = parts x xs ys e in
      subst (AllByRecursion P) w.4 (h x w.0 w.2, made_each P h xs w.1 w.3)

  -- what is kept of each
  pub made_keeps : {C : Type 0} (g : B → C) (k : A → C) → ((x : A) (y : B) → f x ≡ Some y → g y ≡ k x) → (xs : List A) (ys : List B) → all_of f xs ≡ Some ys → map g ys ≡ map k xs
  made_keeps g k h [] ys e = ap (map g) (sym (same_Some [] ys e))
  made_keeps g k h (x ∷ xs) ys e =
      let w = parts x xs ys e in
      let one : g w.0 ≡ k x = h x w.0 w.2 in
      let others : map g w.1 ≡ map k xs = made_keeps g k h xs w.1 w.3 in
      ap (map g) (sym w.4) ∙ ap (λ z. z ∷ map g w.1) one ∙ ap (λ zs. k x ∷ zs) others
