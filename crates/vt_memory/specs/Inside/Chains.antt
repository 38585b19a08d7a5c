-- Chains of keys, and how they are linked.
use Rattle.std.specs.Prelude.{◌≡◌, ℕ, zero, suc, ◌+◌, ◌^◌, ◌%◌, ◌<◌, ◌≤◌, ◌==◌, cond, not, nat_lt, List, [], ◌∷◌, length, map, filter, slice_index_or, slice_set}

-- the chain of each place, and the end of the keys that may be in one
pub record Chained : Type 0 where
  pub chains : List (List ℕ)
  pub reach : ℕ

-- ---- chains as lists

-- how often a key stands in a list
abbrev pub times : ℕ → List ℕ → ℕ
times k [] = 0
times k (j ∷ js) = cond (k == j) 1 0 + times k js

-- a list without a key
abbrev pub without : ℕ → List ℕ → List ℕ
without k js = filter (λ j. not (k == j)) js

-- a key that is in no chain
abbrev pub IsFree : List (List ℕ) → ℕ → Type 0
IsFree chains key = (place : ℕ) → times key (slice_index_or chains place []) ≡ 0

-- the chain that takes a number
abbrev pub chain_at : List (List ℕ) → ℕ → List ℕ
chain_at chains number = slice_index_or chains (number % length chains) []

-- the chains with one key more, in the chain of a number
abbrev pub with_key : List (List ℕ) → ℕ → ℕ → List (List ℕ)
with_key chains number key = slice_set chains (number % length chains) (key ∷ chain_at chains number)

-- the chains with one key less, in the chain of a number
abbrev pub without_key : List (List ℕ) → ℕ → ℕ → List (List ℕ)
without_key chains number key = slice_set chains (number % length chains) (without key (chain_at chains number))

-- ---- chains as links

-- the keys from a link on, at most so many
abbrev pub chain : ℕ → List ℕ → ℕ → List ℕ
chain zero next at = []
chain (suc n) next at = cond (nat_lt at (length next)) (at ∷ chain n next (slice_index_or next at 0)) []

-- the chains that begin with these keys
abbrev pub chains_from : List ℕ → List ℕ → List (List ℕ)
chains_from next heads = map (λ at. chain (length next) next at) heads

-- the links lead from one key of a list to the next, and then past the end
abbrev pub IsPath : List ℕ → ℕ → List ℕ → Type 0
IsPath next at [] = length next ≤ at
IsPath next at (k ∷ ks) = (at ≡ k) × (k < length next) × IsPath next (slice_index_or next k 0) ks

-- the first key of a list has this key before it
abbrev pub IsAfter : List ℕ → ℕ → List ℕ → Type 0
IsAfter back k [] = Unit {0}
IsAfter back k (j ∷ js) = slice_index_or back j 0 ≡ k

-- each key of a list but the first has before it the one that comes before it there
abbrev pub IsBacked : List ℕ → List ℕ → Type 0
IsBacked back [] = Unit {0}
IsBacked back (k ∷ ks) = IsAfter back k ks × IsBacked back ks

-- these links are those of these chains, and no key stands twice
pub record IsLinking (heads next back : List ℕ) (chains : List (List ℕ)) : Type 0 where
  pub as_many : length chains ≡ length heads
  pub path : (p : ℕ) → p < length heads → IsPath next (slice_index_or heads p 0) (slice_index_or chains p [])
  pub backed : (p : ℕ) → IsBacked back (slice_index_or chains p [])
  pub apart : (p q k : ℕ) → 0 < times k (slice_index_or chains p []) → 0 < times k (slice_index_or chains q []) → p ≡ q
  pub once : (p k : ℕ) → times k (slice_index_or chains p []) ≤ 1

-- the links are those of chains, and each key can be written
pub record AreLinked (heads next back : List ℕ) : Type 0 where
  pub some : 0 < length heads
  pub small : length next < 2 ^ 32
  pub paired : length back ≡ length next
  pub linking : IsLinking heads next back (chains_from next heads)
