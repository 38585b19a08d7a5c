-- How owners are counted, whatever they own.
--
-- The value is lent for a lifetime. The token of that lifetime has 2 ^ 64 parts: each owner has one, and the others lie
-- with the count. A second lifetime is over once the count can rise no more. From then on an owner has any share of the
-- first token, nobody is counted, and what was lent never comes back.
use Rattle.std.specs.Prelude.{◌≡◌, ◌<◌, ◌+◌, ◌-◌, ◌^◌, ℕ, Bool, true, false, [], ◌∷◌}
use mathlib.Core.Logic.{◌⊎◌, inl, inr}
use mathlib.Core.Option.{Option, none, some}
use base.Fraction.{full_share}
use base.Fml.{Lft, Key, Share, Fml, fsep, fex, fdead, flft, flent}
use types.Na.{na_inv}
use types.RcWeak.{part, rest}
use denote.Hidden.{kept}
use denote.Sharing.{beside, held, one}
use denote.Sharing as sharing

-- the largest count of the owners besides one
abbrev pub most : ℕ
most = 2 ^ 64 - 1

-- the two lifetimes
abbrev pub Spans : Type 0
Spans = ℕ × ℕ

abbrev pub loan : Spans → Lft
loan s = s.0 ∷ []

abbrev pub census : Spans → Lft
census s = s.1 ∷ []

-- owners are no longer counted, and some of the loan's token is here
abbrev pub uncounted : Spans → Fml
uncounted s = fsep (fex Share (λ q. flft (loan s) q)) (fdead (census s))

-- what makes somebody an owner: a counted part, or what is left to the uncounted
abbrev pub right : Spans → Bool → Fml
right s true = part 64 s.0
right s false = uncounted s

-- a count stands still, or it can rise
abbrev pub Stage : ℕ → Type 0
Stage n = (n ≡ most) ⊎ (n < most)

module _ (k : Key) (count : ℕ → Fml) (P : Fml) (seen : Lft → Fml) where
  -- what lies with the count n: the parts that no owner has, the census, and the way to what was lent
  abbrev pub behind : Spans → (n : ℕ) → Stage n → Fml
  behind s n (inl stands) = uncounted s
  behind s n (inr rises) = fsep (flft (census s) full_share) (fsep (rest 64 s.0 (n + 1)) (flent (loan s) P))

  -- the count with that, or nothing once the last owner has left
  abbrev pub tally : Spans → Option ℕ → Fml
  tally s none = fdead (loan s)
  tally s (some n) = fsep (fex (Stage n) (behind s n)) (count n)

  abbrev pub book : Spans → Fml
  book s = fex (Option ℕ) (tally s)

  -- what an owner has, and what is lent of it
  abbrev pub owner_of : Spans → Fml
  owner_of s = fsep (seen (loan s)) (fsep (na_inv k (book s)) (fex Bool (right s)))

  abbrev pub lent_of : Spans → Lft → Fml
  lent_of s = beside (held (loan s) seen) (beside (kept k (book s)) (one (λ q. flft (loan s) q)))

  abbrev pub owner : Fml
  owner = fex Spans owner_of

  abbrev pub lent : Lft → Fml
  lent = sharing.some Spans lent_of
