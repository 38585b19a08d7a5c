-- The lines of a text that begins with a line.
use Rattle.std.proofs.Common.{◌≡◌, ℕ, List, [], ◌∷◌, ◌++◌, refl, ap, ◌∙◌, Bool, true, false}
use Rattle.std.specs.Prelude.{◌≢◌, ◌==◌, ◌&&◌, codes, if◌then◌else◌}
use Rattle.std.specs.List.{onto_first}
use Rattle.std.proofs.lemmas.Bool.{ne_eqb}
use Rattle.vt_facts.specs.Lines.{feeds, lines_of, IsLine}

-- where neither test holds
neither : (t u : Bool) (b : ℕ) (lines : List (List ℕ)) → t ≡ false → u ≡ false → (if t then [] ∷ lines else if u then lines else onto_first b lines) ≡ onto_first b lines
neither true u b lines t_fails u_fails = cc
neither false true b lines t_fails u_fails = cc
neither false false b lines t_fails u_fails = refl

-- nothing is true together with what is false
with_false : (t : Bool) (u : Bool) → u ≡ false → (t && u) ≡ false
with_false true u e = e
with_false false u e = refl

-- a byte that is neither a line feed nor a carriage return goes to the first line
plain_byte : (b : ℕ) (rest : List ℕ) → b ≢ 10 → b ≢ 13 → lines_of (b ∷ rest) ≡ onto_first b (lines_of rest)
plain_byte b rest feed return = neither (b == 10) (b == 13 && feeds rest) b (lines_of rest) (ne_eqb b 10 feed) (ap (λ t. t && feeds rest) (ne_eqb b 13 return))

-- so does one before a byte that is no line feed
before_byte : (b c : ℕ) (rest : List ℕ) → b ≢ 10 → c ≢ 10 → lines_of (b ∷ c ∷ rest) ≡ onto_first b (lines_of (c ∷ rest))
before_byte b c rest feed other = neither (b == 10) (b == 13 && feeds (c ∷ rest)) b (lines_of (c ∷ rest)) (ne_eqb b 10 feed) (with_false (b == 13) (feeds (c ∷ rest)) (ne_eqb c 10 other))

-- a line begins with no line feed
first_byte : (c : ℕ) (line : List ℕ) → IsLine (c ∷ line) → c ≢ 10
first_byte c [] is = is.0
first_byte c (d ∷ line) is = is.0

pub lines_of-fed : (line rest : List ℕ) → IsLine line → lines_of (line ++ codes "\n" ++ rest) ≡ line ∷ lines_of rest
lines_of-fed [] rest is = refl
lines_of-fed (b ∷ []) rest is = plain_byte b (codes "\n" ++ rest) is.0 is.1
lines_of-fed (b ∷ c ∷ line) rest is = before_byte b c (line ++ codes "\n" ++ rest) is.0 (first_byte c line is.1) ∙ ap (onto_first b) (lines_of-fed (c ∷ line) rest is.1)

pub lines_of-returned : (line rest : List ℕ) → IsLine line → lines_of (line ++ codes "\r\n" ++ rest) ≡ line ∷ lines_of rest
lines_of-returned [] rest is = refl
lines_of-returned (b ∷ []) rest is = plain_byte b (codes "\r\n" ++ rest) is.0 is.1
lines_of-returned (b ∷ c ∷ line) rest is = before_byte b c (line ++ codes "\r\n" ++ rest) is.0 (first_byte c line is.1) ∙ ap (onto_first b) (lines_of-returned (c ∷ line) rest is.1)

pub lines_of-last : (b : ℕ) (line : List ℕ) → IsLine (b ∷ line) → lines_of (b ∷ line) ≡ (b ∷ line) ∷ []
lines_of-last b [] is = plain_byte b [] is.0 is.1
lines_of-last b (c ∷ line) is = before_byte b c line is.0 (first_byte c line is.1) ∙ ap (onto_first b) (lines_of-last c line is.1)
