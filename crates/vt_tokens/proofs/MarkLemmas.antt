-- Marks that are found stand there.
use Rattle.std.proofs.Common.{◌≡◌, ℕ, ◌==◌, ◌&&◌, ◌||◌, nat_eq, Bool, true, false, cond, List, [], ◌∷◌, Some, None, refl, ◌∙◌, ap, subst}
use Rattle.std.specs.Cmp.Lexicographic.{pointwise}
use Rattle.vt_tokens.specs.Lexicon.{EndsMark, is_single_mark, is_double_mark, opens_comment}
use Rattle.vt_tokens.specs.Inside.Scan.{cut_line_comment, piece_of, cut_mark, piece_if, piece_up_to, comment_end}
use Rattle.vt_tokens.specs.declared.token.TokenKind.TheVariants.{Mark}
use Rattle.vt_tokens.proofs.TestLemmas.{both_true}
use Rattle.vt_tokens.proofs.FrontLemmas.{Sound}
use Rattle.vt_tokens.proofs.CommentLemmas.{comment_sound, sound-block, sound-line}
use Rattle.vt_facts.proofs.NumberLemmas.{equal_numbers}
use Rattle.vt_facts.proofs.BoolLemmas.{and-false}

pair_tests : (x y z : Bool) → ((x && (y && true)) || ((x && (z && true)) || false)) ≡ ((x && y) || (x && z))
pair_tests true true z = refl
pair_tests true false true = refl
pair_tests true false false = refl
pair_tests false y z = refl

pub opens_comment_is : (a b : ℕ) → opens_comment (a ∷ b ∷ []) ≡ ((a == 47 && b == 47) || (a == 47 && b == 42))
unfolding opens_comment
opens_comment_is a b = pair_tests (a == 47) (b == 47) (b == 42)

-- a text of three bytes or more is no text of two
three_are_not_two : (a b c x y : ℕ) (bytes : List ℕ) → pointwise nat_eq (a ∷ b ∷ c ∷ bytes) (x ∷ y ∷ []) ≡ false
three_are_not_two a b c x y bytes = ap (λ t. nat_eq a x && t) (and-false (nat_eq b y)) ∙ and-false (nat_eq a x)

pub no_long_mark : (a b c : ℕ) (bytes : List ℕ) → is_double_mark (a ∷ b ∷ c ∷ bytes) ≡ false
unfolding is_double_mark
no_long_mark a b c bytes = simp (three_are_not_two)

no_long_comment : (a b c : ℕ) (bytes : List ℕ) → opens_comment (a ∷ b ∷ c ∷ bytes) ≡ false
unfolding opens_comment
no_long_comment a b c bytes = simp (three_are_not_two)

double_stops : (a b : ℕ) (rest : List ℕ) → EndsMark (a ∷ b ∷ []) rest
double_stops a b [] = tt
double_stops a b (c ∷ rest) = rw (no_long_mark a b c []) (no_long_comment a b c [])

sound-single : (a : ℕ) (rest : List ℕ) → EndsMark (a ∷ []) rest → Sound (a ∷ rest) (piece_if (is_single_mark a) (Some Mark) 1)
sound-single a rest stops =
    elim (is_single_mark a) as (λ t. is_single_mark a ≡ t → Sound (a ∷ rest) (piece_if t (Some Mark) 1)) [
      | true ↦ λ h. record { front = a ∷ []; back = rest; whole = refl; long = refl; stands = (h, stops) }
      | false ↦ λ _. tt
    ] refl

pub sound-mark : (a : ℕ) (rest : List ℕ) → Sound (a ∷ rest) (cut_mark a rest)
sound-mark a [] = sound-single a [] tt
sound-mark a (b ∷ rest) =
    elim (a == 47 && b == 47) as (λ t. (a == 47 && b == 47) ≡ t → Sound (a ∷ b ∷ rest) (cond t (cut_line_comment rest) (cond (a == 47 && b == 42) (piece_up_to None 2 (comment_end rest)) (cond (is_double_mark (a ∷ b ∷ [])) (piece_of (Some Mark) 2) (piece_if (is_single_mark a) (Some Mark) 1))))) [
      | true ↦ λ h.
          let parts = both_true (a == 47) (b == 47) h in
          subst (λ l. Sound l (cut_line_comment rest)) (cc (equal_numbers a 47 parts.0, equal_numbers b 47 parts.1)) (sound-line rest)
      | false ↦ λ h.
          elim (a == 47 && b == 42) as (λ t. (a == 47 && b == 42) ≡ t → Sound (a ∷ b ∷ rest) (cond t (piece_up_to None 2 (comment_end rest)) (cond (is_double_mark (a ∷ b ∷ [])) (piece_of (Some Mark) 2) (piece_if (is_single_mark a) (Some Mark) 1)))) [
            | true ↦ λ k.
                let parts = both_true (a == 47) (b == 42) k in
                subst (λ l. Sound l (piece_up_to None 2 (comment_end rest))) (cc (equal_numbers a 47 parts.0, equal_numbers b 42 parts.1)) (sound-block rest (comment_end rest) (comment_sound rest))
            | false ↦ λ k.
                elim (is_double_mark (a ∷ b ∷ [])) as (λ t. is_double_mark (a ∷ b ∷ []) ≡ t → Sound (a ∷ b ∷ rest) (cond t (piece_of (Some Mark) 2) (piece_if (is_single_mark a) (Some Mark) 1))) [
                  | true ↦ λ d. record { front = a ∷ b ∷ []; back = rest; whole = refl; long = refl; stands = (d, double_stops a b rest) }
                  | false ↦ λ d. sound-single a (b ∷ rest) (rw d (rw (opens_comment_is a b) (rw h (rw k refl))))
                ] refl
          ] refl
    ] refl
