-- Comments that are found stand there, and their ends are found.
use Rattle.std.proofs.Common.{◌≡◌, inl, inr, ℕ, ◌+◌, ◌==◌, ◌&&◌, Bool, true, false, cond, List, [], ◌∷◌, ◌++◌, length, Option, Some, None, refl, sym, ◌∙◌, ap, arith, append_assoc, length-append, codes}
use Rattle.vt_tokens.specs.Lexicon.{is_in_line}
use Rattle.vt_tokens.specs.Inside.Scan.{cut_line_comment, piece_up_to, comment_end, begins_with, plus}
use Rattle.vt_tokens.proofs.TestLemmas.{both_true}
use Rattle.vt_tokens.proofs.FrontLemmas.{prefix_run, Sound}
use Rattle.vt_facts.proofs.NumberLemmas.{equal_numbers}
use Rattle.vt_facts.proofs.BoolLemmas.{and-false}

abbrev pub IsOpen : List ℕ → Type 0
IsOpen inner = (x y : List ℕ) → inner ≡ x ++ codes "*/" ++ y → ⊥

pub record IsComment (bytes : List ℕ) (n : ℕ) : Type 0 where
  pub inner : List ℕ
  pub back : List ℕ
  pub whole : bytes ≡ inner ++ 42 ∷ 47 ∷ back
  pub long : length inner + 2 ≡ n
  pub first : IsOpen inner

abbrev pub CommentSound : List ℕ → Option ℕ → Type 0
CommentSound bytes None = Unit {0}
CommentSound bytes (Some n) = IsComment bytes n

nothing_open : IsOpen []
nothing_open [] y e = cc
nothing_open (x ∷ xs) y e = cc

open_cons : (b : ℕ) (inner : List ℕ) → IsOpen inner → (b == 42 && begins_with 47 inner) ≡ false → IsOpen (b ∷ inner)
open_cons b inner o h [] y e =
    let p : b ≡ 42 = cc in
    let q : inner ≡ 47 ∷ y = cc in
    let both : (b == 42 && begins_with 47 inner) ≡ true = ap (λ n. n == 42 && begins_with 47 inner) p ∙ ap (begins_with 47) q in
    cc
open_cons b inner o h (x ∷ xs) y e = o xs y (cc)

open_front : (inner back : List ℕ) (t : Bool) → (t && begins_with 47 (inner ++ 42 ∷ 47 ∷ back)) ≡ false → (t && begins_with 47 inner) ≡ false
open_front [] back t h = and-false t
open_front (c ∷ inner) back t h = h

slash_is : (bytes : List ℕ) → begins_with 47 bytes ≡ true → (back : List ℕ) × (bytes ≡ 47 ∷ back)
slash_is [] h = absurd (cc)
slash_is (b ∷ bytes) h = (bytes, cc (equal_numbers b 47 h))

comment_after : (b : ℕ) (bytes : List ℕ) (o : Option ℕ) → (b == 42 && begins_with 47 bytes) ≡ false → CommentSound bytes o → CommentSound (b ∷ bytes) (plus 1 o)
comment_after b bytes None h s = tt
comment_after b bytes (Some n) h s = record {
  inner = b ∷ s.inner;
  back = s.back;
  whole = ap (λ l. b ∷ l) s.whole;
  long = omega (arith, s.long);
  first = open_cons b s.inner s.first (open_front s.inner s.back (b == 42) (sym (ap (λ l. b == 42 && begins_with 47 l) s.whole) ∙ h));
}

pub comment_sound : (bytes : List ℕ) → CommentSound bytes (comment_end bytes)
comment_sound [] = tt
comment_sound (b ∷ bytes) =
    elim (b == 42 && begins_with 47 bytes) as (λ t. (b == 42 && begins_with 47 bytes) ≡ t → CommentSound (b ∷ bytes) (cond t (Some 2) (plus 1 (comment_end bytes)))) [
      | true ↦ λ h.
          let parts = both_true (b == 42) (begins_with 47 bytes) h in
          let slash = slash_is bytes parts.1 in
          record { inner = []; back = slash.0; whole = cc (equal_numbers b 42 parts.0, slash.1); long = refl; first = nothing_open }
      | false ↦ λ h. comment_after b bytes (comment_end bytes) h (comment_sound bytes)
    ] refl

open_test : (b : ℕ) (inner back : List ℕ) → IsOpen (b ∷ inner) → (b == 42 && begins_with 47 (inner ++ 42 ∷ 47 ∷ back)) ≡ false
open_test b [] back o = and-false (b == 42)
open_test b (c ∷ inner) back o =
    elim (b == 42) as (λ t. (b == 42) ≡ t → (t && c == 47) ≡ false) [
      | true ↦ λ h.
          elim (c == 47) as (λ t. (c == 47) ≡ t → t ≡ false) [
            | true ↦ λ k. absurd (o [] inner (cc (equal_numbers b 42 h, equal_numbers c 47 k)))
            | false ↦ λ _. refl
          ] refl
      | false ↦ λ _. refl
    ] refl

pub comment_exact : (inner back : List ℕ) → IsOpen inner → comment_end (inner ++ 42 ∷ 47 ∷ back) ≡ Some (length inner + 2)
comment_exact [] back o = refl
comment_exact (b ∷ inner) back o = rw (open_test b inner back o) (rw (comment_exact inner back (λ x y e. o (b ∷ x) y (ap (λ l. b ∷ l) e))) (ap Some (omega arith)))

pub sound-block : (rest : List ℕ) (o : Option ℕ) → CommentSound rest o → Sound (47 ∷ 42 ∷ rest) (piece_up_to None 2 o)
sound-block rest None s = tt
sound-block rest (Some n) s = record {
  front = 47 ∷ 42 ∷ (s.inner ++ 42 ∷ 47 ∷ []);
  back = s.back;
  whole = ap (λ l. 47 ∷ 42 ∷ l) (s.whole ∙ sym (append_assoc s.inner (42 ∷ 47 ∷ []) s.back));
  long = omega (arith, length-append s.inner (42 ∷ 47 ∷ []), s.long);
  stands = inr (inr (record { inner = s.inner; closed = refl; first = s.first }));
}

pub sound-line : (rest : List ℕ) → Sound (47 ∷ 47 ∷ rest) (cut_line_comment rest)
sound-line rest =
    let r = prefix_run is_in_line rest in
    record { front = 47 ∷ 47 ∷ r.front; back = r.back; whole = ap (λ l. 47 ∷ 47 ∷ l) r.whole; long = omega (arith, r.long); stands = inr (inl (record { inner = r.front; opened = refl; one_line = r.pass }, r.stops)) }
