-- `cut` finds the piece that stands at the front of a text, and nothing else.
use Rattle.std.proofs.Common.{◌≡◌, ◌≢◌, ◌⊎◌, inl, inr, ℕ, ◌≤◌, ◌==◌, ◌&&◌, ◌||◌, nat_eq, Bool, true, false, not, cond, List, [], ◌∷◌, ◌++◌, length, Option, Some, None, refl, sym, ◌∙◌, ap, subst, arith, append_assoc, length-append, take_at, codes}
use Rattle.std.specs.List.{list_all}
use Rattle.std.specs.Char.{is_ascii_digit}
use Rattle.std.specs.Cmp.Lexicographic.{pointwise}
use Rattle.std.proofs.lemmas.List.{nil_from_length}
use Rattle.vt_tokens.specs.Lexicon.{goes_on, is_in_line, NoneNext, Writes, number_of, IsMark, EndsMark, is_single_mark, is_double_mark, opens_comment, Stands}
use Rattle.vt_tokens.specs.Inside.Scan.{opening, cut, cut_by, piece_of, cut_word, cut_number, word_kind, piece_if, piece_up_to, string_end, begins_with}
use Rattle.vt_tokens.specs.declared.token.TokenKind.{TokenKind}
use Rattle.vt_tokens.specs.declared.token.TokenKind.TheVariants.{Word, Blank, Number, Quoted, Mark}
use Rattle.vt_tokens.specs.declared.piece.Opening.{Opening}
use Rattle.vt_tokens.specs.declared.piece.Opening.TheVariants.{Letter, Digit, Quote, Return, Space, Other}
use Rattle.vt_tokens.proofs.TestLemmas.{both_true, found_item, same_text}
use Rattle.vt_tokens.proofs.FrontLemmas.{digits_go_on, prefix_exact, Opens, opens, opening-letter, opening-digit, Sound}
use Rattle.vt_tokens.proofs.WordLemmas.{sound-word, numeral_exact, sound-number}
use Rattle.vt_tokens.proofs.StringLemmas.{string_sound, sound-string, string_exact}
use Rattle.vt_tokens.proofs.CommentLemmas.{IsOpen, comment_exact}
use Rattle.vt_tokens.proofs.MarkLemmas.{opens_comment_is, no_long_mark, sound-mark}
use Rattle.vt_facts.proofs.BoolLemmas.{or_none, not_true}
use Rattle.vt_facts.proofs.NumberLemmas.{equal_numbers}

-- All pieces.

sound-space : (b : ℕ) (rest : List ℕ) → (b ≡ 32) ⊎ (b ≡ 9) ⊎ (b ≡ 10) → Sound (b ∷ rest) (piece_of None 1)
sound-space b rest (inl h) = record { front = b ∷ []; back = rest; whole = refl; long = refl; stands = inl (inl (ap (λ n. n ∷ []) h)) }
sound-space b rest (inr (inl h)) = record { front = b ∷ []; back = rest; whole = refl; long = refl; stands = inl (inr (inl (ap (λ n. n ∷ []) h))) }
sound-space b rest (inr (inr h)) = record { front = b ∷ []; back = rest; whole = refl; long = refl; stands = inl (inr (inr (inl (ap (λ n. n ∷ []) h)))) }

sound-return : (rest : List ℕ) → Sound (13 ∷ rest) (piece_if (begins_with 10 rest) None 2)
sound-return [] = tt
sound-return (b ∷ rest) =
    elim (b == 10) as (λ t. (b == 10) ≡ t → Sound (13 ∷ b ∷ rest) (piece_if t None 2)) [
      | true ↦ λ h. record { front = 13 ∷ b ∷ []; back = rest; whole = refl; long = refl; stands = inl (inr (inr (inr (ap (λ n. 13 ∷ n ∷ []) (equal_numbers b 10 h))))) }
      | false ↦ λ _. tt
    ] refl

sound-by : (o : Opening) (b : ℕ) (rest : List ℕ) → Opens b o → Sound (b ∷ rest) (cut_by o b rest)
sound-by Letter b rest h = sound-word b rest h
sound-by Digit b rest h = sound-number b rest
sound-by Quote b rest h = subst (λ n. Sound (n ∷ rest) (piece_up_to (Some Quoted) 1 (string_end rest))) (sym h) (sound-string rest (string_end rest) (string_sound rest))
sound-by Return b rest h = subst (λ n. Sound (n ∷ rest) (piece_if (begins_with 10 rest) None 2)) (sym h) (sound-return rest)
sound-by Space b rest h = sound-space b rest h
sound-by Other b rest h = sound-mark b rest

-- what is found stands there
pub cut_sound : (text : List ℕ) → Sound text (cut text)
unfolding cut
cut_sound [] = tt
cut_sound (b ∷ rest) = sound-by (opening b) b rest (opens b)

-- And what stands there is found.

piece_same : (k l : TokenKind) (m n : ℕ) → k ≡ l → m ≡ n → piece_of (Some k) m ≡ piece_of (Some l) n
piece_same k l m n h e = cc

word_kind-word : (b n : ℕ) → (b ≡ 95 → n ≡ 0 → ⊥) → word_kind b n ≡ Word
word_kind-word b n h =
    elim (b == 95 && n == 0) as (λ t. (b == 95 && n == 0) ≡ t → cond t Blank Word ≡ Word) [
      | true ↦ λ e. let parts = both_true (b == 95) (n == 0) e in absurd (h (equal_numbers b 95 parts.0) (equal_numbers n 0 parts.1))
      | false ↦ λ _. refl
    ] refl

exact-word : (b : ℕ) (bytes rest : List ℕ) → list_all goes_on bytes ≡ true → b ∷ bytes ≢ codes "_" → NoneNext goes_on rest → cut_word b (bytes ++ rest) ≡ piece_of (Some Word) (length (b ∷ bytes))
exact-word b bytes rest all more stops =
    rw (prefix_exact goes_on bytes rest all stops)
    (piece_same _ _ _ _ (word_kind-word b (length bytes) (λ h k. more (cc (h, nil_from_length bytes k)))) (omega arith))

exact-number : (b : ℕ) (bytes rest : List ℕ) → list_all is_ascii_digit (b ∷ bytes) ≡ true → number_of (b ∷ bytes) ≤ 9223372036854775807 → NoneNext goes_on rest → cut_number b (bytes ++ rest) ≡ piece_of (Some Number) (length (b ∷ bytes))
exact-number b bytes rest all bound stops =
    let parts = both_true (is_ascii_digit b) (list_all is_ascii_digit bytes) all in
    let run = prefix_exact goes_on bytes rest (digits_go_on bytes parts.1) stops in
    rw run (rw (take_at bytes rest (length bytes) refl) (rw (numeral_exact 0 (b ∷ bytes) all bound) (piece_same Number Number _ _ refl (omega arith))))

is_other : Opening → Bool
is_other Other = true
is_other o = false

other_is : (o : Opening) → is_other o ≡ true → o ≡ Other
unfolding is_other
other_is Letter h = absurd (cc)
other_is Digit h = absurd (cc)
other_is Quote h = absurd (cc)
other_is Return h = absurd (cc)
other_is Space h = absurd (cc)
other_is Other h = refl

opening-single : (a : ℕ) → is_single_mark a ≡ true → opening a ≡ Other
unfolding is_single_mark is_other opening
opening-single a h =
    let found = found_item (λ m. is_other (opening m)) (λ m. m == a) (codes "(){}[],;:.#@=<>+-*/%!&|?") refl h in
    subst (λ m. opening m ≡ Other) (equal_numbers found.0 a found.2) (other_is (opening found.0) found.1)

-- a mark of two bytes begins as no other piece does
begins_mark : List ℕ → Bool
begins_mark [] = false
begins_mark (a ∷ []) = false
begins_mark (a ∷ b ∷ bytes) = is_other (opening a) && not ((a == 47 && b == 47) || (a == 47 && b == 42))

double_begins : (bytes : List ℕ) → is_double_mark bytes ≡ true → begins_mark bytes ≡ true
unfolding is_double_mark begins_mark is_other opening
double_begins bytes h =
    let found = found_item begins_mark (pointwise nat_eq bytes) (codes "::" ∷ codes "==" ∷ codes "!=" ∷ codes "<=" ∷ codes ">=" ∷ codes "&&" ∷ codes "||" ∷ []) refl h in
    subst (λ l. begins_mark l ≡ true) (sym (same_text bytes found.0 found.2)) found.1

double_parts : (a b : ℕ) → is_double_mark (a ∷ b ∷ []) ≡ true → (opening a ≡ Other) × ((a == 47 && b == 47) ≡ false) × ((a == 47 && b == 42) ≡ false)
unfolding begins_mark
double_parts a b h =
    let parts = both_true (is_other (opening a)) (not ((a == 47 && b == 47) || (a == 47 && b == 42))) (double_begins (a ∷ b ∷ []) h) in
    let more = or_none (a == 47 && b == 47) (a == 47 && b == 42) (not_true _ parts.1) in
    (other_is (opening a) parts.0, more.0, more.1)

exact-mark : (bytes rest : List ℕ) → IsMark bytes → EndsMark bytes rest → cut (bytes ++ rest) ≡ piece_of (Some Mark) (length bytes)
unfolding cut
exact-mark [] rest h s = absurd h
exact-mark (a ∷ []) [] h s = rw (opening-single a h) (rw h refl)
exact-mark (a ∷ []) (b ∷ rest) h s =
    let parts = or_none (is_double_mark (a ∷ b ∷ [])) (opens_comment (a ∷ b ∷ [])) s in
    let more = or_none (a == 47 && b == 47) (a == 47 && b == 42) (sym (opens_comment_is a b) ∙ parts.1) in
    rw (opening-single a h) (rw more.0 (rw more.1 (rw parts.0 (rw h refl))))
exact-mark (a ∷ b ∷ []) rest h s =
    let parts = double_parts a b h in
    rw parts.0 (rw parts.1 (rw parts.2 (rw h refl)))
exact-mark (a ∷ b ∷ c ∷ bytes) rest h s = absurd (cc (no_long_mark a b c bytes))

exact-string : (inner text rest : List ℕ) → Writes inner text → cut ((34 ∷ (inner ++ 34 ∷ [])) ++ rest) ≡ piece_of (Some Quoted) (length (34 ∷ (inner ++ 34 ∷ [])))
unfolding cut opening
exact-string inner text rest w =
    rw (append_assoc inner (34 ∷ []) rest) (rw (string_exact w rest) (piece_same Quoted Quoted _ _ refl (omega (arith, length-append inner (34 ∷ [])))))

separator_same : (m n : ℕ) → m ≡ n → piece_of None m ≡ piece_of None n
separator_same m n e = cc

exact-line : (inner rest : List ℕ) → list_all is_in_line inner ≡ true → NoneNext is_in_line rest → cut (47 ∷ 47 ∷ (inner ++ rest)) ≡ piece_of None (length (47 ∷ 47 ∷ inner))
unfolding cut opening
exact-line inner rest all stops = rw (prefix_exact is_in_line inner rest all stops) (separator_same _ _ (omega arith))

exact-block : (inner rest : List ℕ) → IsOpen inner → cut ((47 ∷ 42 ∷ (inner ++ 42 ∷ 47 ∷ [])) ++ rest) ≡ piece_of None (length (47 ∷ 42 ∷ (inner ++ 42 ∷ 47 ∷ [])))
unfolding cut opening
exact-block inner rest o =
    rw (append_assoc inner (42 ∷ 47 ∷ []) rest) (rw (comment_exact inner rest o) (separator_same _ _ (omega (arith, length-append inner (42 ∷ 47 ∷ [])))))

pub cut_exact : (kind : Option TokenKind) (bytes rest : List ℕ) → Stands kind bytes rest → cut (bytes ++ rest) ≡ piece_of kind (length bytes)
unfolding cut opening
cut_exact (Some Word) [] rest s = absurd s.0
cut_exact (Some Word) (b ∷ bytes) rest s = rw (opening-letter b s.0.0) (exact-word b bytes rest s.0.1 s.0.2 s.1)
cut_exact (Some Blank) bytes rest s = subst (λ l. cut (l ++ rest) ≡ piece_of (Some Blank) (length l)) (sym s.0) (rw (prefix_exact goes_on [] rest refl s.1) refl)
cut_exact (Some Number) [] rest s = absurd (s.0.0 refl)
cut_exact (Some Number) (b ∷ bytes) rest s =
    rw (opening-digit b (both_true (is_ascii_digit b) (list_all is_ascii_digit bytes) s.0.1).0) (exact-number b bytes rest s.0.1 s.0.2 s.1)
cut_exact (Some Quoted) bytes rest s = subst (λ l. cut (l ++ rest) ≡ piece_of (Some Quoted) (length l)) (sym s.quotes) (exact-string s.inner s.text rest s.writes)
cut_exact (Some Mark) bytes rest s = exact-mark bytes rest s.0 s.1
cut_exact None bytes rest (inl (inl e)) = subst (λ l. cut (l ++ rest) ≡ piece_of None (length l)) (sym e) refl
cut_exact None bytes rest (inl (inr (inl e))) = subst (λ l. cut (l ++ rest) ≡ piece_of None (length l)) (sym e) refl
cut_exact None bytes rest (inl (inr (inr (inl e)))) = subst (λ l. cut (l ++ rest) ≡ piece_of None (length l)) (sym e) refl
cut_exact None bytes rest (inl (inr (inr (inr e)))) = subst (λ l. cut (l ++ rest) ≡ piece_of None (length l)) (sym e) refl
cut_exact None bytes rest (inr (inl (c, stops))) = subst (λ l. cut (l ++ rest) ≡ piece_of None (length l)) (sym c.opened) (exact-line c.inner rest c.one_line stops)
cut_exact None bytes rest (inr (inr c)) = subst (λ l. cut (l ++ rest) ≡ piece_of None (length l)) (sym c.closed) (exact-block c.inner rest c.first)
