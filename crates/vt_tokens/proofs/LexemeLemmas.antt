-- Tokens as slices of a text, which begin and end with a byte of ASCII.
use Rattle.std.proofs.Common.{ℕ, ◌≡◌, ◌+◌, ◌-◌, ◌<◌, ◌≤◌, ◌==◌, nat_eq, Bool, true, List, [], ◌∷◌, ◌++◌, length, get_or, drop, slice_range, Some, is_some, refl, sym, ◌∙◌, subst, arith, codes, nat_lt, length-append, length-take-le, length-drop, IsUtf8, IsAscii, IsCharBoundary, append-nil}
use Rattle.std.specs.List.{AllByRecursion, list_all}
use Rattle.std.specs.Char.{is_ascii_digit}
use Rattle.std.specs.Cmp.Lexicographic.{pointwise}
use Rattle.std.proofs.lemmas.Bool.Decides.{nat_tests}
use Rattle.std.proofs.lemmas.List.{get_or_at, get_or-take, get_or-drop}
use Rattle.std.proofs.lemmas.Str.{IsCharBoundary-before_ascii, IsCharBoundary-after_ascii}
use Rattle.std.proofs.lemmas.Str.Ascii.{IsAscii-nil, IsAscii-cons}
use Rattle.vt_tokens.specs.declared.token.Token.{Token}
use Rattle.vt_tokens.specs.declared.token.TokenKind.{TokenKind}
use Rattle.vt_tokens.specs.declared.token.TokenKind.TheVariants.{Word, Blank, Number, Quoted, Mark}
use Rattle.vt_tokens.specs.Lexicon.{begins_word, goes_on, IsMark, is_single_mark, is_double_mark, Stands}
use Rattle.vt_tokens.specs.Spelling.{Spells, AreAmong}
use Rattle.vt_tokens.specs.Lexemes.{marks, named_in}
use Rattle.vt_tokens.specs.Spans.{IsSlice, AreSlices}
use Rattle.vt_tokens.proofs.TestLemmas.{both_true, found_item, same_text}
use Rattle.vt_tokens.proofs.SpellingLemmas.{are_slices}
use Rattle.vt_facts.proofs.NumberLemmas.{equal_numbers}

-- Slices.

anywhere : (text : List ℕ) (from : ℕ) (t : Token) → IsSlice text from t → IsSlice text 0 t
anywhere text from t s = record { after = omega arith; some = s.some; within = s.within; stands = s.stands; on = s.on }

each_from : (text : List ℕ) (from : ℕ) (tokens : List Token) → AreSlices text from tokens → AllByRecursion (IsSlice text 0) tokens
each_from text from [] s = tt
each_from text from (t ∷ tokens) s = (anywhere text from t s.0, each_from text t.end tokens s.1)

-- each token that a text spells is a slice of it
pub each_is_slice : (text : List ℕ) (tokens : List Token) → Spells text tokens → AllByRecursion (IsSlice text 0) tokens
each_is_slice text tokens s = each_from text 0 tokens (are_slices text tokens s)

all_front : {X : Type 0} (P : X → Type 0) (xs ys : List X) → AllByRecursion P (xs ++ ys) → AllByRecursion P xs
all_front P [] ys h = tt
all_front P (x ∷ xs) ys h = (h.0, all_front P xs ys h.1)

all_back : {X : Type 0} (P : X → Type 0) (xs ys : List X) → AllByRecursion P (xs ++ ys) → AllByRecursion P ys
all_back P [] ys h = h
all_back P (x ∷ xs) ys h = all_back P xs ys h.1

-- all tokens are neighbours
pub all_among : (text : List ℕ) (tokens : List Token) → Spells text tokens → AreAmong text tokens
all_among text tokens s = record { before = []; after = []; spelled = subst (Spells text) (sym (append-nil tokens)) s }

-- so is each of some neighbours
pub each_among : (text : List ℕ) (tokens : List Token) → AreAmong text tokens → AllByRecursion (IsSlice text 0) tokens
each_among text tokens s =
    all_back (IsSlice text 0) s.before tokens (all_front (IsSlice text 0) (s.before ++ tokens) s.after (each_is_slice text (s.before ++ tokens ++ s.after) s.spelled))

-- Bytes of ASCII.

is_low : ℕ → Bool
is_low b = nat_lt b 128

low_is : (b : ℕ) → is_low b ≡ true → b < 128
unfolding is_low
low_is b h = grind (arith, nat_tests)

low_begins : (b : ℕ) → begins_word b ≡ true → b < 128
low_begins b h = grind (arith, nat_tests)

low_goes_on : (b : ℕ) → goes_on b ≡ true → b < 128
low_goes_on b h = grind (arith, nat_tests)

low_digit : (b : ℕ) → is_ascii_digit b ≡ true → b < 128
low_digit b h = grind (arith, nat_tests)

-- bytes that pass a test which only ASCII passes
IsAscii-tested : (test : ℕ → Bool) → ((b : ℕ) → test b ≡ true → b < 128) → (bytes : List ℕ) → list_all test bytes ≡ true → IsAscii bytes
IsAscii-tested test low [] h = IsAscii-nil
IsAscii-tested test low (b ∷ bytes) h =
    let parts = both_true (test b) (list_all test bytes) h in
    IsAscii-cons b bytes (low b parts.0) (IsAscii-tested test low bytes parts.1)

low_mark : (a : ℕ) → is_single_mark a ≡ true → a < 128
unfolding is_single_mark is_low
low_mark a h =
    let found = found_item is_low (λ m. m == a) (codes "(){}[],;:.#@=<>+-*/%!&|?") refl h in
    subst (λ m. m < 128) (equal_numbers found.0 a found.2) (low_is found.0 found.1)

IsAscii-double_mark : (bytes : List ℕ) → is_double_mark bytes ≡ true → IsAscii bytes
unfolding is_double_mark is_low
IsAscii-double_mark bytes h =
    let found = found_item (list_all is_low) (pointwise nat_eq bytes) (codes "::" ∷ codes "==" ∷ codes "!=" ∷ codes "<=" ∷ codes ">=" ∷ codes "&&" ∷ codes "||" ∷ []) refl h in
    subst IsAscii (sym (same_text bytes found.0 found.2)) (IsAscii-tested is_low low_is found.0 found.1)

IsAscii-mark : (bytes : List ℕ) → IsMark bytes → IsAscii bytes
IsAscii-mark [] h = absurd h
IsAscii-mark (a ∷ []) h = IsAscii-cons a [] (low_mark a h) IsAscii-nil
IsAscii-mark (a ∷ b ∷ bytes) h = IsAscii-double_mark (a ∷ b ∷ bytes) h

-- The ends of a token.

-- the first byte and the last are of ASCII
record HasAsciiEnds (bytes : List ℕ) : Type 0 where
  pub first : get_or bytes 0 0 < 128
  pub last : get_or bytes (length bytes - 1) 0 < 128

ends_of_ascii : (bytes : List ℕ) → IsAscii bytes → HasAsciiEnds bytes
ends_of_ascii bytes h = record { first = h 0; last = h (length bytes - 1) }

ends_of_quoted : (inner : List ℕ) → HasAsciiEnds (34 ∷ (inner ++ 34 ∷ []))
ends_of_quoted inner = record {
  first = omega arith;
  last = omega (arith, get_or_at (34 ∷ inner) 34 [] 0 (length (34 ∷ (inner ++ 34 ∷ [])) - 1) (omega (arith, length-append inner (34 ∷ []))));
}

token_ends_in_ascii : (kind : TokenKind) (bytes rest : List ℕ) → Stands (Some kind) bytes rest → HasAsciiEnds bytes
token_ends_in_ascii Word [] rest s = absurd s.0
token_ends_in_ascii Word (b ∷ bytes) rest s = ends_of_ascii (b ∷ bytes) (IsAscii-cons b bytes (low_begins b s.0.0) (IsAscii-tested goes_on low_goes_on bytes s.0.1))
token_ends_in_ascii Blank bytes rest s = subst HasAsciiEnds (sym s.0) (record { first = omega arith; last = omega arith })
token_ends_in_ascii Number bytes rest s = ends_of_ascii bytes (IsAscii-tested is_ascii_digit low_digit bytes s.0.1)
token_ends_in_ascii Quoted bytes rest s = subst HasAsciiEnds (sym s.quotes) (ends_of_quoted s.inner)
token_ends_in_ascii Mark bytes rest s = ends_of_ascii bytes (IsAscii-mark bytes s.0)

in_slice : (text : List ℕ) (start end i : ℕ) → i < end - start → get_or (slice_range text start end) i 0 ≡ get_or text (start + i) 0
in_slice text start end i h = get_or-take (end - start) (drop start text) i 0 h ∙ get_or-drop start text i 0

slice_length : (text : List ℕ) (start end : ℕ) → end ≤ length text → length (slice_range text start end) ≡ end - start
slice_length text start end h = length-take-le (end - start) (drop start text) (omega (arith, length-drop start text))

-- a token begins at a boundary of characters
pub token_begins : (text : List ℕ) (t : Token) → IsSlice text 0 t → IsCharBoundary text t.start
token_begins text t s =
    let ends = token_ends_in_ascii t.kind _ _ s.stands in
    let same = in_slice text t.start t.end 0 (omega (arith, s.some)) in
    let at : t.start + 0 ≡ t.start = omega arith in
    let low : get_or text t.start 0 < 128 = subst (λ n. get_or text n 0 < 128) at (omega (arith, ends.first, same)) in
    IsCharBoundary-before_ascii text t.start (omega (arith, s.some, s.within)) low

-- and ends at one
pub token_ends : (text : List ℕ) (t : Token) → IsUtf8 text → IsSlice text 0 t → IsCharBoundary text t.end
token_ends text t u s =
    let ends = token_ends_in_ascii t.kind _ _ s.stands in
    let behind : t.end - 1 + 1 ≡ t.end = omega (arith, s.some) in
    let at : t.start + (length (slice_range text t.start t.end) - 1) ≡ t.end - 1 = omega (arith, s.some, slice_length text t.start t.end s.within) in
    let same = in_slice text t.start t.end (length (slice_range text t.start t.end) - 1) (omega (arith, s.some, slice_length text t.start t.end s.within)) in
    let low : get_or text (t.end - 1) 0 < 128 = subst (λ n. get_or text n 0 < 128) at (omega (arith, ends.last, same)) in
    subst (IsCharBoundary text) behind (IsCharBoundary-after_ascii text (t.end - 1) u (omega (arith, s.some, s.within)) low)

-- Marks and their symbols.

pub each_mark_is_listed : (bytes : List ℕ) → IsMark bytes → is_some (named_in marks bytes) ≡ true
unfolding marks is_single_mark is_double_mark
each_mark_is_listed [] h = absurd h
each_mark_is_listed (a ∷ []) h =
    let found = found_item (λ m. is_some (named_in marks (m ∷ []))) (λ m. m == a) (codes "(){}[],;:.#@=<>+-*/%!&|?") refl h in
    subst (λ m. is_some (named_in marks (m ∷ [])) ≡ true) (equal_numbers found.0 a found.2) found.1
each_mark_is_listed (a ∷ b ∷ bytes) h =
    let found = found_item (λ l. is_some (named_in marks l)) (pointwise nat_eq (a ∷ b ∷ bytes)) (codes "::" ∷ codes "==" ∷ codes "!=" ∷ codes "<=" ∷ codes ">=" ∷ codes "&&" ∷ codes "||" ∷ []) refl h in
    subst (λ l. is_some (named_in marks l) ≡ true) (sym (same_text (a ∷ b ∷ bytes) found.0 found.2)) found.1
