-- What a string writes, character by character.
use Rattle.std.proofs.Common.{◌≡◌, ◌≢◌, ℕ, suc, ◌<◌, ◌≤◌, Bool, true, false, ◌||◌, not, List, [], ◌∷◌, ◌++◌, length, get_or, Option, Some, None, refl, sym, ◌∙◌, ap, arith, append_assoc, append-nil}
use Rattle.std.specs.Prelude.{◌==◌}
use Rattle.std.specs.List.{list_all}
use Rattle.std.specs.Char.{encode_utf8}
use Rattle.std.specs.Str.{NoCharPasses}
use Rattle.std.proofs.lemmas.Bool.{ne_eqb, cases_lt}
use Rattle.std.proofs.lemmas.Bool.Decides.{nat_tests}
use Rattle.std.proofs.lemmas.Str.{encode_ascii, char_from_byte, NoCharPasses-byte}
use Rattle.std.proofs.Common.{◌⊎◌, inl, inr}
use Rattle.vt_facts.specs.Parts.{with_front, ◌>>=◌}
use Rattle.vt_facts.proofs.BoolLemmas.{or_none, not_true}
use Rattle.vt_facts.proofs.NumberLemmas.{equal_numbers}
use Rattle.vt_tokens.specs.Lexicon.{is_plain, escaped}
use Rattle.vt_tokens.specs.Quoting.{unquoted, unescaped}

front_nil : (o : Option (List ℕ)) → with_front [] o ≡ o
front_nil None = refl
front_nil (Some x) = refl

front_front : (a b : List ℕ) (o : Option (List ℕ)) → with_front (a ++ b) o ≡ with_front a (with_front b o)
front_front a b None = refl
front_front a b (Some x) = ap Some (append_assoc a b x)

plain_parts : (b : ℕ) → is_plain b ≡ true → ((b == 34) ≡ false) × ((b == 92) ≡ false) × ((b == 10) ≡ false)
plain_parts b h =
    let parts : ((b == 34 || b == 92) ≡ false) × ((b == 10) ≡ false) = or_none (b == 34 || b == 92) (b == 10) (not_true _ h) in
    let more = or_none (b == 34) (b == 92) parts.0 in
    (more.0, more.1, parts.1)

-- bytes that stand for themselves
pub plain_byte : (b : ℕ) (bytes : List ℕ) → is_plain b ≡ true → unquoted (b ∷ bytes) ≡ with_front (b ∷ []) (unquoted bytes)
plain_byte b bytes h = let parts = plain_parts b h in rw parts.0 (rw parts.1 (rw parts.2 refl))

plain_bytes : (front bytes : List ℕ) → list_all is_plain front ≡ true → unquoted (front ++ bytes) ≡ with_front front (unquoted bytes)
plain_bytes [] bytes all = sym (front_nil (unquoted bytes))
plain_bytes (b ∷ front) bytes all =
    let here : is_plain b ≡ true = grind arith in
    let rest : list_all is_plain front ≡ true = grind arith in
    plain_byte b (front ++ bytes) here ∙ ap (with_front (b ∷ [])) (plain_bytes front bytes rest) ∙ sym (front_front (b ∷ []) front (unquoted bytes))

-- so does each byte beyond ASCII
high_plain : (b : ℕ) → 128 ≤ b → is_plain b ≡ true
high_plain b h = rw (ne_eqb b 34 (λ e. omega (arith, e))) (rw (ne_eqb b 92 (λ e. omega (arith, e))) (rw (ne_eqb b 10 (λ e. omega (arith, e))) refl))

all_plain : (bytes : List ℕ) → ((i : ℕ) → i < length bytes → is_plain (get_or bytes i 0) ≡ true) → list_all is_plain bytes ≡ true
all_plain [] each = refl
all_plain (b ∷ bytes) each = rw (each 0 (omega arith)) (all_plain bytes (λ i l. each (suc i) (omega arith)))

not_false : (b : Bool) → not b ≡ false → b ≡ true
not_false true e = refl
not_false false e = cc

-- a character that stands for itself is written in such bytes
pub plain_character : (c : ℕ) → is_plain c ≡ true → list_all is_plain (encode_utf8 c) ≡ true
plain_character c h = all_plain (encode_utf8 c) each
  where
    none : NoCharPasses (λ d. not (is_plain d)) (encode_utf8 c)
    none = (c ∷ [], append-nil (encode_utf8 c), (ap not h, tt))

    each : (i : ℕ) → i < length (encode_utf8 c) → is_plain (get_or (encode_utf8 c) i 0) ≡ true
    each i l = by (cases_lt (get_or (encode_utf8 c) i 0) 128)
      where
        by : (get_or (encode_utf8 c) i 0 < 128) ⊎ (128 ≤ get_or (encode_utf8 c) i 0) → is_plain (get_or (encode_utf8 c) i 0) ≡ true
        by (inl low) = not_false (is_plain (get_or (encode_utf8 c) i 0)) (NoCharPasses-byte (λ d. not (is_plain d)) (encode_utf8 c) i none l low)
        by (inr high) = high_plain (get_or (encode_utf8 c) i 0) high

-- one more character is written
pub goes_on : (front before after : List ℕ) (c : ℕ) (due : Option (List ℕ)) → with_front front (unquoted before) ≡ due → before ≡ encode_utf8 c ++ after
    → is_plain c ≡ true → with_front (front ++ encode_utf8 c) (unquoted after) ≡ due
goes_on front before after c due h e plain =
    front_front front (encode_utf8 c) (unquoted after)
    ∙ ap (with_front front) (sym (plain_bytes (encode_utf8 c) after (plain_character c plain)) ∙ ap unquoted (sym e))
    ∙ h

-- the text has no end
pub never_closed : (front before : List ℕ) (due : Option (List ℕ)) → with_front front (unquoted before) ≡ due → length before ≡ 0 → due ≡ None
never_closed front [] due h e = sym h
never_closed front (b ∷ before) due h e = absurd (omega arith)

behind : (front before after : List ℕ) (c : ℕ) (due : Option (List ℕ)) → c < 128 → with_front front (unquoted before) ≡ due → before ≡ encode_utf8 c ++ after
    → due ≡ with_front front (unquoted (c ∷ after))
behind front before after c due low h e = sym h ∙ ap (λ l. with_front front (unquoted l)) (e ∙ ap (λ l. l ++ after) (encode_ascii c low))

-- a quote at the end closes it
pub closed : (front before after : List ℕ) (due : Option (List ℕ)) → with_front front (unquoted before) ≡ due → before ≡ encode_utf8 34 ++ after → length after ≡ 0 → due ≡ Some front
closed front before [] due h e none = behind front before [] 34 due (omega arith) h e ∙ ap Some (append-nil front)
closed front before (a ∷ after) due h e none = absurd (omega arith)

-- a quote before more closes nothing
pub quote_within : (front before after : List ℕ) (due : Option (List ℕ)) → with_front front (unquoted before) ≡ due → before ≡ encode_utf8 34 ++ after → 0 < length after → due ≡ None
quote_within front before [] due h e some = absurd (omega arith)
quote_within front before (a ∷ after) due h e some = behind front before (a ∷ after) 34 due (omega arith) h e

-- a string has no line feed
pub feed_within : (front before after : List ℕ) (due : Option (List ℕ)) → with_front front (unquoted before) ≡ due → before ≡ encode_utf8 10 ++ after → due ≡ None
feed_within front before after due h e = behind front before after 10 due (omega arith) h e

the_third : (a b d : Bool) → not (a || b || d) ≡ false → a ≡ false → b ≡ false → d ≡ true
the_third true b d e f g = absurd (cc f)
the_third false true d e f g = absurd (cc g)
the_third false false true e f g = refl
the_third false false false e f g = absurd (cc e)

-- the only other byte that does not stand for itself
pub no_plain : (front before after : List ℕ) (c : ℕ) (due : Option (List ℕ)) → with_front front (unquoted before) ≡ due → before ≡ encode_utf8 c ++ after
    → is_plain c ≡ false → c ≢ 34 → c ≢ 92 → due ≡ None
no_plain front before after c due h e bad quote slash =
    let same : c ≡ 10 = equal_numbers c 10 (the_third (c == 34) (c == 92) (c == 10) bad (ne_eqb c 34 quote) (ne_eqb c 92 slash)) in
    feed_within front before after due h (e ∙ ap (λ d. encode_utf8 d ++ after) same)

low_escape : (c m : ℕ) → escaped c ≡ Some m → (c < 128) × (m < 128)
low_escape c m e = grind (arith, nat_tests)

-- an escape is written
pub escapes : (front before mid after : List ℕ) (c m : ℕ) (due : Option (List ℕ)) → with_front front (unquoted before) ≡ due → before ≡ encode_utf8 92 ++ mid → mid ≡ encode_utf8 c ++ after
    → escaped c ≡ Some m → with_front (front ++ encode_utf8 m) (unquoted after) ≡ due
escapes front before mid after c m due h e k is =
    let low = low_escape c m is in
    let here : mid ≡ c ∷ after = k ∙ ap (λ l. l ++ after) (encode_ascii c low.0) in
    let meant : unescaped (c ∷ after) ≡ with_front (m ∷ []) (unquoted after) = ap (λ o. o >>= λ d. with_front (d ∷ []) (unquoted after)) is in
    ap (λ l. with_front (front ++ l) (unquoted after)) (encode_ascii m low.1)
    ∙ front_front front (m ∷ []) (unquoted after)
    ∙ ap (with_front front) (sym meant ∙ ap unescaped (sym here))
    ∙ sym (behind front before mid 92 due (omega arith) h e)

-- nothing is escaped by the first byte, where nothing is by the character
no_escape : (mid after : List ℕ) (c : ℕ) → mid ≡ encode_utf8 c ++ after → escaped c ≡ None → unescaped mid ≡ None
no_escape [] after c e none = refl
no_escape (d ∷ ds) after c e none =
    elim (escaped d) as (λ o. escaped d ≡ o → (o >>= λ x. with_front (x ∷ []) (unquoted ds)) ≡ None) [
      | None ↦ λ _. refl
      | Some m ↦ λ is.
          let same : c ≡ d = char_from_byte (d ∷ ds) after c e (low_escape d m is).0 (omega arith) in
          absurd (cc (same, is, none))
    ] refl

pub bad_escape : (front before mid after : List ℕ) (c : ℕ) (due : Option (List ℕ)) → with_front front (unquoted before) ≡ due → before ≡ encode_utf8 92 ++ mid → mid ≡ encode_utf8 c ++ after
    → escaped c ≡ None → due ≡ None
bad_escape front before mid after c due h e k none = behind front before mid 92 due (omega arith) h e ∙ ap (with_front front) (no_escape mid after c k none)

pub escape_cut : (front before mid : List ℕ) (due : Option (List ℕ)) → with_front front (unquoted before) ≡ due → before ≡ encode_utf8 92 ++ mid → length mid ≡ 0 → due ≡ None
escape_cut front before [] due h e none = behind front before [] 92 due (omega arith) h e
escape_cut front before (a ∷ mid) due h e none = absurd (omega arith)
