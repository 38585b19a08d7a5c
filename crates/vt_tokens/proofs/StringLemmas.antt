-- Strings that are found stand there, and their ends are found.
use Rattle.std.proofs.Common.{◌≡◌, ℕ, ◌+◌, ◌==◌, ◌||◌, true, false, cond, List, [], ◌∷◌, ◌++◌, length, Option, Some, None, refl, sym, ◌∙◌, ap, arith, append_assoc, length-append, if◌then◌else◌}
use Rattle.std.specs.Prelude.{is_some}
use Rattle.vt_tokens.specs.Lexicon.{is_plain, escaped, Writes}
use Rattle.vt_tokens.specs.Lexicon.Writes.{nothing, plain, escape}
use Rattle.vt_tokens.specs.Inside.Scan.{piece_up_to, string_end, plus}
use Rattle.vt_tokens.specs.declared.token.TokenKind.TheVariants.{Quoted}
use Rattle.vt_facts.proofs.BoolLemmas.{or_none, not_true}
use Rattle.vt_tokens.proofs.FrontLemmas.{Sound}
use Rattle.vt_facts.proofs.NumberLemmas.{equal_numbers}

pub record IsString (bytes : List ℕ) (n : ℕ) : Type 0 where
  pub inner : List ℕ
  pub text : List ℕ
  pub back : List ℕ
  pub whole : bytes ≡ inner ++ 34 ∷ back
  pub long : length inner + 1 ≡ n
  pub writes : Writes inner text

abbrev pub StringSound : List ℕ → Option ℕ → Type 0
StringSound bytes None = Unit {0}
StringSound bytes (Some n) = IsString bytes n

plain_is : (b : ℕ) → (b == 34) ≡ false → (b == 10) ≡ false → (b == 92) ≡ false → is_plain b ≡ true
plain_is b h k l = rw h (rw k (rw l refl))

string_after_plain : (b : ℕ) (bytes : List ℕ) (o : Option ℕ) → is_plain b ≡ true → StringSound bytes o → StringSound (b ∷ bytes) (plus 1 o)
string_after_plain b bytes None h s = tt
string_after_plain b bytes (Some n) h s =
    record { inner = b ∷ s.inner; text = b ∷ s.text; back = s.back; whole = ap (λ l. b ∷ l) s.whole; long = omega (arith, s.long); writes = plain b h s.writes }

string_after_escape : (b c : ℕ) (bytes : List ℕ) (e o : Option ℕ) → b ≡ 92 → escaped c ≡ e → StringSound bytes o → StringSound (b ∷ c ∷ bytes) (if is_some e then plus 2 o else None)
string_after_escape b c bytes None o h k s = tt
string_after_escape b c bytes (Some d) None h k s = tt
string_after_escape b c bytes (Some d) (Some n) h k s =
    record { inner = 92 ∷ c ∷ s.inner; text = d ∷ s.text; back = s.back; whole = cc (h, s.whole); long = omega (arith, s.long); writes = escape c d k s.writes }

pub string_sound : (bytes : List ℕ) → StringSound bytes (string_end bytes)
string_sound [] = tt
string_sound (b ∷ []) =
    elim (b == 34) as (λ t. (b == 34) ≡ t → StringSound (b ∷ []) (cond t (Some 1) None)) [
      | true ↦ λ h. record { inner = []; text = []; back = []; whole = cc (equal_numbers b 34 h); long = refl; writes = nothing }
      | false ↦ λ _. tt
    ] refl
string_sound (b ∷ c ∷ bytes) =
    elim (b == 34) as (λ t. (b == 34) ≡ t → StringSound (b ∷ c ∷ bytes) (cond t (Some 1) (cond (b == 10) None (cond (b == 92) (cond (is_some (escaped c)) (plus 2 (string_end bytes)) None) (plus 1 (string_end (c ∷ bytes))))))) [
      | true ↦ λ h. record { inner = []; text = []; back = c ∷ bytes; whole = cc (equal_numbers b 34 h); long = refl; writes = nothing }
      | false ↦ λ h.
          elim (b == 10) as (λ t. (b == 10) ≡ t → StringSound (b ∷ c ∷ bytes) (cond t None (cond (b == 92) (cond (is_some (escaped c)) (plus 2 (string_end bytes)) None) (plus 1 (string_end (c ∷ bytes)))))) [
            | true ↦ λ _. tt
            | false ↦ λ k.
                elim (b == 92) as (λ t. (b == 92) ≡ t → StringSound (b ∷ c ∷ bytes) (cond t (cond (is_some (escaped c)) (plus 2 (string_end bytes)) None) (plus 1 (string_end (c ∷ bytes))))) [
                  | true ↦ λ l. string_after_escape b c bytes (escaped c) (string_end bytes) (equal_numbers b 92 l) refl (string_sound bytes)
                  | false ↦ λ l. string_after_plain b (c ∷ bytes) (string_end (c ∷ bytes)) (plain_is b h k l) (string_sound (c ∷ bytes))
                ] refl
          ] refl
    ] refl

pub sound-string : (rest : List ℕ) (o : Option ℕ) → StringSound rest o → Sound (34 ∷ rest) (piece_up_to (Some Quoted) 1 o)
sound-string rest None s = tt
sound-string rest (Some n) s = record {
  front = 34 ∷ (s.inner ++ 34 ∷ []);
  back = s.back;
  whole = ap (λ l. 34 ∷ l) (s.whole ∙ sym (append_assoc s.inner (34 ∷ []) s.back));
  long = omega (arith, length-append s.inner (34 ∷ []), s.long);
  stands = record { inner = s.inner; text = s.text; quotes = refl; writes = s.writes };
}

plain_parts : (b : ℕ) → is_plain b ≡ true → ((b == 34) ≡ false) × ((b == 10) ≡ false) × ((b == 92) ≡ false)
plain_parts b h =
    let parts : ((b == 34 || b == 92) ≡ false) × ((b == 10) ≡ false) = or_none (b == 34 || b == 92) (b == 10) (not_true _ h) in
    let more = or_none (b == 34) (b == 92) parts.0 in
    (more.0, parts.1, more.1)

string_plain_exact : (b : ℕ) (bytes : List ℕ) (n : ℕ) → ((b == 34) ≡ false) × ((b == 10) ≡ false) × ((b == 92) ≡ false) → string_end bytes ≡ Some n → string_end (b ∷ bytes) ≡ Some (1 + n)
string_plain_exact b [] n parts h = cc
string_plain_exact b (c ∷ bytes) n parts h = rw parts.0 (rw parts.1 (rw parts.2 (rw h refl)))

pub string_exact : {inner text : List ℕ} → Writes inner text → (back : List ℕ) → string_end (inner ++ 34 ∷ back) ≡ Some (length inner + 1)
string_exact nothing [] = refl
string_exact nothing (b ∷ back) = refl
string_exact (plain b {bytes} h w) back = string_plain_exact b (bytes ++ 34 ∷ back) (length bytes + 1) (plain_parts b h) (string_exact w back) ∙ ap Some (omega arith)
string_exact (escape b c {bytes} h w) back = rw (ap is_some h) (rw (string_exact w back) (ap Some (omega arith)))
