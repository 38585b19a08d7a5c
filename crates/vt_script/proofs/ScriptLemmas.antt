-- The commands of lines, one after the other.
use Rattle.std.proofs.Common.{◌≡◌, ℕ, ◌+◌, Bool, true, false, ◌||◌, List, [], ◌∷◌, ◌++◌, Option, Some, None, refl, sym, ◌∙◌, ap, append_assoc, append-nil}
use Rattle.std.specs.Prelude.{option_map, slice_get, Result, Ok, Err}
use Rattle.std.specs.Str.{IsUtf8, is_utf8}
use Rattle.std.proofs.lemmas.Str.{IsUtf8-from_is_utf8, is_utf8-from_IsUtf8}
use Rattle.vt_facts.specs.Lines.{lines_of}
use Rattle.vt_script.specs.declared.line.Line.{Line}
use Rattle.vt_script.specs.declared.fault.ScriptFault.{ScriptFault}
use Rattle.vt_script.specs.declared.fault.ScriptFault.TheVariants as fault
use Rattle.vt_script.specs.Script.{Fault, syntax_at, Numbered, is_blank, is_remark, written, followed, commands_of, limited, text_script, not_text, too_many, script_of, IsFaultOf}
use Rattle.vt_script.specs.Inside.Gives.{IsAt, ahead}

pub skipped : (n : ℕ) (bytes : List ℕ) (lines : List (List ℕ)) (text : List (List ℕ)) → text ≡ bytes ∷ lines → (is_blank bytes || is_remark bytes) ≡ true
    → written n text ≡ written (n + 1) lines
skipped n bytes lines text e h = rw e (rw h refl)

pub kept : (n : ℕ) (bytes : List ℕ) (lines : List (List ℕ)) (text : List (List ℕ)) → text ≡ bytes ∷ lines → (is_blank bytes || is_remark bytes) ≡ false
    → written n text ≡ (record { number = n; bytes = bytes }) ∷ written (n + 1) lines
kept n bytes lines text e h = rw e (rw h refl)

-- one more command is read
pub took : (front : List Line) (x : Line) (n : ℕ) (due : Option Line) (rest whole : Result (List Line) Fault) → ahead front (followed n due rest) ≡ whole → due ≡ Some x
    → ahead (front ++ x ∷ []) rest ≡ whole
took front x n due (Ok xs) whole h is = ap Ok (append_assoc front (x ∷ []) xs) ∙ sym (ap (λ o. ahead front (followed n o (Ok xs))) is) ∙ h
took front x n due (Err f) whole h is = sym (ap (λ o. ahead front (followed n o (Err f))) is) ∙ h

-- a line is no command
pub stuck : (front : List Line) (n : ℕ) (due : Option Line) (rest whole : Result (List Line) Fault) (f : ScriptFault) → ahead front (followed n due rest) ≡ whole
    → IsAt n (Err f) due → IsFaultOf f whole
stuck front n due rest whole (fault.NotText m) h is = absurd is
stuck front n due rest whole (fault.Syntax m) h is = sym h ∙ ap (λ o. ahead front (followed n o rest)) is.0 ∙ ap (λ k. Err (syntax_at k)) (sym is.1)
stuck front n due rest whole (fault.TooMany m) h is = absurd is
stuck front n due rest whole fault.NoMemory h is = tt

-- all lines are read
pub all_read : (front : List Line) (whole : Result (List Line) Fault) → ahead front (Ok []) ≡ whole → whole ≡ Ok front
all_read front whole h = sym h ∙ ap Ok (append-nil front)

is_false : (t : Bool) → (t ≡ true → ⊥) → t ≡ false
is_false true h = absurd (h refl)
is_false false h = refl

-- bytes that are the UTF-8 of no characters
pub no_text : (bytes : List ℕ) → (IsUtf8 bytes → ⊥) → script_of bytes ≡ Err (not_text 1)
unfolding script_of
no_text bytes h = rw (is_false (is_utf8 bytes) (λ e. h (IsUtf8-from_is_utf8 bytes e))) refl

of_text : (bytes text : List ℕ) → text ≡ bytes → IsUtf8 bytes → script_of bytes ≡ text_script (written 1 (lines_of text))
unfolding script_of
of_text bytes text e is = rw (is_utf8-from_IsUtf8 bytes is) (ap (λ t. text_script (written 1 (lines_of t))) (sym e))

-- a line that is no command comes first
pub bad_line : (bytes text : List ℕ) (f : ScriptFault) → text ≡ bytes → IsUtf8 bytes → IsFaultOf f (commands_of (written 1 (lines_of text))) → IsFaultOf f (script_of bytes)
bad_line bytes text (fault.NotText n) e is h = of_text bytes text e is ∙ ap (λ r. limited r (slice_get (written 1 (lines_of text)) 100000)) h
bad_line bytes text (fault.Syntax n) e is h = of_text bytes text e is ∙ ap (λ r. limited r (slice_get (written 1 (lines_of text)) 100000)) h
bad_line bytes text (fault.TooMany n) e is h = of_text bytes text e is ∙ ap (λ r. limited r (slice_get (written 1 (lines_of text)) 100000)) h
bad_line bytes text fault.NoMemory e is h = tt

extra : (lines : List Line) (o : Option Numbered) (n : ℕ) → option_map (λ w. w.number) o ≡ Some n → limited (Ok lines) o ≡ Err (too_many n)
extra lines None n h = absurd (cc h)
extra lines (Some w) n h = let same : w.number ≡ n = cc h in ap (λ k. Err (too_many k)) same

no_extra : (lines : List Line) (o : Option Numbered) → option_map (λ w. w.number) o ≡ None → limited (Ok lines) o ≡ Ok lines
no_extra lines None h = refl
no_extra lines (Some w) h = absurd (cc h)

-- a command too many comes second
pub extra_line : (bytes text : List ℕ) (lines : List Line) (n : ℕ) → text ≡ bytes → IsUtf8 bytes → commands_of (written 1 (lines_of text)) ≡ Ok lines
    → option_map (λ w. w.number) (slice_get (written 1 (lines_of text)) 100000) ≡ Some n → script_of bytes ≡ Err (too_many n)
extra_line bytes text lines n e is all h = of_text bytes text e is ∙ ap (λ r. limited r (slice_get (written 1 (lines_of text)) 100000)) all ∙ extra lines (slice_get (written 1 (lines_of text)) 100000) n h

pub accepted : (bytes text : List ℕ) (lines : List Line) → text ≡ bytes → IsUtf8 bytes → commands_of (written 1 (lines_of text)) ≡ Ok lines
    → option_map (λ w. w.number) (slice_get (written 1 (lines_of text)) 100000) ≡ None → script_of bytes ≡ Ok lines
accepted bytes text lines e is all h = of_text bytes text e is ∙ ap (λ r. limited r (slice_get (written 1 (lines_of text)) 100000)) all ∙ no_extra lines (slice_get (written 1 (lines_of text)) 100000) h
