-- Bytes that are text, and bytes that are not.
use Rattle.std.proofs.Common.{◌≡◌, ℕ, List, Bool, true, false, None, cond, refl, ap}
use Rattle.std.specs.Prelude.{IsUtf8}
use Rattle.std.specs.Str.{is_utf8}
use Rattle.std.proofs.lemmas.Str.{IsUtf8-from_is_utf8, is_utf8-from_IsUtf8}
use Rattle.serde_json.specs.Read.{read}
use Rattle.vt_json.specs.Json.{json_of}

-- ---- json_of

-- text has the value that is read of it
pub json_of_text : (bytes : List ℕ) → IsUtf8 bytes → json_of bytes ≡ read bytes
json_of_text bytes text = ap (λ is_text. cond is_text (read bytes) None) (is_utf8-from_IsUtf8 bytes text)

none_unless_text : (bytes : List ℕ) (is_text : Bool) → is_utf8 bytes ≡ is_text → (IsUtf8 bytes → ⊥) → cond is_text (read bytes) None ≡ None
none_unless_text bytes false known no_text = refl
none_unless_text bytes true known no_text = absurd (no_text (IsUtf8-from_is_utf8 bytes known))

-- bytes that are no text have no value
pub json_of_no_text : (bytes : List ℕ) → (IsUtf8 bytes → ⊥) → json_of bytes ≡ None
json_of_no_text bytes no_text = none_unless_text bytes (is_utf8 bytes) refl no_text
