-- Items and members that are read one after the other.
use Rattle.std.proofs.Common.{◌≡◌, ℕ, List, [], ◌∷◌, ◌++◌, Option, Some, None, String, Global, string_bytes, refl, ap, sym, ◌∙◌, append_assoc}
use Rattle.std.specs.Prelude.{◌&&◌, option_and_then, option_map}
use Rattle.std.specs.List.{list_all}
use Rattle.std.specs.Map as entry_map
use Rattle.serde_json.specs.declared.value.Value.{Value}
use Rattle.serde_json.specs.View.{view, members_view}
use Rattle.serde_json.specs.Data.{Data}
use Rattle.vt_json.specs.Shape.{is_listed, keys_of, entries_in}
use Rattle.vt_facts.specs.Parts.{with_front}

-- a test of each key of the map is a test of each key of the object
pub listed_keys : (keys : List (List ℕ)) (entries : List (String Global × Value))
    → list_all (λ k. is_listed keys (string_bytes k)) (entry_map.keys_of entries) ≡ list_all (is_listed keys) (keys_of (members_view entries))
listed_keys keys [] = refl
listed_keys keys (e ∷ es) = ap (λ rest. is_listed keys (string_bytes e.0) && rest) (listed_keys keys es)

-- one more item is read
with_front_step : {A : Type 0} (front : List A) (x : A) (rest : Option (List A))
    → with_front (front ++ x ∷ []) rest ≡ with_front front (option_map (λ xs. x ∷ xs) rest)
with_front_step front x None = refl
with_front_step front x (Some xs) = ap Some (append_assoc front (x ∷ []) xs)

-- one more entry is read
pub entries_step : {A : Type 0} (shape : Data → Option A) (front : List (List ℕ × A)) (e : String Global × Value) (all es : List (String Global × Value)) (entry : List ℕ × A) (whole : Option (List (List ℕ × A)))
    → all ≡ e ∷ es → with_front front (entries_in shape (members_view all)) ≡ whole → option_map (λ x. (string_bytes e.0, x)) (shape (view e.1)) ≡ Some entry
    → with_front (front ++ entry ∷ []) (entries_in shape (members_view es)) ≡ whole
entries_step {A} shape front e all es entry whole is before now =
    with_front_step front entry (entries_in shape (members_view es))
    ∙ sym (ap (λ (o : Option (List ℕ × A)). with_front front (option_and_then (λ y. option_map (λ entries. y ∷ entries) (entries_in shape (members_view es))) o)) now)
    ∙ sym (ap (λ (l : List (String Global × Value)). with_front front (entries_in shape (members_view l))) is)
    ∙ before
