-- Shapes: what a piece of JSON stands for, and none where it has another form.
use Rattle.std.specs.Prelude.{◌≡◌, ℕ, ℤ, List, [], ◌∷◌, Bool, false, nat_eq, Option, Some, None, option_map, option_and_then, Result, Ok, Err}
use Rattle.std.specs.Cmp.Lexicographic.{pointwise}
use Rattle.std.specs.List.{list_all, list_any}
use Rattle.std.specs.Option.{option_map_or}
use Rattle.serde_json.specs.Data.{Data, Items, no_items, item, Members, no_members, member}
use Rattle.serde_json.specs.Find.{get, as_array, as_object, as_number, as_u64, as_i64}
use Rattle.vt_json.specs.declared.shape.ShapeFault.{ShapeFault}
use Rattle.vt_json.specs.declared.shape.ShapeFault.TheVariants.{BadShape, NoMemory}

-- A call reads what there is: the value, or that the shape is another. Memory may run out.
abbrev pub Reads : {A : Type 0} → Result A ShapeFault → Option A → Type 0
Reads (Ok x) there = there ≡ Some x
Reads (Err BadShape) there = there ≡ None
Reads (Err NoMemory) there = Unit {0}

-- ---- numbers and lists

-- a whole number from 0 to 2^64 - 1
abbrev pub whole_number : Data → Option ℕ
whole_number d = option_and_then as_u64 (as_number d)

-- a whole number in 64 bits with a sign
abbrev pub integer : Data → Option ℤ
integer d = option_and_then as_i64 (as_number d)

-- each item in one shape
abbrev pub items_in : {A : Type 0} → (Data → Option A) → Items → Option (List A)
items_in shape no_items = Some []
items_in shape (item d ds) = option_and_then (λ x. option_map (λ xs. x ∷ xs) (items_in shape ds)) (shape d)

-- a list of items of one shape
abbrev pub list_of : {A : Type 0} → (Data → Option A) → Data → Option (List A)
list_of shape d = option_and_then (items_in shape) (as_array d)

-- ---- objects

-- the keys, ascending
abbrev pub keys_of : Members → List (List ℕ)
keys_of no_members = []
keys_of (member key d ms) = key ∷ keys_of ms

-- whether a key is among these
abbrev pub is_listed : List (List ℕ) → List ℕ → Bool
is_listed keys key = list_any (pointwise nat_eq key) keys

-- an object with no other keys than these
abbrev pub has_only : List (List ℕ) → Data → Bool
has_only keys d = option_map_or (λ ms. list_all (is_listed keys) (keys_of ms)) (as_object d) false

-- what stands under a key that has no default
abbrev pub required : {A : Type 0} → List ℕ → (Data → Option A) → Data → Option A
required key shape d = option_and_then shape (get key d)

-- what stands there, or the default where nothing does
abbrev pub or_default : {A : Type 0} → A → (Data → Option A) → Option Data → Option A
or_default default shape None = Some default
or_default default shape (Some d) = shape d

-- what stands under a key, or its default where there is no such key
abbrev pub defaulted : {A : Type 0} → List ℕ → A → (Data → Option A) → Data → Option A
defaulted key default shape d = or_default default shape (get key d)

-- what stands under a key, where there is such a key
abbrev pub optional : {A : Type 0} → List ℕ → (Data → Option A) → Data → Option (Option A)
optional key shape d = or_default None (λ e. option_map Some (shape e)) (get key d)

-- each value in one shape, with its key, in rising order of key
abbrev pub entries_in : {A : Type 0} → (Data → Option A) → Members → Option (List (List ℕ × A))
entries_in shape no_members = Some []
entries_in shape (member key d ms) = option_and_then
    (λ entry. option_map (λ entries. entry ∷ entries) (entries_in shape ms))
    (option_map (λ x. (key, x)) (shape d))

-- an object whose keys are free, and whose values have one shape
abbrev pub entries_of : {A : Type 0} → (Data → Option A) → Data → Option (List (List ℕ × A))
entries_of shape d = option_and_then (entries_in shape) (as_object d)
