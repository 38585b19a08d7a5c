-- The values of an object, where the place of an attribute stands.
use Rattle.std.proofs.Common.{◌≡◌, ℕ, List, [], ◌∷◌, get_or, set, refl, true≢false, sym, ap, subst, Option, IsSome, option_and_then}
use Rattle.std.specs.List.Sorted.{IsStrictlySortedBy}
use Rattle.vt_base.specs.declared.numbers.AttrId.{AttrId}
use Rattle.vt_base.specs.declared.value.Value.{Value}
use Rattle.vt_slots.specs.declared.values.Held.{Held}
use Rattle.vt_slots.specs.Values.{AttributesRise, HasPlace, value_in, with_held}
use Rattle.vt_slots.specs.Inside.Place.{StandsAt, GoesAt}
use Rattle.vt_slots.proofs.PlaceLemmas.{find_stands, find_goes, map_stands, sorted_alike, map_set_alike}

-- the number of a place's attribute
abbrev pub number_of : Held → ℕ
number_of h = h.attribute.0

-- one place alone is in order
pub rise_alone : (h : Held) → AttributesRise (h ∷ [])
unfolding IsStrictlySortedBy
rise_alone h = (tt, tt)

-- ---- where it stands

pub value_in_stands : (held : List Held) (a : AttrId) (i : ℕ) (d : Held) → StandsAt number_of a.0 held i → value_in held a ≡ (get_or held i d).value
value_in_stands held a i d there = ap (option_and_then (λ h. h.value)) (find_stands number_of a.0 held i there d)

pub with_held_stands : (held : List Held) (a : AttrId) (i : ℕ) (d : Held) (value : Option Value) → StandsAt number_of a.0 held i
    → with_held held a value ≡ set held i (record (get_or held i d) { value = value })
with_held_stands held a i d value there = map_stands number_of a.0 (λ h. record h { value = value }) held i there d

-- the attributes rise whatever the value
pub rise_with_value : (held : List Held) (i : ℕ) (d : Held) (value : Option Value) → AttributesRise held → AttributesRise (set held i (record (get_or held i d) { value = value }))
rise_with_value held i d value rise = sorted_alike number_of held _ (map_set_alike number_of held i (record (get_or held i d) { value = value }) d refl) rise

-- ---- where it doesn't

pub no_place : (held : List Held) (a : AttrId) (i : ℕ) → GoesAt number_of a.0 held i → HasPlace held a → ⊥
no_place held a i out there = true≢false (sym (subst IsSome (find_goes number_of a.0 held i out) there))
