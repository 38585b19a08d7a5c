-- The values of an object: a place for each attribute that its class has, with a value or without.
use Rattle.std.specs.Prelude.{◌==◌, List, map, find, IsSome, Option, option_and_then, if◌then◌else◌}
use Rattle.std.specs.List.Sorted.{IsStrictlySortedBy}
use Rattle.std.specs.declared.cmp.Ordering.{Ordering}
use Rattle.std.specs.Ordering.{nat_cmp}
use Rattle.vt_base.specs.declared.numbers.AttrId.{AttrId}
use Rattle.vt_base.specs.declared.value.Value.{Value}
use Rattle.vt_slots.specs.declared.values.Held.{Held}

-- places by the number of their attribute
abbrev pub attribute_order : Held → Held → Ordering
attribute_order a b = nat_cmp a.attribute.0 b.attribute.0

-- the attributes rise, so none has two places
abbrev pub AttributesRise : List Held → Type 0
AttributesRise held = IsStrictlySortedBy attribute_order held

-- the place of an attribute
abbrev pub place_of : List Held → AttrId → Option Held
place_of held a = find (λ h. h.attribute.0 == a.0) held

-- the attribute has a place
abbrev pub HasPlace : List Held → AttrId → Type 0
HasPlace held a = IsSome (place_of held a)

-- the value of an attribute
abbrev pub value_in : List Held → AttrId → Option Value
value_in held a = option_and_then (λ h. h.value) (place_of held a)

-- a place, with this value where it is the attribute's
abbrev pub put_in : AttrId → Option Value → Held → Held
put_in a value h = if h.attribute.0 == a.0 then record h { value = value } else h

-- the same places, that of an attribute with this value
abbrev pub with_held : List Held → AttrId → Option Value → List Held
with_held held a value = map (put_in a value) held
