-- The rows that are read from slots are those of the model.
use Rattle.std.proofs.Common.{◌≡◌, ℕ, List, [], ◌∷◌, ◌++◌, map, filter, refl, sym, ap, subst, ◌∙◌, cond, Bool, true, false, eq-eqb}
use Rattle.std.specs.Prelude.{Contains, slice_get, is_some, ◌==◌, Option, Some, None, option_map, option_and_then, option_to_list}
use Rattle.std.specs.List.{filter_map, cons_option}
use Rattle.std.specs.List.Sorted.{IsStrictlySortedBy}
use Rattle.std.specs.declared.cmp.Ordering.TheVariants.{Less}
use Rattle.std.proofs.lemmas.List.Kept.{IsStrictlySortedBy-filter}
use Rattle.vt_base.specs.Order.{tuple_cmp}
use Rattle.vt_base.specs.Inside.OrderLaws.{IsTotalOrder-tuple_cmp}
use Rattle.vt_base.specs.declared.numbers.ObjId.{ObjId}
use Rattle.vt_base.specs.declared.numbers.ClassId.{ClassId}
use Rattle.vt_base.specs.declared.numbers.AttrId.{AttrId}
use Rattle.vt_base.specs.declared.value.Value.{Value}
use Rattle.vt_base.specs.declared.value.Value.TheVariants.{Obj}
use Rattle.vt_model.specs.Metamodel.{Metamodel, isa}
use Rattle.vt_model.specs.Base.{class_rows, attribute_rows}
use Rattle.vt_model.specs.declared.metamodel.AttrInfo.{AttrInfo}
use Rattle.vt_model.specs.declared.model.Object.{Object}
use Rattle.vt_model.specs.declared.model.AttributeValue.{AttributeValue}
use Rattle.vt_model.proofs.BaseLemmas.{Ascends-attribute_rows}
use Rattle.vt_facts.proofs.MemberLemmas.{Contains-head, Contains-behind, Contains-map, Contains-filter, Contains-from_filter, Contains-from_map}
use Rattle.vt_slots.specs.Values.{value_in}
use Rattle.vt_slots.specs.Ends.{number_order, ObjectsRise}
use Rattle.vt_slots.specs.Slots.{slot_order, NumbersRise, slot_at, body_at, slot_value}
use Rattle.vt_slots.specs.declared.values.Held.{Held}
use Rattle.vt_slots.specs.declared.slot.Body.{Body}
use Rattle.vt_slots.specs.declared.slot.Slot.{Slot}
use Rattle.vt_graph.specs.Inside.Stored.{model_of, live_object}
use Rattle.vt_graph.specs.Inside.Planned.{attributes_had, listing}
use Rattle.vt_graph.specs.Inside.Indexed.{IsIndexed}
use Rattle.vt_graph.specs.Inside.Rowed.{value_row, rows_listed}
use Rattle.vt_graph.specs.declared.rows.Listed.TheVariants.{Class, Attribute}
use Rattle.vt_facts.proofs.RisingLemmas.{same_items}
use Rattle.vt_facts.proofs.ChosenLemmas.{Contains-filter_map, Contains-from_filter_map, rises-filter_map}
use Rattle.vt_graph.proofs.SlotLemmas.{equal_numbers, slot_at_stands, slot_at_number, slot_at_is, body_at_found}
use Rattle.vt_graph.proofs.HadLemmas.{rises-map, ValuesRise, body_fits, values_rise_each, had_back}
use Rattle.vt_graph.proofs.ValueLemmas.{same_attribute, value_found, value_stands, value_stood, slot_values_rise}

-- ---- listings

module _ (slots : List Slot) (rise : NumbersRise slots) where
  pub numbers_rise_listed : ObjectsRise (map (λ (s : Slot). s.number) slots)
  numbers_rise_listed = rises-map number_order (λ (s : Slot). s.number) slots rise

  pub listing_rises : (meta : Metamodel) (c : ClassId) → ObjectsRise (listing meta slots c)
  listing_rises meta c = rises-map number_order (λ (s : Slot). s.number) (filter (λ s. isa meta s.class c) slots) (IsStrictlySortedBy-filter slot_order (λ (s : Slot). isa meta s.class c) slots rise)

  -- a slot's own body is found
  pub body_at_own : (s : Slot) → Contains slots s → body_at slots s.number ≡ s.body
  body_at_own s there = body_at_found slots s.number s (slot_at_is slots s.number rise s there refl)

-- ---- the rows of a class

-- a row for each object of a listing that is live
abbrev live_rows : List Slot → List ObjId → List (List Value)
live_rows slots objects = map (λ o. Obj o ∷ []) (filter (λ o. is_some (body_at slots o)) objects)

rows_listed-class : (slots : List Slot) (c : ClassId) (objects : List ObjId) → rows_listed slots (Class c) objects ≡ live_rows slots objects
rows_listed-class slots c [] = refl
rows_listed-class slots c (o ∷ objects) = elim (is_some (body_at slots o))
    as (λ b. cond b ((Obj o ∷ []) ∷ []) [] ++ rows_listed slots (Class c) objects ≡ map (λ p. Obj p ∷ []) (cond b (o ∷ filter (λ p. is_some (body_at slots p)) objects) (filter (λ p. is_some (body_at slots p)) objects))) [
      | true ↦ ap (λ rows. (Obj o ∷ []) ∷ rows) (rows_listed-class slots c objects)
      | false ↦ rows_listed-class slots c objects
    ]

-- the object that a slot with a body gives
abbrev object_with : Slot → Option Body → Option Object
object_with s b = option_map (λ (body : Body). record { number = s.number; name = s.name; class = s.class }) b

live_rows_among : (slots : List Slot) (meta : Metamodel) (c : ClassId) (some : List Slot) → ((s : Slot) → Contains some s → body_at slots s.number ≡ s.body)
    → live_rows slots (listing meta some c) ≡ map (λ (x : Object). Obj x.number ∷ []) (filter (λ (x : Object). isa meta x.class c) (filter_map live_object some))
live_rows_among slots meta c [] own = refl
live_rows_among slots meta c (s ∷ some) own =
    by (live_rows_among slots meta c some (λ t there. own t (Contains-behind s t some there))) (isa meta s.class c) refl s.body refl
  where
    rows : List ObjId → List (List Value)
    rows numbers = live_rows slots numbers

    objects : List Object → List (List Value)
    objects xs = map (λ (x : Object). Obj x.number ∷ []) (filter (λ (x : Object). isa meta x.class c) xs)

    first : List ObjId
    first = listing meta some c

    rest : List Object
    rest = filter_map live_object some

    by : live_rows slots (listing meta some c) ≡ objects rest → (b : Bool) → isa meta s.class c ≡ b → (r : Option Body) → s.body ≡ r
        → live_rows slots (map (λ (t : Slot). t.number) (cond b (s ∷ filter (λ t. isa meta t.class c) some) (filter (λ t. isa meta t.class c) some))) ≡ objects (cons_option (object_with s r) rest)
    by more true e (Some body) is =
        ap (λ z. map (λ o. Obj o ∷ []) (cond (is_some z) (s.number ∷ filter (λ o. is_some (body_at slots o)) first) (filter (λ o. is_some (body_at slots o)) first))) (own s (Contains-head s some) ∙ is)
        ∙ ap (λ zs. (Obj s.number ∷ []) ∷ zs) more
        ∙ sym (ap (λ z. map (λ (x : Object). Obj x.number ∷ []) (cond z (record { number = s.number; name = s.name; class = s.class } ∷ filter (λ (x : Object). isa meta x.class c) rest) (filter (λ (x : Object). isa meta x.class c) rest))) e)
    by more true e None is =
        ap (λ z. map (λ o. Obj o ∷ []) (cond (is_some z) (s.number ∷ filter (λ o. is_some (body_at slots o)) first) (filter (λ o. is_some (body_at slots o)) first))) (own s (Contains-head s some) ∙ is)
        ∙ more
    by more false e (Some body) is =
        more
        ∙ sym (ap (λ z. map (λ (x : Object). Obj x.number ∷ []) (cond z (record { number = s.number; name = s.name; class = s.class } ∷ filter (λ (x : Object). isa meta x.class c) rest) (filter (λ (x : Object). isa meta x.class c) rest))) e)
    by more false e None is = more

pub class_rows_are : (meta : Metamodel) (next : ℕ) (slots : List Slot) → NumbersRise slots → (c : ClassId) → rows_listed slots (Class c) (listing meta slots c) ≡ class_rows meta (model_of next slots) c
class_rows_are meta next slots rise c = rows_listed-class slots c (listing meta slots c) ∙ live_rows_among slots meta c slots (body_at_own slots rise)

-- ---- the rows of an attribute

-- a row for each object of a listing that has a value
abbrev value_rows : List Slot → AttrId → List ObjId → List (List Value)
value_rows slots a objects = filter_map (λ o. value_row o (slot_value slots o a)) objects

rows_listed-attribute : (slots : List Slot) (a : AttrId) (objects : List ObjId) → rows_listed slots (Attribute a) objects ≡ value_rows slots a objects
rows_listed-attribute slots a [] = refl
rows_listed-attribute slots a (o ∷ objects) = by (rows_listed-attribute slots a objects) (value_row o (slot_value slots o a))
  where
    by : rows_listed slots (Attribute a) objects ≡ value_rows slots a objects → (r : Option (List Value))
        → option_to_list r ++ rows_listed slots (Attribute a) objects ≡ cons_option r (value_rows slots a objects)
    by rest None = rest
    by rest (Some row) = ap (λ rows. row ∷ rows) rest

-- the row of a value has its object first
value_row_is : (o : ObjId) (r : Option Value) (row : List Value) → value_row o r ≡ Some row → (v : Value) × (r ≡ Some v) × (row ≡ Obj o ∷ v ∷ [])
value_row_is o None row e = cc
value_row_is o (Some v) row e = (v, refl, cc)

pub pair_below : (o p : ObjId) (v w : Value) → number_order o p ≡ Less → tuple_cmp (Obj o ∷ v ∷ []) (Obj p ∷ w ∷ []) ≡ Less
pair_below o p v w less = rw less refl

abbrev row_of_value : AttributeValue → List Value
row_of_value t = Obj t.object ∷ t.value ∷ []

module _ (slots : List Slot) (rise : NumbersRise slots) (each : ValuesRise slots) (a : AttrId) where
  -- a listing with each object that has a value for the attribute
  abbrev pub Covers : List ObjId → Type 0
  Covers objects = (o : ObjId) (v : Value) → slot_value slots o a ≡ Some v → Contains objects o

  value_rows_rise : (objects : List ObjId) → ObjectsRise objects → IsStrictlySortedBy tuple_cmp (value_rows slots a objects)
  value_rows_rise objects up = rises-filter_map number_order tuple_cmp (λ o. value_row o (slot_value slots o a)) objects up below
    where
      below : (o p : ObjId) (x y : List Value) → number_order o p ≡ Less → value_row o (slot_value slots o a) ≡ Some x → value_row p (slot_value slots p a) ≡ Some y → tuple_cmp x y ≡ Less
      below o p x y less first second =
          let one = value_row_is o (slot_value slots o a) x first in
          let other = value_row_is p (slot_value slots p a) y second in
          ap (λ row. tuple_cmp row y) one.2 ∙ ap (tuple_cmp (Obj o ∷ one.0 ∷ [])) other.2 ∙ pair_below o p one.0 other.0 less

  pub attribute_rows_are : (next : ℕ) (objects : List ObjId) → ObjectsRise objects → Covers objects → rows_listed slots (Attribute a) objects ≡ attribute_rows (model_of next slots) a
  attribute_rows_are next objects up covers = rows_listed-attribute slots a objects ∙ same_items tuple_cmp IsTotalOrder-tuple_cmp (value_rows slots a objects) (attribute_rows (model_of next slots) a)
      (value_rows_rise objects up) (Ascends-attribute_rows (model_of next slots) a (slot_values_rise slots rise each)) forth back
    where
      forth : (row : List Value) → Contains (value_rows slots a objects) row → Contains (attribute_rows (model_of next slots) a) row
      forth row there =
          let found = Contains-from_filter_map (λ o. value_row o (slot_value slots o a)) objects row there in
          let of = value_row_is found.0 (slot_value slots found.0 a) row found.2 in
          let stands : Contains (filter (λ (u : AttributeValue). u.attribute.0 == a.0) (model_of next slots).values) (record { object = found.0; attribute = a; value = of.0 }) =
          Contains-filter (λ (u : AttributeValue). u.attribute.0 == a.0) (model_of next slots).values (record { object = found.0; attribute = a; value = of.0 }) (value_stands slots found.0 a of.0 of.1) (eq-eqb a.0 a.0 refl) in
          subst (Contains (attribute_rows (model_of next slots) a)) (sym of.2)
          (Contains-map row_of_value (filter (λ (u : AttributeValue). u.attribute.0 == a.0) (model_of next slots).values) (record { object = found.0; attribute = a; value = of.0 }) stands)

      back : (row : List Value) → Contains (attribute_rows (model_of next slots) a) row → Contains (value_rows slots a objects) row
      back row there =
          let found = Contains-from_map row_of_value (filter (λ (u : AttributeValue). u.attribute.0 == a.0) (model_of next slots).values) row there in
          let parts = Contains-from_filter (λ (u : AttributeValue). u.attribute.0 == a.0) (model_of next slots).values found.0 found.1 in
          let own = same_attribute found.0.attribute a (equal_numbers found.0.attribute.0 a.0 parts.1) in
          let has : slot_value slots found.0.object a ≡ Some found.0.value = subst (λ b. slot_value slots found.0.object b ≡ Some found.0.value) own (value_stood slots rise each found.0 parts.0) in
          Contains-filter_map (λ o. value_row o (slot_value slots o a)) objects found.0.object row (covers found.0.object found.0.value has)
          (ap (value_row found.0.object) has ∙ ap Some found.2)

-- a slot of the object, where it has a value for the attribute
slot_with_value : (slots : List Slot) (o : ObjId) (a : AttrId) (v : Value) → slot_value slots o a ≡ Some v
    → (s : Slot) × Contains slots s × (s.number ≡ o) × ((body : Body) × (s.body ≡ Some body) × (value_in body.values a ≡ Some v))
slot_with_value slots o a v e = by (slot_at slots o) refl e
  where
    of_body : (s : Slot) → Contains slots s → s.number ≡ o → (b : Option Body) → s.body ≡ b → option_and_then (λ (body : Body). value_in body.values a) b ≡ Some v
        → (s : Slot) × Contains slots s × (s.number ≡ o) × ((body : Body) × (s.body ≡ Some body) × (value_in body.values a ≡ Some v))
    of_body s there number None is e = cc
    of_body s there number (Some body) is e = (s, there, number, (body, is, e))

    by : (r : Option Slot) → slot_at slots o ≡ r → option_and_then (λ (body : Body). value_in body.values a) (option_and_then (λ (s : Slot). s.body) r) ≡ Some v
        → (s : Slot) × Contains slots s × (s.number ≡ o) × ((body : Body) × (s.body ≡ Some body) × (value_in body.values a ≡ Some v))
    by None found e = cc
    by (Some s) found e = of_body s (slot_at_stands slots o s found) (slot_at_number slots o s found) s.body refl e

-- all objects cover each attribute
pub all_cover : (slots : List Slot) (rise : NumbersRise slots) (each : ValuesRise slots) (a : AttrId) → Covers slots rise each a (map (λ (s : Slot). s.number) slots)
all_cover slots rise each a o v e =
    let found = slot_with_value slots o a v e in
    subst (Contains (map (λ (s : Slot). s.number) slots)) found.2 (Contains-map (λ (s : Slot). s.number) slots found.0 found.1)

-- the listing of the class that declares it does
pub listing_covers : (meta : Metamodel) (next : ℕ) (slots : List Slot) → (is : IsIndexed meta next slots) → (a : AttrId) (info : AttrInfo) → slice_get meta.attributes a.0 ≡ Some info
    → Covers slots is.numbers_rise (values_rise_each meta next slots is.each) a (listing meta slots info.class)
listing_covers meta next slots is a info declared o v e =
    let found = slot_with_value slots o a v e in
    let body = found.3 in
    let held = value_found body.0.values a v body.2 in
    let place : Contains (map (λ (h : Held). h.attribute) body.0.values) a = subst (Contains (map (λ (h : Held). h.attribute) body.0.values)) held.2 (Contains-map (λ (h : Held). h.attribute) body.0.values held.0 held.1) in
    let attribute : Contains (attributes_had meta found.0.class) a = subst (λ all. Contains all a) (body_fits meta next slots is.each found.0 body.0 found.1 body.1).places place in
    let has : isa meta found.0.class info.class ≡ true = had_back meta found.0.class a info declared attribute in
    subst (Contains (listing meta slots info.class)) found.2
    (Contains-map (λ (s : Slot). s.number) (filter (λ (s : Slot). isa meta s.class info.class) slots) found.0
    (Contains-filter (λ (s : Slot). isa meta s.class info.class) slots found.0 found.1 has))
