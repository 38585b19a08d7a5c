-- The slots of all objects, where the slot of one stands and where it would go.
use Rattle.std.proofs.Common.{◌≡◌, ◌≢◌, ◌↔◌, ℕ, ◌<◌, ◌≤◌, ◌+◌, ◌==◌, ◌&&◌, ◌||◌, List, [], ◌∷◌, ◌++◌, length, map, find, get_or, set, refl, sym, ap, subst, ◌∙◌, arith, cond, Bool, true, false, not, nat_eq, Option, Some, None, IsSome, option_map, option_and_then, option_to_list, unwrap_or, position, slice_get, All, ⊎_elim, length-append}
use Rattle.std.specs.declared.cmp.Ordering.TheVariants.{Less}
use Rattle.std.specs.Cmp.Lexicographic.{pointwise, nat_list_eq_equiv}
use Rattle.std.specs.List.{AllByRecursion, list_any}
use Rattle.std.specs.List.Sorted.{IsStrictlySortedBy}
use Rattle.std.proofs.lemmas.Bool.{cases_eq}
use Rattle.std.proofs.lemmas.List.Elements.{All-nil, All-cons, All-weaker}
use Rattle.std.proofs.lemmas.Option.{slice_get-get_or}
use Rattle.vt_base.specs.declared.numbers.ObjId.{ObjId}
use Rattle.vt_base.specs.declared.numbers.AttrId.{AttrId}
use Rattle.vt_base.specs.declared.value.Value.{Value}
use Rattle.vt_base.proofs.RowsLemmas.{ascends-none}
use Rattle.vt_facts.specs.Names.{is_name, is_distinct}
use Rattle.vt_facts.proofs.OrderedLemmas.{IsStrictlySortedBy-append}
use Rattle.vt_model.proofs.DistinctLemmas.{is_distinct-push}
use Rattle.vt_facts.proofs.PositionLemmas.{position-map, position_agree, find_position}
use Rattle.vt_slots.specs.Ends.{EndList, ObjectsRise, reference_order, HaveShape}
use Rattle.vt_slots.specs.Slots.{slot_order, NumbersRise, NamesDiffer, slot_at, slot_named, body_at, ends_on, ends_at, with_body, with_value_at, with_slot_value, bare, OtherEndsStay}
use Rattle.vt_slots.specs.Inside.Place.{StandsAt, GoesAt}
use Rattle.vt_slots.specs.Inside.Shape.{slot_ends}
use Rattle.vt_slots.specs.declared.slot.Side.{Side}
use Rattle.vt_slots.specs.declared.slot.Body.{Body}
use Rattle.vt_slots.specs.declared.slot.Slot.{Slot}
use Rattle.vt_slots.proofs.PlaceLemmas.{is_less, find_stands, find_goes, inside_stands, find_set_same, find_set_other, map_stands, map_goes, key_stands, sorted_alike, map_set_alike}

-- no ends have the shape of ends
pub HaveShape_none : HaveShape []
HaveShape_none = record {
  references_rise = ascends-none reference_order;
  objects_rise = All-nil (λ (l : EndList). ObjectsRise l.objects);
  fits = All-nil (λ (l : EndList). length l.objects ≤ l.capacity);
}

-- the number of a slot
abbrev pub slot_number : Slot → ℕ
slot_number s = s.number.0

-- what a slot that is found says of its object
abbrev body_found : Option Slot → Option Body
body_found found = option_and_then (λ s. s.body) found

abbrev ends_found : Side → Option Slot → List EndList
ends_found side found = unwrap_or (option_map (ends_on side) (body_found found)) []

module _ (slots : List Slot) (o : ObjId) (i : ℕ) where
  -- ---- an object that has no slot

  module _ (out : GoesAt slot_number o.0 slots i) where
    pub slot_at_goes : slot_at slots o ≡ None
    slot_at_goes = find_goes slot_number o.0 slots i out

    pub body_at_goes : body_at slots o ≡ None
    body_at_goes = ap body_found slot_at_goes

    pub ends_at_goes : (side : Side) → ends_at slots o side ≡ []
    ends_at_goes side = ap (ends_found side) slot_at_goes

    pub with_body_goes : (body : Option Body) → with_body slots o body ≡ slots
    with_body_goes body = map_goes slot_number o.0 (λ s. record s { body = body }) slots i out

  module _ (there : StandsAt slot_number o.0 slots i) (d : Slot) where
    -- ---- the slot of an object

    pub slot_at_stands : slot_at slots o ≡ Some (get_or slots i d)
    slot_at_stands = find_stands slot_number o.0 slots i there d

    pub body_at_stands : body_at slots o ≡ (get_or slots i d).body
    body_at_stands = ap body_found slot_at_stands

    pub ends_at_stands : (side : Side) → ends_at slots o side ≡ slot_ends side (get_or slots i d)
    ends_at_stands side = ap (ends_found side) slot_at_stands

    pub with_body_stands : (body : Option Body) → with_body slots o body ≡ set slots i (record (get_or slots i d) { body = body })
    with_body_stands body = map_stands slot_number o.0 (λ s. record s { body = body }) slots i there d

    pub with_slot_value_stands : (a : AttrId) (value : Option Value)
        → with_slot_value slots o a value ≡ set slots i (record (get_or slots i d) { body = option_map (with_value_at a value) (get_or slots i d).body })
    with_slot_value_stands a value = map_stands slot_number o.0 (λ s. record s { body = option_map (with_value_at a value) s.body }) slots i there d

    -- ---- the slot of an object is changed

    module _ (s : Slot) (alike : bare s ≡ bare (get_or slots i d)) where
      number_is : s.number.0 ≡ o.0
      number_is = ap (λ (t : Slot). t.number.0) alike ∙ key_stands slot_number o.0 slots i there d

      pub ends_changed : (side : Side) → ends_at (set slots i s) o side ≡ slot_ends side s
      ends_changed side = ap (ends_found side) (find_set_same slot_number o.0 slots i s there number_is)

      pub OtherEndsStay_changed : (side : Side) → ((t : Side) → (t ≡ side → ⊥) → slot_ends t s ≡ slot_ends t (get_or slots i d)) → OtherEndsStay slots (set slots i s) o side
      OtherEndsStay_changed side others p t apart = ⊎_elim
          (λ (e : p.0 ≡ o.0). subst (λ n. ends_found t (find (λ x. x.number.0 == n) (set slots i s)) ≡ ends_found t (find (λ x. x.number.0 == n) slots)) (sym e)
          (ends_changed t ∙ others t (apart e) ∙ sym (ends_at_stands t)))
          (λ (other : p.0 ≢ o.0). ap (ends_found t) (find_set_other slot_number p.0 o.0 slots i s other there number_is))
          (cases_eq p.0 o.0)

-- a search by number ends at the slot of the object
pub slot_at_place : (slots : List Slot) (o : ObjId) (i : ℕ) → StandsAt slot_number o.0 slots i → slice_get slots i ≡ slot_at slots o
slot_at_place [] o i there = absurd there
slot_at_place (s ∷ slots) o i there =
    slice_get-get_or (s ∷ slots) i s (inside_stands slot_number o.0 (s ∷ slots) i there) ∙ sym (slot_at_stands (s ∷ slots) o i there s)

-- the body of an object is that of its slot
pub body_before : (slots now : List Slot) (o : ObjId) (i : ℕ) (s : Slot) → slots ≡ now → StandsAt slot_number o.0 slots i → s ≡ get_or slots i s → body_at now o ≡ s.body
body_before slots now o i s is there at = ap (λ all. body_at all o) (sym is) ∙ body_at_stands slots o i there s ∙ ap (λ (t : Slot). t.body) (sym at)

-- the ends of an object are those of its slot
pub ends_before : (slots now : List Slot) (o : ObjId) (i : ℕ) (s : Slot) (side : Side) → slots ≡ now → StandsAt slot_number o.0 slots i → s ≡ get_or slots i s → ends_at now o side ≡ slot_ends side s
ends_before slots now o i s side is there at = ap (λ all. ends_at all o side) (sym is) ∙ ends_at_stands slots o i there s side ∙ ap (slot_ends side) (sym at)

-- ---- a slot with the number and the name of the old one

module _ (slots : List Slot) (i : ℕ) (s d : Slot) where
  pub numbers_rise_changed : s.number ≡ (get_or slots i d).number → NumbersRise slots → NumbersRise (set slots i s)
  numbers_rise_changed same rise = sorted_alike slot_number slots (set slots i s) (map_set_alike slot_number slots i s d (ap (λ (p : ObjId). p.0) same)) rise

  pub names_stay : s.name ≡ (get_or slots i d).name → map (λ t. t.name) (set slots i s) ≡ map (λ t. t.name) slots
  names_stay same = map_set_alike (λ (t : Slot). t.name) slots i s d same

  pub bare_stays : bare s ≡ bare (get_or slots i d) → map bare (set slots i s) ≡ map bare slots
  bare_stays same = map_set_alike bare slots i s d same

-- what every `Slots` keeps
abbrev pub AreKept : List Slot → List (List ℕ) → Type 0
AreKept slots names = NumbersRise slots × NamesDiffer slots × (names ≡ map (λ s. s.name) slots)

pub kept_changed : (slots : List Slot) (names : List (List ℕ)) (i : ℕ) (s d : Slot) → s.number ≡ (get_or slots i d).number → s.name ≡ (get_or slots i d).name → AreKept slots names → AreKept (set slots i s) names
kept_changed slots names i s d number name kept =
    let same : map (λ t. t.name) (set slots i s) ≡ map (λ t. t.name) slots = names_stay slots i s d name in
    (numbers_rise_changed slots i s d number kept.0, ap is_distinct same ∙ kept.1, kept.2 ∙ sym same)

-- ---- names

-- the slot at the place of a name is the slot of that name
pub named_at_place : (slots : List Slot) (name : List ℕ) → option_and_then (slice_get slots) (position (pointwise nat_eq name) (map (λ s. s.name) slots)) ≡ slot_named slots name
named_at_place slots name =
    ap (option_and_then (slice_get slots)) (position-map (λ (s : Slot). s.name) (pointwise nat_eq name) slots ∙ position_agree (λ s. pointwise nat_eq name s.name) (λ s. is_name s.name name) (λ s. nat_list_eq_equiv.symm name s.name) slots)
    ∙ sym (find_position (λ s. is_name s.name name) slots)

-- a name that no slot has
pub name_is_new : (slots : List Slot) (name : List ℕ) → slot_named slots name ≡ None → list_any (λ n. is_name n name) (map (λ s. s.name) slots) ≡ false
name_is_new [] name fresh = refl
name_is_new (s ∷ slots) name fresh = by (name_is_new slots name) (is_name s.name name) refl fresh
  where
    by : (slot_named slots name ≡ None → list_any (λ n. is_name n name) (map (λ t. t.name) slots) ≡ false)
        → (b : Bool) → is_name s.name name ≡ b → cond b (Some s) (slot_named slots name) ≡ None → (b || list_any (λ n. is_name n name) (map (λ t. t.name) slots)) ≡ false
    by rest true e found = cc
    by rest false e none = rest none

pub name_is_new_key : (slots : List Slot) (name : List ℕ) → slot_named slots name ≡ None → list_any (pointwise nat_eq name) (map (λ s. s.name) slots) ≡ false
name_is_new_key slots name fresh = (λ i. list_any (λ n. nat_list_eq_equiv.symm name n i) (map (λ s. s.name) slots)) ∙ name_is_new slots name fresh

-- ---- one more slot at the end, or one less

rise_alone : (s : Slot) → NumbersRise (s ∷ [])
unfolding IsStrictlySortedBy
rise_alone s = (tt, tt)

pub numbers_rise_pushed : (slots : List Slot) (s : Slot) → NumbersRise slots → All (λ t. t.number.0 < s.number.0) slots → NumbersRise (slots ++ s ∷ [])
numbers_rise_pushed slots s rise lower = IsStrictlySortedBy-append slot_order slots (s ∷ []) rise (rise_alone s)
    (All-weaker (λ t. t.number.0 < s.number.0) (λ t. All (λ u. slot_order t u ≡ Less) (s ∷ []))
    (λ t less. All-cons (λ u. slot_order t u ≡ Less) s [] (is_less t.number.0 s.number.0 less) (All-nil (λ u. slot_order t u ≡ Less))) slots lower)

pub numbers_rise_popped : (slots : List Slot) (s : Slot) → NumbersRise (slots ++ s ∷ []) → NumbersRise slots
unfolding IsStrictlySortedBy
numbers_rise_popped [] s rise = tt
numbers_rise_popped (t ∷ slots) s rise = (front slots rise.0, numbers_rise_popped slots s rise.1)
  where
    front : (us : List Slot) → AllByRecursion (λ u. slot_order t u ≡ Less) (us ++ s ∷ []) → AllByRecursion (λ u. slot_order t u ≡ Less) us
    front [] h = tt
    front (u ∷ us) h = (h.0, front us h.1)

pub names_pushed : (slots : List Slot) (s : Slot) → map (λ t. t.name) (slots ++ s ∷ []) ≡ map (λ t. t.name) slots ++ s.name ∷ []
names_pushed [] s = refl
names_pushed (t ∷ slots) s = ap (λ names. t.name ∷ names) (names_pushed slots s)

pub names_differ_pushed : (slots : List Slot) (s : Slot) → NamesDiffer slots → slot_named slots s.name ≡ None → NamesDiffer (slots ++ s ∷ [])
names_differ_pushed slots s differ fresh =
    ap is_distinct (names_pushed slots s) ∙ is_distinct-push (map (λ t. t.name) slots) s.name
    ∙ (λ i. differ i && not (name_is_new slots s.name fresh i))

pub names_differ_popped : (slots : List Slot) (s : Slot) → NamesDiffer (slots ++ s ∷ []) → NamesDiffer slots
names_differ_popped slots s differ =
    by (is_distinct (map (λ t. t.name) slots)) (not (list_any (λ n. is_name n s.name) (map (λ t. t.name) slots)))
    (sym (is_distinct-push (map (λ t. t.name) slots) s.name) ∙ sym (ap is_distinct (names_pushed slots s)) ∙ differ)
  where
    by : (a b : Bool) → (a && b) ≡ true → a ≡ true
    by true b e = refl
    by false b e = cc

-- lists that are one item longer, and equal
pub shorter_alike : {X : Type 0} (xs ys : List X) (x y : X) → xs ++ x ∷ [] ≡ ys ++ y ∷ [] → xs ≡ ys
shorter_alike [] [] x y e = refl
shorter_alike [] (b ∷ ys) x y e = let long = ap length e in let more = length-append ys (y ∷ []) in absurd (omega (arith, long, more))
shorter_alike (a ∷ xs) [] x y e = let long = ap length e in let more = length-append xs (x ∷ []) in absurd (omega (arith, long, more))
shorter_alike (a ∷ xs) (b ∷ ys) x y e =
    let head : a ≡ b = cc in
    let tail : xs ++ x ∷ [] ≡ ys ++ y ∷ [] = cc in
    rw head (ap (λ zs. b ∷ zs) (shorter_alike xs ys x y tail))

-- the last name goes with the last slot
pub names_popped : (slots : List Slot) (s : Slot) (keys : List (List ℕ)) (last : Option (List ℕ)) → IsSome last → map (λ t. t.name) (slots ++ s ∷ []) ≡ keys ++ option_to_list last → keys ≡ map (λ t. t.name) slots
names_popped slots s keys None there e = cc
names_popped slots s keys (Some k) there e = shorter_alike keys (map (λ t. t.name) slots) k s.name (sym e ∙ names_pushed slots s)

pub kept_popped : (old new : List Slot) (s : Slot) (names keys : List (List ℕ)) (last : Option (List ℕ))
    → old ≡ new ++ s ∷ [] → names ≡ keys ++ option_to_list last → IsSome last ↔ (0 < length names) → AreKept old names → AreKept new keys
kept_popped old new s names keys last fewer shorter found kept =
    let long : length names ≡ length (map (λ t. t.name) new) + 1 = ap length (kept.2 ∙ ap (map (λ t. t.name)) fewer ∙ names_pushed new s) ∙ length-append (map (λ t. t.name) new) (s.name ∷ []) in (
      numbers_rise_popped new s (subst NumbersRise fewer kept.0),
      names_differ_popped new s (subst NamesDiffer fewer kept.1),
      names_popped new s keys last (found.1 (omega (arith, long))) (sym (ap (map (λ t. t.name)) fewer) ∙ sym kept.2 ∙ shorter),
    )

pub kept_pushed : (slots : List Slot) (s : Slot) (names : List (List ℕ))
    → All (λ t. t.number.0 < s.number.0) slots → slot_named slots s.name ≡ None → AreKept slots names → AreKept (slots ++ s ∷ []) (names ++ s.name ∷ [])
kept_pushed slots s names lower fresh kept = (
  numbers_rise_pushed slots s kept.0 lower,
  names_differ_pushed slots s kept.1 fresh,
  ap (λ all. all ++ s.name ∷ []) kept.2 ∙ sym (names_pushed slots s),
)
