-- The slot of an object: where it is found, and what is found after each change of the slots.
use Rattle.std.proofs.Common.{◌≡◌, ◌≢◌, ℕ, ◌<◌, ◌==◌, List, [], ◌∷◌, ◌++◌, map, refl, sym, ap, subst, ◌∙◌, arith, cond, Bool, true, false, ◌⊎◌, inl, inr, eq-eqb, ne_eqb, Option, Some, None, option_map, option_and_then, unwrap_or}
use Rattle.std.specs.Prelude.{Contains, All}
use Rattle.std.specs.Cmp.{IsTotalOrder, nat_cmp_total}
use Rattle.std.specs.Ordering.{nat_cmp}
use Rattle.std.specs.declared.cmp.Ordering.TheVariants.{Equal}
use Rattle.std.proofs.lemmas.Bool.{cases_eq}
use Rattle.std.proofs.lemmas.Cmp.{on_total, tied_itself}
use Rattle.std.proofs.lemmas.List.Elements.{All-contains}
use Rattle.vt_base.specs.declared.numbers.ObjId.{ObjId}
use Rattle.vt_base.specs.declared.numbers.AttrId.{AttrId}
use Rattle.vt_base.specs.declared.value.Value.{Value}
use Rattle.vt_facts.proofs.MemberLemmas.{Contains-head, Contains-behind, Contains-find, find-some}
use Rattle.vt_slots.specs.Ends.{EndList}
use Rattle.vt_slots.specs.Slots.{slot_order, NumbersRise, slot_at, body_at, ends_on, ends_at, put_body, with_body, with_value_at, put_value_in, with_slot_value}
use Rattle.vt_slots.specs.declared.slot.Side.{Side}
use Rattle.vt_slots.specs.declared.slot.Side.TheVariants.{Outgoing, Incoming}
use Rattle.vt_slots.specs.declared.slot.Body.{Body}
use Rattle.vt_slots.specs.declared.slot.Slot.{Slot}
use Rattle.vt_slots.proofs.PlaceLemmas.{sorted_alike}
use Rattle.vt_slots.proofs.SlotsLemmas.{slot_number}
use Rattle.vt_facts.proofs.RisingLemmas.{find_is}
use Rattle.vt_facts.proofs.ChosenLemmas.{find-map, find-agree}

-- ---- numbers

-- objects with one number are the same
pub same_object : (o p : ObjId) → o.0 ≡ p.0 → o ≡ p
same_object o p e = ap (λ (n : ℕ). record { 0 = n }) e

-- numbers that the test tells to be equal
pub equal_numbers : (a b : ℕ) → (a == b) ≡ true → a ≡ b
equal_numbers a b e = by (cases_eq a b)
  where
    by : (a ≡ b) ⊎ (a ≢ b) → a ≡ b
    by (inl is) = is
    by (inr apart) = let no : (a == b) ≡ false = ne_eqb a b apart in cc

pub slot_order_total : IsTotalOrder slot_order
slot_order_total = on_total slot_number nat_cmp_total

-- slots with one number are tied
pub tied_numbers : (s t : Slot) → s.number.0 ≡ t.number.0 → slot_order s t ≡ Equal
tied_numbers s t e = subst (λ n. nat_cmp s.number.0 n ≡ Equal) e (tied_itself nat_cmp_total s.number.0)

-- ---- where it is found

module _ (slots : List Slot) (o : ObjId) where
  -- what is found stands among the slots, and is the object's
  pub slot_at_stands : (s : Slot) → slot_at slots o ≡ Some s → Contains slots s
  slot_at_stands s found = (Contains-find (λ t. t.number.0 == o.0) slots s found).0

  pub slot_at_number : (s : Slot) → slot_at slots o ≡ Some s → s.number ≡ o
  slot_at_number s found = same_object s.number o (equal_numbers s.number.0 o.0 (Contains-find (λ t. t.number.0 == o.0) slots s found).1)

  -- where none is found none stands
  pub slot_at_none : slot_at slots o ≡ None → (s : Slot) → Contains slots s → s.number ≡ o → ⊥
  slot_at_none none s there is = let found = find-some (λ t. t.number.0 == o.0) slots s there (eq-eqb s.number.0 o.0 (ap (λ (p : ObjId). p.0) is)) in cc

  -- a slot of the object is what is found, where the numbers rise
  pub slot_at_is : NumbersRise slots → (s : Slot) → Contains slots s → s.number ≡ o → slot_at slots o ≡ Some s
  slot_at_is rise s there is = find_is slot_order slot_order_total (λ t. t.number.0 == o.0) slots rise
      (λ t u first second. tied_numbers t u (equal_numbers t.number.0 o.0 first ∙ sym (equal_numbers u.number.0 o.0 second)))
      s there (eq-eqb s.number.0 o.0 (ap (λ (p : ObjId). p.0) is))

  -- ---- what is found tells of the body and the ends

  pub body_at_found : (s : Slot) → slot_at slots o ≡ Some s → body_at slots o ≡ s.body
  body_at_found s found = ap (option_and_then (λ (t : Slot). t.body)) found

  pub body_at_none : slot_at slots o ≡ None → body_at slots o ≡ None
  body_at_none none = ap (option_and_then (λ (t : Slot). t.body)) none

  pub ends_at_body : (body : Body) → body_at slots o ≡ Some body → (side : Side) → ends_at slots o side ≡ ends_on side body
  ends_at_body body is side = ap (λ b. unwrap_or (option_map (ends_on side) b) []) is

  pub ends_at_none : body_at slots o ≡ None → (side : Side) → ends_at slots o side ≡ []
  ends_at_none none side = ap (λ b. unwrap_or (option_map (ends_on side) b) []) none

-- what a slot that is found says of its object's ends
abbrev ends_found : Side → Option Slot → List EndList
ends_found side found = unwrap_or (option_map (ends_on side) (option_and_then (λ (s : Slot). s.body) found)) []

-- ---- one slot is changed

-- a change leaves the number
abbrev pub LeavesNumber : (Slot → Slot) → Type 0
LeavesNumber f = (s : Slot) → (f s).number ≡ s.number

module _ (f : Slot → Slot) (leaves : LeavesNumber f) where
  pub slot_at_changed : (slots : List Slot) (p : ObjId) → slot_at (map f slots) p ≡ option_map f (slot_at slots p)
  slot_at_changed slots p =
      find-map (λ s. s.number.0 == p.0) f slots
      ∙ ap (option_map f) (find-agree (λ s. (f s).number.0 == p.0) (λ s. s.number.0 == p.0) slots (λ s. ap (λ (q : ObjId). q.0 == p.0) (leaves s)))

  numbers_same : (slots : List Slot) → map slot_number (map f slots) ≡ map slot_number slots
  numbers_same [] = refl
  numbers_same (s ∷ slots) = rw (leaves s) (ap (λ ns. s.number.0 ∷ ns) (numbers_same slots))

  pub numbers_rise_changed : (slots : List Slot) → NumbersRise slots → NumbersRise (map f slots)
  numbers_rise_changed slots rise = sorted_alike slot_number slots (map f slots) (numbers_same slots) rise

-- a choice between what has the number leaves the number
choice_leaves : (b : Bool) (s t : Slot) → t.number ≡ s.number → (cond b t s).number ≡ s.number
choice_leaves true s t e = e
choice_leaves false s t e = refl

module _ (o : ObjId) where
  module _ (body : Option Body) where
    pub put_body_leaves : LeavesNumber (put_body o body)
    put_body_leaves s = choice_leaves (s.number.0 == o.0) s (record s { body = body }) refl

    pub slot_at_with_body : (slots : List Slot) (p : ObjId) → slot_at (with_body slots o body) p ≡ option_map (put_body o body) (slot_at slots p)
    slot_at_with_body slots p = slot_at_changed (put_body o body) put_body_leaves slots p

    pub numbers_rise_with_body : (slots : List Slot) → NumbersRise slots → NumbersRise (with_body slots o body)
    numbers_rise_with_body slots rise = numbers_rise_changed (put_body o body) put_body_leaves slots rise

    -- the object's own slot
    pub put_body_own : (s : Slot) → s.number ≡ o → put_body o body s ≡ record s { body = body }
    put_body_own s is = ap (λ b. cond b (record s { body = body }) s) (eq-eqb s.number.0 o.0 (ap (λ (p : ObjId). p.0) is))

    -- another slot stays
    pub put_body_other : (s : Slot) → s.number.0 ≢ o.0 → put_body o body s ≡ s
    put_body_other s apart = ap (λ b. cond b (record s { body = body }) s) (ne_eqb s.number.0 o.0 apart)

    pub slot_at_with_body_own : (slots : List Slot) (s : Slot) → slot_at slots o ≡ Some s → slot_at (with_body slots o body) o ≡ Some (record s { body = body })
    slot_at_with_body_own slots s found =
        slot_at_with_body slots o ∙ ap (option_map (put_body o body)) found ∙ ap Some (put_body_own s (slot_at_number slots o s found))

    pub body_at_with_body_own : (slots : List Slot) (s : Slot) → slot_at slots o ≡ Some s → body_at (with_body slots o body) o ≡ body
    body_at_with_body_own slots s found = body_at_found (with_body slots o body) o (record s { body = body }) (slot_at_with_body_own slots s found)

    pub slot_at_with_body_other : (slots : List Slot) (p : ObjId) → p.0 ≢ o.0 → slot_at (with_body slots o body) p ≡ slot_at slots p
    slot_at_with_body_other slots p apart = slot_at_with_body slots p ∙ by (slot_at slots p) refl
      where
        by : (r : Option Slot) → slot_at slots p ≡ r → option_map (put_body o body) r ≡ r
        by None e = refl
        by (Some s) e = ap Some (put_body_other s (λ same. apart (sym (ap (λ (q : ObjId). q.0) (slot_at_number slots p s e)) ∙ same)))

    pub body_at_with_body_other : (slots : List Slot) (p : ObjId) → p.0 ≢ o.0 → body_at (with_body slots o body) p ≡ body_at slots p
    body_at_with_body_other slots p apart = ap (option_and_then (λ (t : Slot). t.body)) (slot_at_with_body_other slots p apart)

    pub ends_at_with_body_other : (slots : List Slot) (p : ObjId) → p.0 ≢ o.0 → (side : Side) → ends_at (with_body slots o body) p side ≡ ends_at slots p side
    ends_at_with_body_other slots p apart side = ap (λ b. unwrap_or (option_map (ends_on side) b) []) (body_at_with_body_other slots p apart)

  module _ (a : AttrId) (value : Option Value) where
    pub put_value_leaves : LeavesNumber (put_value_in o a value)
    put_value_leaves s = choice_leaves (s.number.0 == o.0) s (record s { body = option_map (with_value_at a value) s.body }) refl

    pub slot_at_with_value : (slots : List Slot) (p : ObjId) → slot_at (with_slot_value slots o a value) p ≡ option_map (put_value_in o a value) (slot_at slots p)
    slot_at_with_value slots p = slot_at_changed (put_value_in o a value) put_value_leaves slots p

    pub numbers_rise_with_value : (slots : List Slot) → NumbersRise slots → NumbersRise (with_slot_value slots o a value)
    numbers_rise_with_value slots rise = numbers_rise_changed (put_value_in o a value) put_value_leaves slots rise

    pub put_value_own : (s : Slot) → s.number ≡ o → put_value_in o a value s ≡ record s { body = option_map (with_value_at a value) s.body }
    put_value_own s is = ap (λ b. cond b (record s { body = option_map (with_value_at a value) s.body }) s) (eq-eqb s.number.0 o.0 (ap (λ (p : ObjId). p.0) is))

    pub put_value_other : (s : Slot) → s.number.0 ≢ o.0 → put_value_in o a value s ≡ s
    put_value_other s apart = ap (λ b. cond b (record s { body = option_map (with_value_at a value) s.body }) s) (ne_eqb s.number.0 o.0 apart)

    pub slot_at_with_value_own : (slots : List Slot) (s : Slot) → slot_at slots o ≡ Some s
        → slot_at (with_slot_value slots o a value) o ≡ Some (record s { body = option_map (with_value_at a value) s.body })
    slot_at_with_value_own slots s found =
        slot_at_with_value slots o ∙ ap (option_map (put_value_in o a value)) found ∙ ap Some (put_value_own s (slot_at_number slots o s found))

    pub body_at_with_value_own : (slots : List Slot) (s : Slot) → slot_at slots o ≡ Some s
        → body_at (with_slot_value slots o a value) o ≡ option_map (with_value_at a value) s.body
    body_at_with_value_own slots s found =
        body_at_found (with_slot_value slots o a value) o (record s { body = option_map (with_value_at a value) s.body }) (slot_at_with_value_own slots s found)

    pub slot_at_with_value_other : (slots : List Slot) (p : ObjId) → p.0 ≢ o.0 → slot_at (with_slot_value slots o a value) p ≡ slot_at slots p
    slot_at_with_value_other slots p apart = slot_at_with_value slots p ∙ by (slot_at slots p) refl
      where
        by : (r : Option Slot) → slot_at slots p ≡ r → option_map (put_value_in o a value) r ≡ r
        by None e = refl
        by (Some s) e = ap Some (put_value_other s (λ same. apart (sym (ap (λ (q : ObjId). q.0) (slot_at_number slots p s e)) ∙ same)))

    -- the ends of all objects stay
    pub ends_at_with_value : (slots : List Slot) (p : ObjId) (side : Side) → ends_at (with_slot_value slots o a value) p side ≡ ends_at slots p side
    ends_at_with_value slots p side = ap (ends_found side) (slot_at_with_value slots p) ∙ by (slot_at slots p)
      where
        on_body : (t : Side) (b : Option Body) → unwrap_or (option_map (ends_on t) (option_map (with_value_at a value) b)) [] ≡ unwrap_or (option_map (ends_on t) b) []
        on_body t None = refl
        on_body Outgoing (Some b) = refl
        on_body Incoming (Some b) = refl

        by : (r : Option Slot) → ends_found side (option_map (put_value_in o a value) r) ≡ ends_found side r
        by None = refl
        by (Some s) = elim (s.number.0 == o.0) as (λ b. ends_found side (Some (cond b (record s { body = option_map (with_value_at a value) s.body }) s)) ≡ ends_found side (Some s)) [
          | true ↦ on_body side s.body
          | false ↦ refl
        ]

-- ---- one more slot at the end (read from the longer list to the shorter, one less)

module _ (slots : List Slot) (s : Slot) where
  pub slot_at_push_other : (p : ObjId) → p.0 ≢ s.number.0 → slot_at (slots ++ s ∷ []) p ≡ slot_at slots p
  slot_at_push_other p apart = by slots
    where
      by : (ts : List Slot) → slot_at (ts ++ s ∷ []) p ≡ slot_at ts p
      by [] = ap (λ b. cond b (Some s) None) (ne_eqb s.number.0 p.0 (λ same. apart (sym same)))
      by (t ∷ ts) = ap (λ r. cond (t.number.0 == p.0) (Some t) r) (by ts)

  pub slot_at_push_own : All (λ t. t.number.0 < s.number.0) slots → slot_at (slots ++ s ∷ []) s.number ≡ Some s
  slot_at_push_own below = by slots (λ t there. All-contains (λ u. u.number.0 < s.number.0) slots t below there)
    where
      by : (ts : List Slot) → ((t : Slot) → Contains ts t → t.number.0 < s.number.0) → slot_at (ts ++ s ∷ []) s.number ≡ Some s
      by [] low = ap (λ b. cond b (Some s) None) (eq-eqb s.number.0 s.number.0 refl)
      by (t ∷ ts) low =
          let less : t.number.0 < s.number.0 = low t (Contains-head t ts) in
          ap (λ b. cond b (Some t) (slot_at (ts ++ s ∷ []) s.number)) (ne_eqb t.number.0 s.number.0 (λ same. let no : ⊥ = omega (arith, less, same) in no))
          ∙ by ts (λ u there. low u (Contains-behind t u ts there))

  pub body_at_push_other : (p : ObjId) → p.0 ≢ s.number.0 → body_at (slots ++ s ∷ []) p ≡ body_at slots p
  body_at_push_other p apart = ap (option_and_then (λ (t : Slot). t.body)) (slot_at_push_other p apart)

  pub body_at_push_own : All (λ t. t.number.0 < s.number.0) slots → body_at (slots ++ s ∷ []) s.number ≡ s.body
  body_at_push_own below = body_at_found (slots ++ s ∷ []) s.number s (slot_at_push_own below)

  pub ends_at_push_other : (p : ObjId) → p.0 ≢ s.number.0 → (side : Side) → ends_at (slots ++ s ∷ []) p side ≡ ends_at slots p side
  ends_at_push_other p apart side = ap (λ b. unwrap_or (option_map (ends_on side) b) []) (body_at_push_other p apart)
