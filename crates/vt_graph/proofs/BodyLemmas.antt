-- A body that comes or goes: what is chosen of the slots then.
use Rattle.std.proofs.Common.{◌≡◌, ◌≢◌, ℕ, ◌==◌, List, [], ◌∷◌, filter, not, refl, sym, ap, subst, ◌∙◌, ◌⊎◌, inl, inr, cond, Bool, true, false, Option, Some, None, eq-eqb, ne_eqb}
use Rattle.std.specs.Prelude.{Contains}
use Rattle.std.specs.BTreeSet.{insert_key}
use Rattle.std.specs.Cmp.{nat_cmp_total}
use Rattle.std.specs.List.{filter_map, cons_option}
use Rattle.std.specs.List.Sorted.{IsStrictlySortedBy}
use Rattle.std.specs.Ordering.{nat_cmp}
use Rattle.std.specs.declared.cmp.Ordering.{Ordering}
use Rattle.std.specs.declared.cmp.Ordering.TheVariants.{Equal}
use Rattle.std.proofs.lemmas.Bool.{cases_eq, not_from_false, not_from_true}
use Rattle.std.proofs.lemmas.Cmp.{on_total}
use Rattle.vt_base.specs.declared.numbers.ObjId.{ObjId}
use Rattle.vt_facts.proofs.MemberLemmas.{Contains-head, Contains-behind, Contains-map, Contains-insert_key_cases, Contains-insert_key_old, Contains-from_map}
use Rattle.vt_facts.proofs.OrderedLemmas.{IsStrictlySortedBy-insert_key}
use Rattle.vt_slots.specs.Slots.{slot_order, NumbersRise, slot_at, put_body, with_body}
use Rattle.vt_slots.specs.declared.slot.Body.{Body}
use Rattle.vt_slots.specs.declared.slot.Slot.{Slot}
use Rattle.vt_facts.proofs.RisingLemmas.{Contains-insert_key_there, same_items}
use Rattle.vt_facts.proofs.ChosenLemmas.{Contains-filter_map, Contains-from_filter_map, rises-filter_map, filter_map-map}
use Rattle.vt_graph.proofs.SlotLemmas.{same_object, slot_at_stands, slot_at_number, slot_at_is, put_body_own, put_body_other, numbers_rise_with_body}
use Rattle.vt_graph.proofs.Linked.Ends.{number_order-Equal}

-- a choice that is tested
abbrev pub choice_if : {Y : Type 0} → (Y → Bool) → Option Y → Option Y
choice_if q None = None
choice_if q (Some y) = cond (q y) (Some y) None

-- where each choice is tested, the items that are chosen are filtered
pub filter_map-tested : {X Y : Type 0} (f g : X → Option Y) (q : Y → Bool) (xs : List X) → ((x : X) → Contains xs x → f x ≡ choice_if q (g x)) → filter_map f xs ≡ filter q (filter_map g xs)
filter_map-tested f g q [] same = refl
filter_map-tested f g q (x ∷ xs) same =
    ap (λ r. cons_option r (filter_map f xs)) (same x (Contains-head x xs))
    ∙ by (g x) (filter_map-tested f g q xs (λ y there. same y (Contains-behind x y xs there)))
  where
    kept : (y : _) (b : Bool) → filter_map f xs ≡ filter q (filter_map g xs) → cons_option (cond b (Some y) None) (filter_map f xs) ≡ cond b (y ∷ filter q (filter_map g xs)) (filter q (filter_map g xs))
    kept y true rest = ap (λ ys. y ∷ ys) rest
    kept y false rest = rest

    by : (r : _) → filter_map f xs ≡ filter q (filter_map g xs) → cons_option (choice_if q r) (filter_map f xs) ≡ filter q (cons_option r (filter_map g xs))
    by None rest = rest
    by (Some y) rest = kept y (q y) rest

module _ {Y : Type 0} (f : Slot → Option Y) (number : Y → ℕ) (numbered : (s : Slot) (y : Y) → f s ≡ Some y → number y ≡ s.number.0)
    (slots : List Slot) (rise : NumbersRise slots) (o : ObjId) (s : Slot) (found : slot_at slots o ≡ Some s) (body : Option Body) where
  abbrev order : Y → Y → Ordering
  order x y = nat_cmp (number x) (number y)

  abbrev changed : Slot
  changed = record s { body = body }

  -- a slot with the object's number is the object's
  own_is : (t : Slot) → Contains slots t → t.number.0 ≡ o.0 → t ≡ s
  own_is t there same = let at : slot_at slots o ≡ Some t = slot_at_is slots o rise t there (same_object t.number o same) in let both : Some t ≡ Some s = sym at ∙ found in cc

  abbrev chosen : List Y
  chosen = filter_map f slots

  abbrev chosen_now : List Y
  chosen_now = filter_map f (with_body slots o body)

  -- ---- it was chosen, and is no more

  pub chosen_dropped : f changed ≡ None → chosen_now ≡ filter (λ y. not (number y == o.0)) chosen
  chosen_dropped none = filter_map-map (put_body o body) f slots ∙ filter_map-tested (λ t. f (put_body o body t)) f (λ y. not (number y == o.0)) slots (λ t there. by t there (cases_eq t.number.0 o.0))
    where
      keeps : (t : Slot) (r : Option Y) → f t ≡ r → t.number.0 ≢ o.0 → r ≡ choice_if (λ y. not (number y == o.0)) r
      keeps t None e apart = refl
      keeps t (Some y) e apart = sym (ap (λ b. cond b (Some y) None) (not_from_false (number y == o.0) (ne_eqb (number y) o.0 (λ same. apart (sym (numbered t y e) ∙ same)))))

      drops : (t : Slot) (r : Option Y) → f t ≡ r → t.number.0 ≡ o.0 → None ≡ choice_if (λ y. not (number y == o.0)) r
      drops t None e same = refl
      drops t (Some y) e same = sym (ap (λ b. cond b (Some y) None) (not_from_true (number y == o.0) (eq-eqb (number y) o.0 (numbered t y e ∙ same))))

      by : (t : Slot) → Contains slots t → (t.number.0 ≡ o.0) ⊎ (t.number.0 ≢ o.0) → f (put_body o body t) ≡ choice_if (λ y. not (number y == o.0)) (f t)
      by t there (inr apart) = ap f (put_body_other o body t apart) ∙ keeps t (f t) refl apart
      by t there (inl same) =
          ap f (put_body_own o body t (same_object t.number o same)) ∙ ap (λ (u : Slot). f (record u { body = body })) (own_is t there same) ∙ none ∙ drops t (f t) refl same

  -- ---- it wasn't chosen, and is now

  module _ (before : f s ≡ None) (y : Y) (now : f changed ≡ Some y) where
    -- what stood stands still
    stays : (z : Y) → Contains chosen z → Contains chosen_now z
    stays z there =
        let at = Contains-from_filter_map f slots z there in
        Contains-filter_map f (with_body slots o body) (put_body o body at.0) z (Contains-map (put_body o body) slots at.0 at.1)
        (ap f (put_body_other o body at.0 (λ same. let none : f at.0 ≡ None = ap f (own_is at.0 at.1 same) ∙ before in let some : f at.0 ≡ Some z = at.2 in cc)) ∙ at.2)

    -- the new one stands
    comes : Contains chosen_now y
    comes = Contains-filter_map f (with_body slots o body) (put_body o body s) y (Contains-map (put_body o body) slots s (slot_at_stands slots o s found))
        (ap f (put_body_own o body s (slot_at_number slots o s found)) ∙ now)

    -- and nothing else
    only : (z : Y) → Contains chosen_now z → Contains chosen z ⊎ (y ≡ z)
    only z there =
        let at = Contains-from_filter_map f (with_body slots o body) z there in
        let from = Contains-from_map (put_body o body) slots at.0 at.1 in
        by from.0 from.1 (ap f from.2 ∙ at.2) (cases_eq from.0.number.0 o.0)
      where
        by : (t : Slot) → Contains slots t → f (put_body o body t) ≡ Some z → (t.number.0 ≡ o.0) ⊎ (t.number.0 ≢ o.0) → Contains chosen z ⊎ (y ≡ z)
        by t at e (inr apart) = inl (Contains-filter_map f slots t z at (sym (ap f (put_body_other o body t apart)) ∙ e))
        by t at e (inl same) =
            let own : f (put_body o body t) ≡ Some y = ap f (put_body_own o body t (same_object t.number o same)) ∙ ap (λ (u : Slot). f (record u { body = body })) (own_is t at same) ∙ now in
            let is : Some y ≡ Some z = sym own ∙ e in
            inr cc

    -- nothing that stood has its number
    alone : (z : Y) → Contains chosen z → order y z ≡ Equal → y ≡ z
    alone z there tied =
        let at = Contains-from_filter_map f slots z there in
        let same : number y ≡ number z = ap (λ (p : ObjId). p.0) (number_order-Equal (record { 0 = number y }) (record { 0 = number z }) tied) in
        let own : at.0.number.0 ≡ o.0 = sym (numbered at.0 z at.2) ∙ sym same ∙ numbered changed y now ∙ ap (λ (p : ObjId). p.0) (slot_at_number slots o s found) in
        let none : f at.0 ≡ None = ap f (own_is at.0 at.1 own) ∙ before in
        let some : f at.0 ≡ Some z = at.2 in
        cc

    chosen_rise : (ts : List Slot) → NumbersRise ts → IsStrictlySortedBy order (filter_map f ts)
    chosen_rise ts up = rises-filter_map slot_order order f ts up (λ t u x z less first second. (λ i. nat_cmp (numbered t x first i) (numbered u z second i)) ∙ less)

    pub chosen_added : chosen_now ≡ insert_key order chosen y
    chosen_added = same_items order (on_total number nat_cmp_total) chosen_now (insert_key order chosen y)
        (chosen_rise (with_body slots o body) (numbers_rise_with_body o body slots rise))
        (IsStrictlySortedBy-insert_key order (on_total number nat_cmp_total) chosen y (chosen_rise slots rise))
        (λ z there. forth z (only z there)) (λ z there. back z (Contains-insert_key_cases order y chosen z there))
      where
        forth : (z : Y) → Contains chosen z ⊎ (y ≡ z) → Contains (insert_key order chosen y) z
        forth z (inl old) = Contains-insert_key_old order y chosen z old
        forth z (inr is) = subst (Contains (insert_key order chosen y)) is (Contains-insert_key_there order y chosen alone)

        back : (z : Y) → Contains chosen z ⊎ (y ≡ z) → Contains chosen_now z
        back z (inl old) = stays z old
        back z (inr is) = subst (Contains chosen_now) is comes
