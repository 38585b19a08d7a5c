-- What is known of objects that were buried one after another, and of those that wait.
use Rattle.std.proofs.Common.{◌≡◌, ℕ, ◌+◌, ◌<◌, List, [], ◌∷◌, ◌++◌, map, take, get_or, refl, sym, ap, subst, ◌∙◌, inl, inr, arith, Bool, true, false, length, cond}
use Rattle.std.specs.Prelude.{◌≢◌, ◌≤◌, ◌==◌, Contains, find, filter, fold, not, Option, Some, option_map, unwrap_or}
use Rattle.std.specs.List.Sorted.{IsStrictlySortedBy}
use Rattle.std.proofs.lemmas.Bool.{cases_eq, eqb-true, eq-eqb, ne_eqb, not_from_false}
use Rattle.std.proofs.lemmas.List.{take_more}
use Rattle.std.proofs.lemmas.List.Kept.{IsStrictlySortedBy-filter}
use Rattle.std.proofs.lemmas.Map.Keys.{sorted_tail}
use Rattle.vt_base.specs.declared.numbers.ObjId.{ObjId}
use Rattle.vt_base.specs.declared.numbers.ClassId.{ClassId}
use Rattle.vt_base.specs.declared.numbers.RefId.{RefId}
use Rattle.vt_model.specs.Model.{Model}
use Rattle.vt_model.specs.Deleting.{with_gone}
use Rattle.vt_model.specs.Valid.{object_order}
use Rattle.vt_model.specs.declared.model.Object.{Object}
use Rattle.vt_facts.proofs.MemberLemmas.{All-from_contains, Contains-nil, Contains-head, Contains-behind, Contains-cons_cases, Contains-filter, Contains-find}
use Rattle.vt_model.proofs.Valid.Containment.{same_object}
use Rattle.vt_slots.specs.Ends.{capacity_of}
use Rattle.vt_slots.specs.declared.slot.Side.{Side}
use Rattle.vt_slots.specs.declared.slot.Side.TheVariants.{Outgoing, Incoming}
use Rattle.vt_graph.specs.Held.{Held, Place, Buried}
use Rattle.vt_graph.specs.Room.{KeepsRoom, class_kept, place_at, ends_of, capacity_at, capacity_in}
use Rattle.vt_graph.specs.Passing.{HasNoLinks, HasNoValues, with_buried}
use Rattle.vt_store.specs.Inside.Kept.{objects_of, waiting_place}
use Rattle.vt_store.specs.Inside.Levels.{numbers, object_at, without_object, buried, IsBare}
use Rattle.vt_store.specs.Inside.Waiting.{Buries, AddsBuried, BuriesAll, HasClasses}
use Rattle.vt_store.proofs.Deleting.Buried.{object_at-live, other_number}
use Rattle.std.proofs.lemmas.Option.{same_Some}

-- ---- one after another

-- after some one more
buries_push : (old : Held) (xs : List ObjId) (bs : List Buried) (k : Held) (x : ObjId) (b : Buried) (new : Held)
    → BuriesAll old xs bs k → Buries k x b new → BuriesAll old (xs ++ x ∷ []) (bs ++ b ∷ []) new
buries_push old [] [] k x b new steps step = (new, subst (λ h. Buries h x b new) (sym steps) step, refl)
buries_push old (y ∷ xs) (c ∷ bs) k x b new steps step = (steps.0, steps.1, buries_push steps.0 xs bs k x b new steps.2 step)
buries_push old [] (c ∷ bs) k x b new steps step = absurd steps
buries_push old (y ∷ xs) [] k x b new steps step = absurd steps

-- by the place of what is buried next
pub buries_more : (old k new : Held) (found : List ObjId) (i : ℕ) (d : ObjId) (bs after : List Buried) → i < length found → BuriesAll old (take i found) bs k
    → AddsBuried k (get_or found i d) bs new after → BuriesAll old (take (i + 1) found) after new
buries_more old k new found i d bs after more steps adds = subst (λ l. BuriesAll old (take (i + 1) found) l new) (sym adds.added)
    (subst (λ l. BuriesAll old l (bs ++ adds.one ∷ []) new) (sym (take_more found i d more)) (buries_push old (take i found) bs k (get_or found i d) adds.one new steps adds.step))

-- ---- the model

pub buries_meta : (old : Held) (xs : List ObjId) (bs : List Buried) (new : Held) → BuriesAll old xs bs new → new.meta ≡ old.meta
buries_meta old [] [] new steps = ap (λ h. h.meta) (sym steps)
buries_meta old (x ∷ xs) (b ∷ bs) new steps = buries_meta steps.0 xs bs new steps.2 ∙ steps.1.meta
buries_meta old [] (b ∷ bs) new steps = absurd steps
buries_meta old (x ∷ xs) [] new steps = absurd steps

pub buries_model : (old : Held) (xs : List ObjId) (bs : List Buried) (new : Held) → BuriesAll old xs bs new → new.model ≡ fold buried old.model xs
buries_model old [] [] new steps = ap (λ h. h.model) (sym steps)
buries_model old (x ∷ xs) (b ∷ bs) new steps = buries_model steps.0 xs bs new steps.2 ∙ ap (λ g. fold buried g xs) steps.1.model
buries_model old [] (b ∷ bs) new steps = absurd steps
buries_model old (x ∷ xs) [] new steps = absurd steps

-- what waits is of the metamodel
pub buries_of : (old : Held) (xs : List ObjId) (bs : List Buried) (new : Held) → BuriesAll old xs bs new → (b : Buried) → Contains bs b → b.meta ≡ old.meta
buries_of old [] [] new steps b there = absurd (Contains-nil b there)
buries_of old (x ∷ xs) (c ∷ bs) new steps b there = elim (Contains-cons_cases c b bs there) [
  | inl is ↦ subst (λ d. d.meta ≡ old.meta) is steps.1.of
  | inr later ↦ buries_of steps.0 xs bs new steps.2 b later ∙ steps.1.meta
]
buries_of old [] (c ∷ bs) new steps b there = absurd steps
buries_of old (x ∷ xs) [] new steps b there = absurd steps

-- ---- the objects

-- a live object that is buried has the number
lived_number : (g : Model) (x : ObjId) (y : Object) → object_at g x ≡ Some y → y.number ≡ x
lived_number g x y at = same_object y.number x (eqb-true y.number.0 x.0 (Contains-find (λ z. z.number.0 == x.0) g.live y at).1)

-- objects that are buried by their numbers are those that wait
pub buries_objects : (old : Held) (ys : List Object) (bs : List Buried) (new : Held) → BuriesAll old (numbers ys) bs new
    → IsStrictlySortedBy object_order old.model.live → IsStrictlySortedBy object_order ys → ((y : Object) → Contains ys y → Contains old.model.live y) → objects_of bs ≡ ys
buries_objects old [] [] new steps rise sorted live = refl
buries_objects old (y ∷ ys) (b ∷ bs) new steps rise sorted live =
    ap (λ z. z ∷ objects_of bs) first ∙ ap (λ l. y ∷ l)
    (buries_objects steps.0 ys bs new steps.2 (subst (IsStrictlySortedBy object_order) (sym left) (IsStrictlySortedBy-filter object_order stays old.model.live rise))
    (sorted_tail object_order y ys sorted) (λ z there. subst (λ l. Contains l z) (sym left) (Contains-filter stays old.model.live z (live z (Contains-behind y z ys there))
    (not_from_false (z.number.0 == y.number.0) (ne_eqb z.number.0 y.number.0 (other_number y z ys sorted there))))))
  where
    found : object_at old.model y.number ≡ Some y
    found = object_at-live old.model rise y (live y (Contains-head y ys))

    first : b.object ≡ y
    first = same_Some b.object y (sym steps.1.lived ∙ found)

    stays : Object → Bool
    stays z = not (z.number.0 == y.number.0)

    left : steps.0.model.live ≡ filter stays old.model.live
    left = ap (λ g. g.live) (steps.1.model ∙ ap (without_object old.model y.number) found)
buries_objects old [] (b ∷ bs) new steps rise sorted live = absurd steps
buries_objects old (y ∷ ys) [] new steps rise sorted live = absurd steps

-- ---- one object

-- a bare object has no link and no value
pub bare_no_links : (g : Model) (x : ObjId) → IsBare g x → HasNoLinks g x
bare_no_links g x bare = All-from_contains (λ link. (link.source.0 ≢ x.0) × (link.target.0 ≢ x.0)) g.links (λ link there. (
  λ same. (bare.no_link link there).0 (same_object link.source x same),
  λ same. (bare.no_link link there).1 (same_object link.target x same),
))

pub bare_no_values : (g : Model) (x : ObjId) → IsBare g x → HasNoValues g x
bare_no_values g x bare = All-from_contains (λ t. t.object.0 ≢ x.0) g.values (λ t there same. bare.no_value t there (same_object t.object x same))

-- the model without it
pub buried_is : (g : Model) (x : ObjId) (y : Object) → object_at g x ≡ Some y → with_buried g y ≡ buried g x
buried_is g x y at =
    ap (λ n. record g { live = filter (λ z. not (z.number.0 == n.0)) g.live; gone = with_gone g.gone y }) (lived_number g x y at) ∙ sym (ap (without_object g x) at)

-- ---- the classes

-- where the class of an object is kept it stays
class_stays : (old new : Held) (x : ObjId) (b : Buried) → Buries old x b new → (p : ObjId) (c : ClassId) → class_kept old.places p ≡ Some c → class_kept new.places p ≡ Some c
class_stays old new x b step p c kept = elim (cases_eq p.0 x.0) [
  | inl is ↦
      let same : p ≡ x = same_object p x is in
      let class : b.object.class ≡ c = same_Some b.object.class c (sym step.was ∙ ap (class_kept old.places) (sym same) ∙ kept) in
      ap (class_kept new.places) same ∙ step.class ∙ ap Some class
  | inr apart ↦ step.room.classes p c apart kept
]

classes_stay : (old : Held) (xs : List ObjId) (bs : List Buried) (new : Held) → BuriesAll old xs bs new → (p : ObjId) (c : ClassId) → class_kept old.places p ≡ Some c → class_kept new.places p ≡ Some c
classes_stay old [] [] new steps p c kept = subst (λ h. class_kept h.places p ≡ Some c) steps kept
classes_stay old (x ∷ xs) (b ∷ bs) new steps p c kept = classes_stay steps.0 xs bs new steps.2 p c (class_stays old steps.0 x b steps.1 p c kept)
classes_stay old [] (b ∷ bs) new steps p c kept = absurd steps
classes_stay old (x ∷ xs) [] new steps p c kept = absurd steps

-- the class of each that waits is kept
pub buries_kept : (old : Held) (xs : List ObjId) (bs : List Buried) (new : Held) → BuriesAll old xs bs new → HasClasses new.places (objects_of bs)
buries_kept old [] [] new steps y there = absurd (Contains-nil y there)
buries_kept old (x ∷ xs) (b ∷ bs) new steps y there = elim (Contains-cons_cases b.object y (objects_of bs) there) [
  | inl is ↦ subst (λ z. class_kept new.places z.number ≡ Some z.class) is (classes_stay steps.0 xs bs new steps.2 b.object.number b.object.class
      (ap (class_kept steps.0.places) (lived_number old.model x b.object steps.1.lived) ∙ steps.1.class))
  | inr later ↦ buries_kept steps.0 xs bs new steps.2 y later
]
buries_kept old [] (b ∷ bs) new steps y there = absurd steps
buries_kept old (x ∷ xs) [] new steps y there = absurd steps

-- a place that waits has the class of its object
waiting_class : (bs : List Buried) (p : ObjId) → class_kept (map waiting_place bs) p ≡ option_map (λ (y : Object). y.class) (find (λ y. y.number.0 == p.0) (objects_of bs))
waiting_class [] p = refl
waiting_class (b ∷ bs) p = elim (b.object.number.0 == p.0) as (λ t. option_map (λ (q : Place). q.class) (cond t (Some (waiting_place b)) (place_at (map waiting_place bs) p))
    ≡ option_map (λ (y : Object). y.class) (cond t (Some b.object) (find (λ y. y.number.0 == p.0) (objects_of bs)))) [
      | true ↦ refl
      | false ↦ waiting_class bs p
    ]

-- so where the objects rise, the class of each is waiting
pub waiting_classes : (g : Model) (bs : List Buried) → IsStrictlySortedBy object_order (objects_of bs) → HasClasses (map waiting_place bs) (objects_of bs)
waiting_classes g bs rise y there = waiting_class bs y.number ∙ ap (option_map (λ (z : Object). z.class)) (object_at-live (record g { live = objects_of bs }) rise y there)

-- ---- the room

-- how much room a place has
abbrev room_in : Side → RefId → Option Place → ℕ
room_in side r p = capacity_of (unwrap_or (option_map (ends_of side) p) []) r

-- one more that waits comes first
place_at-own : (b : Buried) (places : List Place) → place_at (waiting_place b ∷ places) b.object.number ≡ Some (waiting_place b)
place_at-own b places = ap (λ t. cond t (Some (waiting_place b)) (place_at places b.object.number)) (eq-eqb b.object.number.0 b.object.number.0 refl)

place_at-other : (b : Buried) (places : List Place) (p : ObjId) → (b.object.number.0 ≢ p.0) → place_at (waiting_place b ∷ places) p ≡ place_at places p
place_at-other b places p apart = ap (λ t. cond t (Some (waiting_place b)) (place_at places p)) (ne_eqb b.object.number.0 p.0 apart)

capacity_waiting : (b : Buried) (side : Side) (r : RefId) → room_in side r (Some (waiting_place b)) ≡ capacity_in b side r
capacity_waiting b Outgoing r = refl
capacity_waiting b Incoming r = refl

-- an object that is buried takes its room along
room_waits : (old next : Held) (x : ObjId) (b : Buried) (places : List Place) → Buries old x b next → KeepsRoom next.places places → KeepsRoom old.places (waiting_place b ∷ places)
room_waits old next x b places step keeps = record { room = room; classes = classes }
  where
    number : b.object.number ≡ x
    number = lived_number old.model x b.object step.lived

    other : (p : ObjId) → p.0 ≢ x.0 → b.object.number.0 ≢ p.0
    other p apart same = apart (sym same ∙ ap (λ (q : ObjId). q.0) number)

    own : (p : ObjId) → p.0 ≡ x.0 → place_at (waiting_place b ∷ places) p ≡ Some (waiting_place b)
    own p is = ap (place_at (waiting_place b ∷ places)) (same_object p x is ∙ sym number) ∙ place_at-own b places

    room : (p : ObjId) (side : Side) (r : RefId) → capacity_at old.places p side r ≤ capacity_at (waiting_place b ∷ places) p side r
    room p side r = elim (cases_eq p.0 x.0) [
      | inl is ↦
          let same : capacity_at (waiting_place b ∷ places) p side r ≡ capacity_at old.places p side r =
          ap (room_in side r) (own p is) ∙ capacity_waiting b side r ∙ step.own_room side r ∙ ap (λ q. capacity_at old.places q side r) (sym (same_object p x is)) in
          omega (arith, same)
      | inr apart ↦
          let same : capacity_at (waiting_place b ∷ places) p side r ≡ capacity_at places p side r = ap (room_in side r) (place_at-other b places p (other p apart)) in
          let first : capacity_at old.places p side r ≤ capacity_at next.places p side r = step.room.room p side r apart in
          let rest : capacity_at next.places p side r ≤ capacity_at places p side r = keeps.room p side r in
          omega (arith, same, first, rest)
    ]

    classes : (p : ObjId) (c : ClassId) → class_kept old.places p ≡ Some c → class_kept (waiting_place b ∷ places) p ≡ Some c
    classes p c kept = elim (cases_eq p.0 x.0) [
      | inl is ↦ ap (option_map (λ (q : Place). q.class)) (own p is) ∙ sym step.was ∙ ap (class_kept old.places) (sym (same_object p x is)) ∙ kept
      | inr apart ↦ ap (option_map (λ (q : Place). q.class)) (place_at-other b places p (other p apart)) ∙ keeps.classes p c (step.room.classes p c apart kept)
    ]

-- so do all
pub buries_room : (old : Held) (xs : List ObjId) (bs : List Buried) (new : Held) → BuriesAll old xs bs new → KeepsRoom old.places (map waiting_place bs ++ new.places)
buries_room old [] [] new steps = subst (λ h. KeepsRoom old.places h.places) steps (record { room = λ o side r. omega arith; classes = λ o c kept. kept })
buries_room old (x ∷ xs) (b ∷ bs) new steps = room_waits old steps.0 x b (map waiting_place bs ++ new.places) steps.1 (buries_room steps.0 xs bs new steps.2)
buries_room old [] (b ∷ bs) new steps = absurd steps
buries_room old (x ∷ xs) [] new steps = absurd steps
