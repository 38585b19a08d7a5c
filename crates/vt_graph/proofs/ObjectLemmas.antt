-- The objects of a model by the slots that store it: how they are found, and that they rise.
use Rattle.std.proofs.Common.{◌≡◌, ℕ, ◌==◌, ◌||◌, List, [], ◌∷◌, map, find, not, refl, sym, ap, subst, ◌∙◌, cond, Bool, true, false, Option, Some, None, option_map, option_and_then}
use Rattle.std.specs.Prelude.{Contains}
use Rattle.std.specs.List.{filter_map, cons_option, list_any}
use Rattle.std.specs.List.Sorted.{IsStrictlySortedBy}
use Rattle.std.proofs.lemmas.Bool.{and_parts, not-true}
use Rattle.vt_base.specs.declared.numbers.ObjId.{ObjId}
use Rattle.vt_facts.specs.Names.{is_name, is_distinct}
use Rattle.vt_model.specs.Model.{object_named, gone_named}
use Rattle.vt_model.specs.Valid.{object_order}
use Rattle.vt_model.specs.Deleting.{gone_order}
use Rattle.vt_model.specs.declared.model.Object.{Object}
use Rattle.vt_model.specs.declared.model.GoneObject.{GoneObject}
use Rattle.vt_facts.proofs.MemberLemmas.{Contains-find}
use Rattle.vt_model.proofs.PlacesLemmas.{same_name}
use Rattle.vt_slots.specs.Slots.{slot_order, NumbersRise, NamesDiffer, slot_at, slot_named}
use Rattle.vt_slots.specs.declared.slot.Body.{Body}
use Rattle.vt_slots.specs.declared.slot.Slot.{Slot}
use Rattle.vt_graph.specs.Asked.{live_at, gone_at, name_at, class_at, or_gone, seen_of, seen_live, seen_gone}
use Rattle.vt_graph.specs.Inside.Stored.{model_of, live_object, gone_object, gone_if_none}
use Rattle.vt_graph.specs.declared.seen.Seen.{Seen}
use Rattle.vt_graph.specs.declared.seen.Seen.TheVariants.{Live, Gone, Never}
use Rattle.vt_facts.proofs.RisingLemmas.{first_below, rest_rises, not_tied_below}
use Rattle.vt_facts.proofs.ChosenLemmas.{Contains-filter_map, Contains-from_filter_map, rises-filter_map}
use Rattle.vt_graph.proofs.SlotLemmas.{equal_numbers, slot_order_total, tied_numbers}

-- ---- what is found among items that are chosen

module _ {X Y : Type 0} (f : X → Option Y) (p : X → Bool) (q : Y → Bool) where
  -- behind an item that passes none does
  abbrev pub OnePasses : List X → Type 0
  OnePasses [] = Unit {0}
  OnePasses (x ∷ xs) = (p x ≡ true → find p xs ≡ None) × OnePasses xs

  -- then the search among what is chosen finds what is chosen of the one that passes
  pub find_chosen : ((x : X) (y : Y) → f x ≡ Some y → q y ≡ p x) → (xs : List X) → OnePasses xs → find q (filter_map f xs) ≡ option_and_then f (find p xs)
  find_chosen agree [] one = refl
  find_chosen agree (x ∷ xs) one = by (find_chosen agree xs one.1) (p x) (f x) refl refl
    where
      by : find q (filter_map f xs) ≡ option_and_then f (find p xs) → (b : Bool) (r : Option Y) → p x ≡ b → f x ≡ r
          → find q (cons_option r (filter_map f xs)) ≡ option_and_then f (cond b (Some x) (find p xs))
      by rest true (Some y) passes chosen = ap (λ b. cond b (Some y) (find q (filter_map f xs))) (agree x y chosen ∙ passes) ∙ sym chosen
      by rest true None passes chosen = rest ∙ ap (option_and_then f) (one.0 passes) ∙ sym chosen
      by rest false (Some y) fails chosen = ap (λ b. cond b (Some y) (find q (filter_map f xs))) (agree x y chosen ∙ fails) ∙ rest
      by rest false None fails chosen = rest

-- of slots whose numbers rise one has a number
module _ {Y : Type 0} (f : Slot → Option Y) (q : Y → Bool) (o : ObjId) where
  pub one_of_number : (slots : List Slot) → NumbersRise slots → OnePasses f (λ s. s.number.0 == o.0) q slots
  one_of_number [] rise = tt
  one_of_number (s ∷ slots) rise = (λ passes. none passes (find (λ t. t.number.0 == o.0) slots) refl, one_of_number slots (rest_rises slot_order s slots rise))
    where
      none : (s.number.0 == o.0) ≡ true → (r : Option Slot) → find (λ t. t.number.0 == o.0) slots ≡ r → r ≡ None
      none passes None found = refl
      none passes (Some t) found =
          let there = Contains-find (λ u. u.number.0 == o.0) slots t found in
          absurd (not_tied_below slot_order slot_order_total t s
          (tied_numbers t s (equal_numbers t.number.0 o.0 there.1 ∙ sym (equal_numbers s.number.0 o.0 passes)))
          (first_below slot_order s slots rise t there.0))

-- no name of a list passes, so the search for it finds none
no_name : (slots : List Slot) (name : List ℕ) → list_any (λ n. is_name n name) (map (λ s. s.name) slots) ≡ false → find (λ s. is_name s.name name) slots ≡ None
no_name [] name out = refl
no_name (s ∷ slots) name out = by (no_name slots name) (is_name s.name name) refl out
  where
    by : (list_any (λ n. is_name n name) (map (λ t. t.name) slots) ≡ false → find (λ t. is_name t.name name) slots ≡ None) → (b : Bool) → is_name s.name name ≡ b
        → (b || list_any (λ n. is_name n name) (map (λ t. t.name) slots)) ≡ false → cond b (Some s) (find (λ t. is_name t.name name) slots) ≡ None
    by rest true e out = cc
    by rest false e out = rest out

-- of slots whose names differ one has a name
module _ {Y : Type 0} (f : Slot → Option Y) (q : Y → Bool) (name : List ℕ) where
  pub one_of_name : (slots : List Slot) → NamesDiffer slots → OnePasses f (λ s. is_name s.name name) q slots
  one_of_name [] differ = tt
  one_of_name (s ∷ slots) differ =
      let parts = and_parts (not (list_any (λ n. is_name n s.name) (map (λ t. t.name) slots))) (is_distinct (map (λ t. t.name) slots)) differ in (
        λ passes. no_name slots name (subst (λ n. list_any (λ m. is_name m n) (map (λ t. t.name) slots) ≡ false) (same_name s.name name passes)
            (not-true (list_any (λ n. is_name n s.name) (map (λ t. t.name) slots)) parts.0)),
        one_of_name slots parts.1,
      )

-- ---- an object of a slot

live_number : (s : Slot) (b : Option Body) (x : Object) → option_map (λ (body : Body). record { number = s.number; name = s.name; class = s.class }) b ≡ Some x
    → x ≡ record { number = s.number; name = s.name; class = s.class }
live_number s None x e = cc
live_number s (Some body) x e = cc

gone_number : (s : Slot) (b : Option Body) (x : GoneObject) → gone_if_none s b ≡ Some x → x ≡ record { number = s.number; name = s.name }
gone_number s None x e = cc
gone_number s (Some body) x e = cc

-- the object that a slot gives has its number, its name and its class
pub live_object_is : (s : Slot) (x : Object) → live_object s ≡ Some x → x ≡ record { number = s.number; name = s.name; class = s.class }
live_object_is s x e = live_number s s.body x e

pub gone_object_is : (s : Slot) (x : GoneObject) → gone_object s ≡ Some x → x ≡ record { number = s.number; name = s.name }
gone_object_is s x e = gone_number s s.body x e

-- ---- objects by number and by name

module _ (next : ℕ) (slots : List Slot) where
  module _ (rise : NumbersRise slots) (o : ObjId) where
    pub live_at_slot : live_at (model_of next slots) o ≡ option_and_then live_object (slot_at slots o)
    live_at_slot = find_chosen live_object (λ s. s.number.0 == o.0) (λ x. x.number.0 == o.0)
        (λ s x e. ap (λ (y : Object). y.number.0 == o.0) (live_object_is s x e)) slots (one_of_number live_object (λ x. x.number.0 == o.0) o slots rise)

    pub gone_at_slot : gone_at (model_of next slots) o ≡ option_and_then gone_object (slot_at slots o)
    gone_at_slot = find_chosen gone_object (λ s. s.number.0 == o.0) (λ x. x.number.0 == o.0)
        (λ s x e. ap (λ (y : GoneObject). y.number.0 == o.0) (gone_object_is s x e)) slots (one_of_number gone_object (λ x. x.number.0 == o.0) o slots rise)

    pub name_at_slot : name_at (model_of next slots) o ≡ option_map (λ s. s.name) (slot_at slots o)
    name_at_slot = (λ i. or_gone (live_at_slot i) (gone_at_slot i)) ∙ by (slot_at slots o)
      where
        of_body : (s : Slot) (b : Option Body)
            → or_gone (option_map (λ (body : Body). record { number = s.number; name = s.name; class = s.class }) b) (gone_if_none s b) ≡ Some s.name
        of_body s None = refl
        of_body s (Some body) = refl

        by : (r : Option Slot) → or_gone (option_and_then live_object r) (option_and_then gone_object r) ≡ option_map (λ s. s.name) r
        by None = refl
        by (Some s) = of_body s s.body

    -- the class of a slot that has a body
    pub class_at_slot : class_at (model_of next slots) o ≡ option_and_then (λ s. option_map (λ (body : Body). s.class) s.body) (slot_at slots o)
    class_at_slot = ap (option_map (λ (x : Object). x.class)) live_at_slot ∙ by (slot_at slots o)
      where
        of_body : (s : Slot) (b : Option Body)
            → option_map (λ (x : Object). x.class) (option_map (λ (body : Body). record { number = s.number; name = s.name; class = s.class }) b) ≡ option_map (λ (body : Body). s.class) b
        of_body s None = refl
        of_body s (Some body) = refl

        by : (r : Option Slot) → option_map (λ (x : Object). x.class) (option_and_then live_object r) ≡ option_and_then (λ s. option_map (λ (body : Body). s.class) s.body) r
        by None = refl
        by (Some s) = of_body s s.body

  module _ (differ : NamesDiffer slots) (name : List ℕ) where
    pub object_named_slot : object_named (model_of next slots) name ≡ option_and_then live_object (slot_named slots name)
    object_named_slot = find_chosen live_object (λ s. is_name s.name name) (λ x. is_name x.name name)
        (λ s x e. ap (λ (y : Object). is_name y.name name) (live_object_is s x e)) slots (one_of_name live_object (λ x. is_name x.name name) name slots differ)

    pub gone_named_slot : gone_named (model_of next slots) name ≡ option_and_then gone_object (slot_named slots name)
    gone_named_slot = find_chosen gone_object (λ s. is_name s.name name) (λ x. is_name x.name name)
        (λ s x e. ap (λ (y : GoneObject). is_name y.name name) (gone_object_is s x e)) slots (one_of_name gone_object (λ x. is_name x.name name) name slots differ)

-- what became of a slot's object
abbrev pub seen_body : Slot → Option Body → Seen
seen_body s None = Gone s.number
seen_body s (Some body) = Live s.number

abbrev pub seen_slot : Option Slot → Seen
seen_slot None = Never
seen_slot (Some s) = seen_body s s.body

pub seen_of_slot : (next : ℕ) (slots : List Slot) → NamesDiffer slots → (name : List ℕ) → seen_of (model_of next slots) name ≡ seen_slot (slot_named slots name)
seen_of_slot next slots differ name =
    (λ i. seen_live (object_named_slot next slots differ name i) (seen_gone (gone_named_slot next slots differ name i))) ∙ by (slot_named slots name)
  where
    of_body : (s : Slot) (b : Option Body)
        → seen_live (option_map (λ (body : Body). record { number = s.number; name = s.name; class = s.class }) b) (seen_gone (gone_if_none s b)) ≡ seen_body s b
    of_body s None = refl
    of_body s (Some body) = refl

    by : (r : Option Slot) → seen_live (option_and_then live_object r) (seen_gone (option_and_then gone_object r)) ≡ seen_slot r
    by None = refl
    by (Some s) = of_body s s.body

-- ---- which objects stand

-- the object of a live slot
abbrev pub object_of : Slot → Object
object_of s = record { number = s.number; name = s.name; class = s.class }

-- what stays of a deleted slot's object
abbrev pub gone_of : Slot → GoneObject
gone_of s = record { number = s.number; name = s.name }

module _ (next : ℕ) (slots : List Slot) where
  pub live_of_slot : (s : Slot) (body : Body) → Contains slots s → s.body ≡ Some body → Contains (model_of next slots).live (object_of s)
  live_of_slot s body there is = Contains-filter_map live_object slots s (object_of s) there (ap (option_map (λ (b : Body). object_of s)) is)

  pub gone_of_slot : (s : Slot) → Contains slots s → s.body ≡ None → Contains (model_of next slots).gone (gone_of s)
  gone_of_slot s there is = Contains-filter_map gone_object slots s (gone_of s) there (ap (gone_if_none s) is)

  -- a live object has a slot with a body
  pub slot_of_live : (x : Object) → Contains (model_of next slots).live x → (s : Slot) × Contains slots s × ((body : Body) × (s.body ≡ Some body)) × (x ≡ object_of s)
  slot_of_live x there =
      let found = Contains-from_filter_map live_object slots x there in
      (found.0, found.1, with_body_of found.0 found.0.body refl found.2, live_object_is found.0 x found.2)
    where
      with_body_of : (s : Slot) (b : Option Body) → s.body ≡ b → option_map (λ (body : Body). object_of s) b ≡ Some x → (body : Body) × (s.body ≡ Some body)
      with_body_of s None is e = cc
      with_body_of s (Some body) is e = (body, is)

  -- a deleted object has a slot without one
  pub slot_of_gone : (x : GoneObject) → Contains (model_of next slots).gone x → (s : Slot) × Contains slots s × (s.body ≡ None) × (x ≡ gone_of s)
  slot_of_gone x there =
      let found = Contains-from_filter_map gone_object slots x there in
      (found.0, found.1, without found.0 found.0.body refl found.2, gone_object_is found.0 x found.2)
    where
      without : (s : Slot) (b : Option Body) → s.body ≡ b → gone_if_none s b ≡ Some x → s.body ≡ None
      without s None is e = is
      without s (Some body) is e = cc

  -- ---- they rise

  module _ (rise : NumbersRise slots) where
    pub live_rise : IsStrictlySortedBy object_order (model_of next slots).live
    live_rise = rises-filter_map slot_order object_order live_object slots rise
        (λ s t x y less first second. (λ i. object_order (live_object_is s x first i) (live_object_is t y second i)) ∙ less)

    pub gone_rise : IsStrictlySortedBy gone_order (model_of next slots).gone
    gone_rise = rises-filter_map slot_order gone_order gone_object slots rise
        (λ s t x y less first second. (λ i. gone_order (gone_object_is s x first i) (gone_object_is t y second i)) ∙ less)
