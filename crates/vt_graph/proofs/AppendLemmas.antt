-- The steps of adding an object: its class's plan is found, its slot is the new one, and a slot that is taken back leaves the old ones.
use Rattle.std.proofs.Common.{◌≡◌, ℕ, ◌<◌, List, [], ◌∷◌, ◌++◌, length, get_or, sym, ap, ◌∙◌, true, false, Option, Some, None, Result, Ok, Err, OnErr, OnOk, MatchOption, le_of_eq}
use Rattle.std.specs.Prelude.{is_err}
use Rattle.std.proofs.lemmas.Option.{get_or_from_slice_get}
use Rattle.vt_base.specs.declared.numbers.ClassId.{ClassId}
use Rattle.vt_model.specs.Metamodel.{Metamodel}
use Rattle.vt_slots.specs.declared.slot.Body.{Body}
use Rattle.vt_slots.specs.declared.slot.Slot.{Slot}
use Rattle.vt_slots.proofs.SlotsLemmas.{shorter_alike}
use Rattle.vt_graph.specs.Held.{Place}
use Rattle.vt_graph.specs.Room.{KeepsRoom, capacity_at, class_kept}
use Rattle.vt_graph.specs.Inside.Planned.{attributes_from, plan_of, ArePlans}
use Rattle.vt_graph.specs.Inside.Making.{new_body}
use Rattle.vt_graph.specs.declared.plan.ClassPlan.{ClassPlan}
use Rattle.vt_graph.specs.declared.plan.AttributePlan.{AttributePlan}
use Rattle.vt_graph.proofs.PushedLemmas.{pushed}

-- the plan at the place of a class
pub plan_found : (meta : Metamodel) (plans : List ClassPlan) (c : ClassId) (i : ℕ) (p : ClassPlan) → ArePlans meta plans → c.0 < length meta.classes → i ≡ c.0 → p ≡ get_or plans i p → p ≡ plan_of meta c
plan_found meta plans c i p are there at found = found ∙ ap (λ j. get_or plans j p) at ∙ get_or_from_slice_get plans c.0 (plan_of meta c) p (are.each c there)

-- the slot that is pushed is the new object's
pub pushed_is : (meta : Metamodel) (next : ℕ) (slots : List Slot) (name text : List ℕ) (c : ClassId) (number : ℕ) (body : Body) (attributes : List AttributePlan) (p : ClassPlan) (now : List Slot)
    → text ≡ name → p ≡ plan_of meta c → attributes ≡ p.attributes → body ≡ new_body attributes
    → now ≡ slots ++ record { number = record { 0 = number }; name = text; class = c; body = Some body } ∷ [] → now ≡ pushed meta next slots name c number
pushed_is meta next slots name text c number body attributes p now named planned had made is =
    is ∙ (λ i. slots ++ record { number = record { 0 = number }; name = named i; class = c; body = Some (whole i) } ∷ [])
  where
    whole : body ≡ new_body (attributes_from meta c 0 meta.attributes)
    whole = made ∙ ap new_body (had ∙ ap (λ (q : ClassPlan). q.attributes) planned)

-- a slot that was pushed and is popped leaves the slots as they were
pub popped_back : (slots now left : List Slot) (s : Slot) (last : Option Slot) → now ≡ slots ++ s ∷ []
    → MatchOption last ((now ≡ []) × (left ≡ [])) (λ t. now ≡ left ++ t ∷ []) → left ≡ slots
popped_back slots now left s None is none = absurd (longer slots (sym is ∙ none.0))
  where
    longer : (xs : List Slot) → xs ++ s ∷ [] ≡ [] → ⊥
    longer [] e = cc
    longer (x ∷ xs) e = cc
popped_back slots now left s (Some t) is e = shorter_alike left slots t s (sym e ∙ is)

-- what holds on a failure holds where the call failed, and likewise on success
pub at_err : {T E P : Type 0} (r : Result T E) → is_err r ≡ true → OnErr r P → P
at_err (Ok x) e h = cc
at_err (Err x) e h = h

pub at_ok : {T E P : Type 0} (r : Result T E) → is_err r ≡ false → OnOk r P → P
at_ok (Ok x) e h = h
at_ok (Err x) e h = cc

-- the same places keep their room
pub same_room : (old new : List Place) → new ≡ old → KeepsRoom old new
same_room old new is = record {
  room = λ o side r. le_of_eq (ap (λ places. capacity_at places o side r) (sym is));
  classes = λ o c kept. ap (λ places. class_kept places o) is ∙ kept;
}
