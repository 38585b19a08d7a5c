-- What is worked out once of each class, and the listings of its objects.
use Rattle.std.specs.Prelude.{◌≡◌, ℕ, ◌<◌, ◌+◌, List, [], ◌∷◌, map, filter, length, slice_get, if◌then◌else◌, Some}
use Rattle.vt_base.specs.declared.numbers.ObjId.{ObjId}
use Rattle.vt_base.specs.declared.numbers.ClassId.{ClassId}
use Rattle.vt_base.specs.declared.numbers.AttrId.{AttrId}
use Rattle.vt_model.specs.Metamodel.{Metamodel, isa}
use Rattle.vt_model.specs.declared.metamodel.AttrInfo.{AttrInfo}
use Rattle.vt_model.specs.declared.metamodel.ClassInfo.{ClassInfo}
use Rattle.vt_slots.specs.declared.slot.Slot.{Slot}
use Rattle.vt_graph.specs.declared.plan.ClassPlan.{ClassPlan}
use Rattle.vt_graph.specs.declared.plan.AttributePlan.{AttributePlan}

-- of the attributes from the a-th on, those that a class has, with their kinds
abbrev pub attributes_from : Metamodel → ClassId → ℕ → List AttrInfo → List AttributePlan
attributes_from meta c a [] = []
attributes_from meta c a (info ∷ infos) = if isa meta c info.class
    then record { attribute = record { 0 = a }; kind = info.kind } ∷ attributes_from meta c (a + 1) infos
    else attributes_from meta c (a + 1) infos

-- of the classes from the d-th on, those that a class is or is below
abbrev pub above_from : Metamodel → ClassId → ℕ → List ClassInfo → List ClassId
above_from meta c d [] = []
above_from meta c d (info ∷ infos) = if isa meta c (record { 0 = d })
    then record { 0 = d } ∷ above_from meta c (d + 1) infos
    else above_from meta c (d + 1) infos

-- the classes above a class and itself, and the attributes that it has, in rising number
abbrev pub plan_of : Metamodel → ClassId → ClassPlan
plan_of meta c = record { above = above_from meta c 0 meta.classes; attributes = attributes_from meta c 0 meta.attributes }

-- the attributes that a class has, in rising number
abbrev pub attributes_had : Metamodel → ClassId → List AttrId
attributes_had meta c = map (λ p. p.attribute) (attributes_from meta c 0 meta.attributes)

-- a plan for each class
pub record ArePlans (meta : Metamodel) (plans : List ClassPlan) : Type 0 where
  pub many : length plans ≡ length meta.classes
  pub each : (c : ClassId) → c.0 < length meta.classes → slice_get plans c.0 ≡ Some (plan_of meta c)

-- the numbers of all objects that were ever made of a class or of one below it
abbrev pub listing : Metamodel → List Slot → ClassId → List ObjId
listing meta slots c = map (λ s. s.number) (filter (λ s. isa meta s.class c) slots)

-- a listing for each class
pub record AreListings (meta : Metamodel) (slots : List Slot) (listings : List (List ObjId)) : Type 0 where
  pub many : length listings ≡ length meta.classes
  pub each : (c : ClassId) → c.0 < length meta.classes → slice_get listings c.0 ≡ Some (listing meta slots c)
