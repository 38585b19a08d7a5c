-- What a change does to a model, or why it is refused.
use Rattle.std.specs.Prelude.{ℕ, ◌||◌, List, [], ◌∷◌, Bool, false, not, nat_le, is_none, Option, Some, None, option_map, option_and_then, unwrap_or, Result, Ok, Err}
use Rattle.std.specs.Option.{option_map_or}
use Rattle.vt_model.specs.Metamodel.{Metamodel, class_named}
use Rattle.vt_model.specs.Model.{Model, object_named, never_existed, was_deleted, feature_at}
use Rattle.vt_model.specs.Creating.{is_abstract, is_taken, new_number, is_reserved, default_value, created}
use Rattle.vt_model.specs.Assigning.{attribute_of, kind_asked, has_kind, value_given, with_value, with_default_value}
use Rattle.vt_model.specs.Linking.{reference_of, is_containment, is_target, linked, unlinked}
use Rattle.vt_model.specs.Containing.{closes_cycle}
use Rattle.vt_model.specs.Deleting.{deleted}
use Rattle.vt_model.specs.declared.model.Link.{Link}
use Rattle.vt_model.specs.declared.change.Change.{Change}
use Rattle.vt_model.specs.declared.change.Change.TheVariants.{Create, Delete, Set, Unset, Link as LinkChange, Unlink, Move}
use Rattle.vt_model.specs.declared.change.Refusal.{Refusal}
use Rattle.vt_model.specs.declared.change.Refusal.TheVariants.{UnknownObject, Gone, UnknownClass, AbstractClass, NameTaken, ReservedName, UnknownFeature, WrongKind, WrongValue, WrongTarget, ContainmentCycle, TooManyObjects}
use Rattle.vt_facts.specs.Firsts.{first_of}
use Rattle.vt_facts.specs.Parts.{◌>>=◌}

-- the link that three names ask for
abbrev pub link_asked : Metamodel → Model → List ℕ → List ℕ → List ℕ → Option Link
link_asked meta g name reference target = do
  source ← object_named g name
  r ← reference_of (feature_at meta g name reference)
  o ← object_named g target
  Some (record { source = source.number; reference = r; target = o.number })

-- a reference that is a containment
abbrev pub contains_asked : Metamodel → Model → List ℕ → List ℕ → Bool
contains_asked meta g name reference = option_map_or (is_containment meta) (reference_of (feature_at meta g name reference)) false

-- why a change is refused, tests in their order
abbrev pub refusal : Metamodel → Model → Change → Option Refusal
refusal meta g (Create name class number) = first_of
    ((is_none (class_named meta class), UnknownClass)
    ∷ (is_abstract meta (class_named meta class), AbstractClass)
    ∷ (is_taken g name, NameTaken)
    ∷ (is_reserved name (new_number g number), ReservedName)
    ∷ (nat_le 1048576 (new_number g number), TooManyObjects)
    ∷ [])
refusal meta g (Delete name) = first_of
    ((never_existed g name, UnknownObject)
    ∷ (was_deleted g name, Gone)
    ∷ [])
refusal meta g (Set name attr given) = first_of
    ((never_existed g name, UnknownObject)
    ∷ (was_deleted g name, Gone)
    ∷ (is_none (feature_at meta g name attr), UnknownFeature)
    ∷ (not (option_map_or (has_kind meta given) (kind_asked meta (feature_at meta g name attr)) false), WrongKind)
    ∷ (is_none (option_and_then (value_given meta given) (kind_asked meta (feature_at meta g name attr))), WrongValue)
    ∷ [])
refusal meta g (Unset name attr) = first_of
    ((never_existed g name, UnknownObject)
    ∷ (was_deleted g name, Gone)
    ∷ (is_none (feature_at meta g name attr), UnknownFeature)
    ∷ (is_none (kind_asked meta (feature_at meta g name attr)), WrongKind)
    ∷ [])
refusal meta g (LinkChange name reference target) = first_of
    ((never_existed g name || never_existed g target, UnknownObject)
    ∷ (was_deleted g name || was_deleted g target, Gone)
    ∷ (is_none (feature_at meta g name reference), UnknownFeature)
    ∷ (is_none (reference_of (feature_at meta g name reference)), WrongKind)
    ∷ (not (is_target meta (reference_of (feature_at meta g name reference)) (object_named g target)), WrongTarget)
    ∷ (option_map_or (closes_cycle meta g) (link_asked meta g name reference target) false, ContainmentCycle)
    ∷ [])
refusal meta g (Unlink name reference target) = first_of
    ((never_existed g name || never_existed g target, UnknownObject)
    ∷ (was_deleted g name || was_deleted g target, Gone)
    ∷ (is_none (feature_at meta g name reference), UnknownFeature)
    ∷ (is_none (reference_of (feature_at meta g name reference)), WrongKind)
    ∷ (not (is_target meta (reference_of (feature_at meta g name reference)) (object_named g target)), WrongTarget)
    ∷ [])
refusal meta g (Move child parent reference) = first_of
    ((never_existed g child || never_existed g parent, UnknownObject)
    ∷ (was_deleted g child || was_deleted g parent, Gone)
    ∷ (is_none (feature_at meta g parent reference), UnknownFeature)
    ∷ (not (contains_asked meta g parent reference), WrongKind)
    ∷ (not (is_target meta (reference_of (feature_at meta g parent reference)) (object_named g child)), WrongTarget)
    ∷ (option_map_or (closes_cycle meta g) (link_asked meta g parent reference child) false, ContainmentCycle)
    ∷ [])

-- the model after a change that isn't refused
abbrev pub changed : Metamodel → Model → Change → Option Model
changed meta g (Create name class number) = do
  c ← class_named meta class
  Some (created meta g name c (new_number g number))
changed meta g (Delete name) = do
  o ← object_named g name
  Some (deleted meta g o.number)
changed meta g (Set name attr given) = do
  o ← object_named g name
  a ← attribute_of (feature_at meta g name attr)
  v ← option_and_then (value_given meta given) (kind_asked meta (feature_at meta g name attr))
  Some (with_value g o.number a v)
changed meta g (Unset name attr) = do
  o ← object_named g name
  a ← attribute_of (feature_at meta g name attr)
  k ← kind_asked meta (feature_at meta g name attr)
  Some (with_default_value g o.number a (default_value k))
changed meta g (LinkChange name reference target) = option_map (linked meta g) (link_asked meta g name reference target)
changed meta g (Unlink name reference target) = option_map (unlinked meta g) (link_asked meta g name reference target)
changed meta g (Move child parent reference) = option_map (linked meta g) (link_asked meta g parent reference child)

abbrev pub unless_refused : {A : Type 0} → Option Refusal → A → Result A Refusal
unless_refused (Some why) after = Err why
unless_refused None after = Ok after

-- the new model, or the first refusal that applies
abbrev pub effect : Metamodel → Model → Change → Result Model Refusal
effect meta g change = unless_refused (refusal meta g change) (unwrap_or (changed meta g change) g)
