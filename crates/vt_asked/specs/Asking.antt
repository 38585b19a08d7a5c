-- What is tested before a link is made, moved or taken away.
use Rattle.std.specs.Prelude.{ℕ, ◌||◌, List, [], ◌∷◌, Bool, not, is_none, Result}
use Rattle.vt_model.specs.Metamodel.{Metamodel}
use Rattle.vt_model.specs.Model.{Model, object_named, never_existed, was_deleted, feature_at}
use Rattle.vt_model.specs.Linking.{reference_of, is_target, linked}
use Rattle.vt_model.specs.Containing.{closes_cycle}
use Rattle.vt_model.specs.Effect.{unless_refused, contains_asked}
use Rattle.vt_model.specs.declared.model.Link.{Link}
use Rattle.vt_model.specs.declared.change.Refusal.{Refusal}
use Rattle.vt_model.specs.declared.change.Refusal.TheVariants.{UnknownObject, Gone, UnknownFeature, WrongKind, WrongTarget, ContainmentCycle}
use Rattle.vt_facts.specs.Firsts.{first_of}

-- of a link by three names
abbrev pub link_tests : Metamodel → Model → List ℕ → List ℕ → List ℕ → List (Bool × Refusal)
link_tests meta g name reference target =
    (never_existed g name || never_existed g target, UnknownObject)
    ∷ (was_deleted g name || was_deleted g target, Gone)
    ∷ (is_none (feature_at meta g name reference), UnknownFeature)
    ∷ (is_none (reference_of (feature_at meta g name reference)), WrongKind)
    ∷ (not (is_target meta (reference_of (feature_at meta g name reference)) (object_named g target)), WrongTarget)
    ∷ []

-- of a child that goes into a parent
abbrev pub move_tests : Metamodel → Model → List ℕ → List ℕ → List ℕ → List (Bool × Refusal)
move_tests meta g child parent reference =
    (never_existed g child || never_existed g parent, UnknownObject)
    ∷ (was_deleted g child || was_deleted g parent, Gone)
    ∷ (is_none (feature_at meta g parent reference), UnknownFeature)
    ∷ (not (contains_asked meta g parent reference), WrongKind)
    ∷ (not (is_target meta (reference_of (feature_at meta g parent reference)) (object_named g child)), WrongTarget)
    ∷ []

-- what a link comes to that passed them
abbrev pub link_effect : Metamodel → Model → Link → Result Model Refusal
link_effect meta g link = unless_refused (first_of ((closes_cycle meta g link, ContainmentCycle) ∷ [])) (linked meta g link)
