-- Each change that isn't refused leaves a valid model valid.
pub mod Sides
pub mod Empty
pub mod Names
pub mod Gone
pub mod Found
pub mod Kinds
pub mod Objects
pub mod Defaults
pub mod Values
pub mod Assigned
pub mod ObjectSide
pub mod Passing
pub mod ObjectEffect
pub mod Containment
pub mod Backs
pub mod Dropped
pub mod FewerLinks
pub mod Unlinked
pub mod DeletedLinks
pub mod WithLink
pub mod Relinked
pub mod LinkAsked
pub mod Linked
pub mod LinkEffect
use Rattle.std.proofs.Common.{◌≡◌, ℕ, ◌+◌, List, [], ◌∷◌, refl, subst}
use Rattle.std.specs.Prelude.{All, Result, Ok, Err}
use Rattle.std.proofs.lemmas.List.Elements.{All-head, All-tail}
use Rattle.vt_model.specs.Metamodel.{Metamodel}
use Rattle.vt_model.specs.Model.{Model}
use Rattle.vt_model.specs.Effect.{effect}
use Rattle.vt_model.specs.Transaction.{changes_from, transaction, stopped_at, and_then}
use Rattle.vt_model.specs.Sound.{IsSound}
use Rattle.vt_model.specs.Storable.{GivesStorable}
use Rattle.vt_model.specs.Valid.{IsValid}
use Rattle.vt_model.specs.declared.change.Change.{Change}
use Rattle.vt_model.specs.declared.change.Refusal.{Refusal}
use Rattle.vt_model.proofs.Valid.Sides.{IsValid-sides, ObjectSide-valid}
use Rattle.vt_model.proofs.Valid.ObjectEffect.{ObjectSide-effect}
use Rattle.vt_model.proofs.Valid.LinkEffect.{LinkSide-effect}

-- ---- a change that isn't refused

-- all that a valid model has
pub IsValid-effect : (meta : Metamodel) (g after : Model) (change : Change) → IsSound meta → IsValid meta g → GivesStorable change → effect meta g change ≡ Ok after → IsValid meta after
IsValid-effect meta g after change sound valid gives e =
    IsValid-sides meta after (ObjectSide-effect meta g after change sound (ObjectSide-valid meta g valid) gives e) (LinkSide-effect meta g after change sound valid e)

-- ---- a transaction that isn't refused

-- from the n-th change on
IsValid-changes_from : (meta : Metamodel) (n : ℕ) (g after : Model) (changes : List Change) → IsSound meta → IsValid meta g → All GivesStorable changes → changes_from meta n g changes ≡ Ok after → IsValid meta after
IsValid-changes_from meta n g after [] sound valid gives e = let is : g ≡ after = cc in subst (IsValid meta) is valid
IsValid-changes_from meta n g after (c ∷ cs) sound valid gives e =
    by (λ next first rest. IsValid-changes_from meta (n + 1) next after cs sound first (All-tail GivesStorable c cs gives) rest) (effect meta g c) refl e
  where
    by : ((next : Model) → IsValid meta next → changes_from meta (n + 1) next cs ≡ Ok after → IsValid meta after)
        → (r : Result Model Refusal) → effect meta g c ≡ r → and_then (λ next. changes_from meta (n + 1) next cs) (stopped_at n r) ≡ Ok after → IsValid meta after
    by later (Err why) stops e = cc
    by later (Ok next) goes e = later next (IsValid-effect meta g next c sound valid (All-head GivesStorable c cs gives) goes) e

-- all changes
pub IsValid-transaction : (meta : Metamodel) (g after : Model) (changes : List Change) → IsSound meta → IsValid meta g → All GivesStorable changes → transaction meta g changes ≡ Ok after → IsValid meta after
IsValid-transaction meta g after changes sound valid gives e = IsValid-changes_from meta 0 g after changes sound valid gives e
