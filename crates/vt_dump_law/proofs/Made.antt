-- Changes that are all made, one after the other.
use Rattle.std.proofs.Common.{◌≡◌, ℕ, ◌+◌, List, [], ◌∷◌, ◌++◌, ap, sym, subst, ◌∙◌}
use Rattle.std.specs.Prelude.{Ok}
use Rattle.vt_model.specs.Metamodel.{Metamodel}
use Rattle.vt_model.specs.Model.{Model}
use Rattle.vt_model.specs.Effect.{effect}
use Rattle.vt_model.specs.Transaction.{stopped_at, and_then, changes_from}
use Rattle.vt_model.specs.declared.change.Change.{Change}

-- no change is refused, and the last makes the other model
abbrev pub Makes : Metamodel → Model → List Change → Model → Type 0
Makes meta g [] after = g ≡ after
Makes meta g (c ∷ cs) after = (next : Model) × (effect meta g c ≡ Ok next) × Makes meta next cs after

-- one list of changes, and then another
pub Makes-append : (meta : Metamodel) (g mid after : Model) (cs ds : List Change) → Makes meta g cs mid → Makes meta mid ds after → Makes meta g (cs ++ ds) after
Makes-append meta g mid after [] ds first second = subst (λ h. Makes meta h ds after) (sym first) second
Makes-append meta g mid after (c ∷ cs) ds first second = (first.0, first.1, Makes-append meta first.0 mid after cs ds first.2 second)

-- the model that all make is the transaction's
pub changes_from-Makes : (meta : Metamodel) (n : ℕ) (g after : Model) (cs : List Change) → Makes meta g cs after → changes_from meta n g cs ≡ Ok after
changes_from-Makes meta n g after [] made = ap Ok made
changes_from-Makes meta n g after (c ∷ cs) made =
    ap (λ r. and_then (λ next. changes_from meta (n + 1) next cs) (stopped_at n r)) made.1
    ∙ changes_from-Makes meta (n + 1) made.0 after cs made.2
