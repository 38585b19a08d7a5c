-- Changes that take effect as a whole, or not at all.
use Rattle.std.specs.Prelude.{ℕ, ◌+◌, List, [], ◌∷◌, Result, Ok, Err}
use Rattle.vt_model.specs.Metamodel.{Metamodel}
use Rattle.vt_model.specs.Model.{Model}
use Rattle.vt_model.specs.Effect.{effect}
use Rattle.vt_model.specs.declared.change.Change.{Change}
use Rattle.vt_model.specs.declared.change.Refusal.{Refusal}

-- the change that stops a transaction: its place, and why it is refused
pub record Stop : Type 0 where
  pub at : ℕ
  pub why : Refusal

-- the model after a change, or the stop at its place
abbrev pub stopped_at : ℕ → Result Model Refusal → Result Model Stop
stopped_at n (Err why) = Err (record { at = n; why = why })
stopped_at n (Ok g) = Ok g

-- then the rest, unless it has stopped
abbrev pub and_then : (Model → Result Model Stop) → Result Model Stop → Result Model Stop
and_then rest (Err stop) = Err stop
and_then rest (Ok g) = rest g

-- the changes one after the other, the first of which is the n-th
abbrev pub changes_from : Metamodel → ℕ → Model → List Change → Result Model Stop
changes_from meta n g [] = Ok g
changes_from meta n g (c ∷ cs) = and_then (λ after. changes_from meta (n + 1) after cs) (stopped_at n (effect meta g c))

-- the last model, or the first change that is refused
abbrev pub transaction : Metamodel → Model → List Change → Result Model Stop
transaction meta g changes = changes_from meta 0 g changes
