-- Histories: the steps that a model went through, and the matches after each.
use Rattle.std.specs.Prelude.{ℕ, List, [], ◌∷◌, All}
use Rattle.vt_base.specs.declared.numbers.RuleId.{RuleId}
use Rattle.vt_base.specs.declared.value.Value.{Value}
use Rattle.vt_model.specs.Metamodel.{Metamodel}
use Rattle.vt_model.specs.Model.{Model, empty_model}
use Rattle.vt_query.specs.Tables.{StandFor}
use Rattle.vt_query.specs.declared.program.Program.{Program}

-- what makes a step: the model is loaded, a client's transaction is made, or a rule fires for a match
pub data Cause : Type 0 where
  load : Cause
  commit : List ℕ → Cause
  fire : RuleId → List Value → Cause

-- a step, with the model and the table of each pattern after it
pub record Step : Type 0 where
  pub cause : Cause
  pub model : Model
  pub tables : List (List (List Value))

-- a history is the list of its steps, the last one first; before any step there is nothing

abbrev pub model_after : List Step → Model
model_after [] = empty_model
model_after (step ∷ earlier) = step.model

abbrev pub tables_after : List Step → List (List (List Value))
tables_after [] = []
tables_after (step ∷ earlier) = step.tables

-- after each step the tables are those of the patterns' matches in the model then
abbrev pub IsHistory : Metamodel → Program → List Step → Type 0
IsHistory meta program steps = All (λ step. StandFor meta step.model program step.tables) steps
