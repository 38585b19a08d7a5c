-- What a store answers to a transaction, and what it leaves.
use Rattle.std.specs.Prelude.{◌≡◌, ℕ, List, IfOk, OnOk, OnErr, Result, Ok, Err}
use Rattle.vt_delta.specs.Deltas.{IsNet}
use Rattle.vt_model.specs.Base.{base_of}
use Rattle.vt_model.specs.Touched.{AreTouched}
use Rattle.vt_model.specs.Transaction.{transaction}
use Rattle.vt_model.specs.declared.change.Change.{Change}
use Rattle.vt_model.specs.declared.change.Refusal.{Refusal}
use Rattle.vt_graph.specs.Held.{Held}
use Rattle.vt_change.specs.Leading.{IsBack, LeadsBack}
use Rattle.vt_change.specs.declared.applied.Applied.{Applied}
use Rattle.vt_change.specs.declared.fault.ApplyFault.{ApplyFault}
use Rattle.vt_change.specs.declared.fault.ApplyFault.TheVariants.{Refused}

-- all changes are made, or the first that is refused is told; or memory ran out
pub record Applies (changes : List Change) (old new : Held) (result : Result Applied ApplyFault) : Type 0 where
  pub meta : new.meta ≡ old.meta
  -- the model is that of the whole transaction, or the place and the reason are those of the first refusal
  pub made : OnOk result (transaction old.meta old.model changes ≡ Ok new.model)
  pub refused : (at : ℕ) (why : Refusal) → result ≡ Err (Refused at why) → transaction old.meta old.model changes ≡ Err (record { at = at; why = why })
  -- what isn't made whole changes nothing
  pub unchanged : OnErr result (IsBack old new)
  -- the delta is the net one, and those are touched that have other values than before
  pub delta : IfOk result (λ applied. IsNet (base_of old.meta old.model) (base_of old.meta new.model) applied.delta)
  pub touched : IfOk result (λ applied. AreTouched old.model new.model applied.touched)
  -- it can be undone, and then all is as before
  pub back : IfOk result (λ applied. LeadsBack old applied new)
