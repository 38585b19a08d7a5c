-- What is due to files that were fetched.
use Rattle.std.proofs.Common.{◌≡◌, ℕ, List, Option, Some, None, Result, Ok, Err, sym, subst, inl}
use Rattle.std.specs.Prelude.{IfOk, IfSome}
use Rattle.vt_outside.specs.Shelf.{NamedFiles}
use Rattle.vt_cli.specs.Command.{Command}
use Rattle.vt_cli.specs.Texts.{texts_of}
use Rattle.vt_cli.specs.Result.{IsDueTo, IsDueToTexts, IsDueToCommand}
use Rattle.vt_cli.specs.Inside.Prepared.{AreFetched, IsOfFiles, IsPlanned, Prepares}
use Rattle.vt_cli.specs.Inside.Begun.{ComesTo}
use Rattle.vt_cli.specs.declared.ending.Role.{Role}
use Rattle.vt_cli.specs.declared.ending.Outcome.{Outcome}
use Rattle.vt_cli.specs.declared.prepared.Prepared.{Prepared}

module _ (command : Command) (told : Option NamedFiles) (before now : ℕ) (texts : List (Role × List ℕ)) where
  due_where_told : (known : Option NamedFiles) (outcome : Outcome) → IfSome known (λ k. texts_of k command.files ≡ Ok texts)
      → IsDueToTexts command.task texts outcome → IfSome known (λ k. IsDueToCommand (Some command) k outcome)
  due_where_told None outcome given due = tt
  due_where_told (Some k) outcome given due = subst (λ first. IsDueTo first (λ texts o. IsDueToTexts command.task texts o) outcome) (sym given) due

  planned : AreFetched command.files told before now texts → (outcome : Outcome) → IsDueToTexts command.task texts outcome → IsOfFiles outcome.ending
      → IsPlanned (Some command) told before now outcome
  planned fetched outcome due suits = record { due = due_where_told told outcome fetched.given due; suits = suits; quiet = fetched.quiet }

  -- each outcome that the texts come to is due
  pub all_planned : {E : Type 0} (failed : Option (List ℕ)) (r : Result Prepared E) → AreFetched command.files told before now texts
      → IfOk r (λ prepared. (outcome : Outcome) → ComesTo prepared outcome → IsDueToTexts command.task texts outcome)
      → IfOk r (λ prepared. (outcome : Outcome) → ComesTo prepared outcome → IsOfFiles outcome.ending)
      → IfOk r (λ prepared. (outcome : Outcome) → ComesTo prepared outcome → Prepares (Some command) told before now failed outcome)
  all_planned failed (Ok prepared) fetched due suits = λ outcome comes. inl (planned fetched outcome (due outcome comes) (suits outcome comes))
  all_planned failed (Err e) fetched due suits = due
