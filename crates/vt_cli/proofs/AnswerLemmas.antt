-- What an outcome that is prepared and delivered says of the ending and of what was written.
use Rattle.std.proofs.Common.{ℕ, ◌≡◌, List, [], ◌∷◌, ◌++◌, Option, Some, None, sym, ap, ◌∙◌, subst, refl, inl, inr}
use Rattle.vt_outside.specs.Faults.{Rose}
use Rattle.vt_outside.specs.Shelf.{NamedFiles}
use Rattle.vt_outside.specs.Sink.{AppendsPrefix}
use Rattle.std.specs.Io.KnownBytes.{Appends}
use Rattle.vt_cli.specs.Command.{Command, command_of, files_of}
use Rattle.vt_cli.specs.Answer.{IsDecided, IsRefusal, IsCompleted, EndsUsage, IsAnswered, TellsUsage, IsUnread, IsUnwritten, WritesFront}
use Rattle.vt_cli.specs.Inside.Prepared.{IsOfFiles, Suits, Prepares, Delivers, IsCutShort, AreUnread}
use Rattle.vt_cli.specs.declared.ending.Role.{Role}
use Rattle.vt_cli.specs.declared.ending.Ending.{Ending}
use Rattle.vt_cli.specs.declared.ending.Ending.TheVariants.{Done, Usage, BadInput, Missing, ReadFault, NoMemory, WriteFault, TooLarge}
use Rattle.vt_cli.specs.declared.ending.Outcome.{Outcome}

-- ---- endings

cut-decided : (ending : Ending) (before now : ℕ) → IsCutShort ending before now → IsDecided ending → ⊥
cut-decided NoMemory before now cut decided = decided
cut-decided WriteFault before now cut decided = decided
cut-decided Done before now cut decided = cut
cut-decided Usage before now cut decided = cut
cut-decided (BadInput file code place) before now cut decided = cut
cut-decided (Missing file) before now cut decided = cut
cut-decided (ReadFault file) before now cut decided = cut
cut-decided (TooLarge file len) before now cut decided = cut

refusal-decided : (ending : Ending) → IsRefusal ending → IsDecided ending
refusal-decided Done refusal = tt
refusal-decided Usage refusal = refusal
refusal-decided (BadInput file code place) refusal = refusal
refusal-decided (Missing file) refusal = refusal
refusal-decided (ReadFault file) refusal = refusal
refusal-decided NoMemory refusal = refusal
refusal-decided WriteFault refusal = refusal
refusal-decided (TooLarge file len) refusal = refusal

cut-usage : (ending : Ending) (before now : ℕ) → IsCutShort ending before now → EndsUsage ending
cut-usage NoMemory before now cut = tt
cut-usage WriteFault before now cut = tt
cut-usage Done before now cut = absurd cut
cut-usage Usage before now cut = absurd cut
cut-usage (BadInput file code place) before now cut = absurd cut
cut-usage (Missing file) before now cut = absurd cut
cut-usage (ReadFault file) before now cut = absurd cut
cut-usage (TooLarge file len) before now cut = absurd cut

cut-completes : (ending : Ending) (before now : ℕ) → IsCutShort ending before now → (Rose before now → ⊥) → IsCompleted ending
cut-completes NoMemory before now cut calm = tt
cut-completes WriteFault before now cut calm = absurd (calm cut)
cut-completes Done before now cut calm = absurd cut
cut-completes Usage before now cut calm = absurd cut
cut-completes (BadInput file code place) before now cut calm = absurd cut
cut-completes (Missing file) before now cut calm = absurd cut
cut-completes (ReadFault file) before now cut calm = absurd cut
cut-completes (TooLarge file len) before now cut calm = absurd cut

files-decide : (ending : Ending) → IsOfFiles ending → IsCompleted ending
files-decide Done given = tt
files-decide (BadInput file code place) given = tt
files-decide (Missing file) given = tt
files-decide (TooLarge file len) given = tt
files-decide Usage given = tt
files-decide NoMemory given = tt
files-decide (ReadFault file) given = given
files-decide WriteFault given = given

no_command-usage : (ending : Ending) → Suits None ending → ending ≡ Usage
no_command-usage Usage suits = refl
no_command-usage Done suits = absurd suits
no_command-usage (BadInput file code place) suits = absurd suits
no_command-usage (Missing file) suits = absurd suits
no_command-usage (ReadFault file) suits = absurd suits
no_command-usage NoMemory suits = absurd suits
no_command-usage WriteFault suits = absurd suits
no_command-usage (TooLarge file len) suits = absurd suits

-- ---- what suits a command

suits-completes : (command : Option Command) (ending : Ending) → Suits command ending → IsCompleted ending
suits-completes None ending suits = subst IsCompleted (sym (no_command-usage ending suits)) tt
suits-completes (Some command) ending suits = files-decide ending suits

suits-usage : (command : Option Command) → Suits command Usage → command ≡ None
suits-usage None suits = refl
suits-usage (Some command) suits = absurd suits

suits-no_read_fault : (command : Option Command) (file : Role) → Suits command (ReadFault file) → ⊥
suits-no_read_fault None file suits = suits
suits-no_read_fault (Some command) file suits = suits

suits-no_memory : (command : Option Command) → Suits command NoMemory → ⊥
suits-no_memory None suits = suits
suits-no_memory (Some command) suits = suits

suits-no_write_fault : (command : Option Command) → Suits command WriteFault → ⊥
suits-no_write_fault None suits = suits
suits-no_write_fault (Some command) suits = suits

-- ---- what failed

not_nil : (a b : List (Role × List ℕ)) (x : Role × List ℕ) → [] ≡ a ++ x ∷ b → ⊥
not_nil [] b x e = cc
not_nil (y ∷ a) b x e = cc

same_file : (file other : Role) → ReadFault file ≡ ReadFault other → file ≡ other
same_file file other e = cc

module _ (words : List (List ℕ)) (told : Option NamedFiles) (before now : ℕ) (failed : Option (List ℕ)) (outcome : Outcome) (ending : Ending)
    (puts_before puts_now : ℕ) (old new : Option (List ℕ))
    (prepared : Prepares (command_of words) told before now failed outcome)
    (delivered : Delivers outcome ending puts_before puts_now old new) where
  unread_ending : (u : AreUnread (files_of (command_of words)) told before now failed outcome) → outcome.ending ≡ ReadFault u.role
  unread_ending u = ap (λ (o : Outcome). o.ending) u.tells

  front : AppendsPrefix old new outcome.text → WritesFront words told before now failed old new
  front part = elim prepared [
    | inl planned ↦ inr (inl (outcome, planned.due, part))
    | inr u ↦ inr (inr (u.role, u.fails, subst (λ (o : Outcome). AppendsPrefix old new o.text) u.tells part))
  ]

  answered : IsDecided ending → IsAnswered words told before now ending old new
  answered decided = elim delivered [
    | inl whole ↦ elim prepared [
      | inl planned ↦ record { outcome = outcome; due = planned.due; ends = whole.0; written = whole.1; quiet = planned.quiet }
      | inr u ↦ absurd (subst IsDecided (whole.0 ∙ unread_ending u) decided)
    ]
    | inr cut ↦ absurd (cut-decided ending puts_before puts_now cut.0 decided)
  ]

  pub answered_done : ending ≡ Done → IsAnswered words told before now ending old new
  answered_done is = answered (subst IsDecided (sym is) tt)

  pub answered_refused : IsRefusal ending → IsAnswered words told before now ending old new
  answered_refused refusal = answered (refusal-decided ending refusal)

  usage_only : ending ≡ Usage → command_of words ≡ None
  usage_only is = elim delivered [
    | inl whole ↦ elim prepared [
      | inl planned ↦ suits-usage (command_of words) (subst (Suits (command_of words)) (sym whole.0 ∙ is) planned.suits)
      | inr u ↦ absurd (subst IsDecided (sym is ∙ whole.0 ∙ unread_ending u) tt)
    ]
    | inr cut ↦ absurd (subst (λ (e : Ending). IsCutShort e puts_before puts_now) is cut.0)
  ]

  usage_always : command_of words ≡ None → EndsUsage ending
  usage_always none = elim delivered [
    | inl whole ↦ elim prepared [
      | inl planned ↦ subst EndsUsage (sym (whole.0 ∙ no_command-usage outcome.ending (subst (λ (c : Option Command). Suits c outcome.ending) none planned.suits))) tt
      | inr u ↦ absurd (not_nil u.fails.earlier u.fails.later (u.role, u.fails.name) (sym (ap files_of none) ∙ u.fails.parts))
    ]
    | inr cut ↦ cut-usage ending puts_before puts_now cut.0
  ]

  pub usage : TellsUsage words ending
  usage = record { only = usage_only; always = usage_always }

  pub unread : (file : Role) → ending ≡ ReadFault file → IsUnread words told file before now failed old new
  unread file is = elim delivered [
    | inl whole ↦ elim prepared [
      | inl planned ↦ absurd (suits-no_read_fault (command_of words) file (subst (Suits (command_of words)) (sym whole.0 ∙ is) planned.suits))
      | inr u ↦
          let same = same_file u.role file (sym (unread_ending u) ∙ sym whole.0 ∙ is) in
          subst (λ (role : Role). IsUnread words told role before now failed old new) same
          (record { fails = u.fails; line = subst (λ (o : Outcome). Appends old new o.text) u.tells whole.1 })
    ]
    | inr cut ↦ absurd (subst (λ (e : Ending). IsCutShort e puts_before puts_now) is cut.0)
  ]

  pub out_of_memory : ending ≡ NoMemory → WritesFront words told before now failed old new
  out_of_memory is = elim delivered [
    | inl whole ↦ elim prepared [
      | inl planned ↦ absurd (suits-no_memory (command_of words) (subst (Suits (command_of words)) (sym whole.0 ∙ is) planned.suits))
      | inr u ↦ absurd (let none : ⊥ = let e : NoMemory ≡ ReadFault u.role = sym is ∙ whole.0 ∙ unread_ending u in cc in none)
    ]
    | inr cut ↦ front cut.1
  ]

  pub unwritten : ending ≡ WriteFault → IsUnwritten words told before now failed puts_before puts_now old new
  unwritten is = elim delivered [
    | inl whole ↦ elim prepared [
      | inl planned ↦ absurd (suits-no_write_fault (command_of words) (subst (Suits (command_of words)) (sym whole.0 ∙ is) planned.suits))
      | inr u ↦ absurd (let none : ⊥ = let e : WriteFault ≡ ReadFault u.role = sym is ∙ whole.0 ∙ unread_ending u in cc in none)
    ]
    | inr cut ↦ record { counted = subst (λ (e : Ending). IsCutShort e puts_before puts_now) is cut.0; front = front cut.1 }
  ]

  pub completed : (Rose before now → ⊥) → (Rose puts_before puts_now → ⊥) → IsCompleted ending
  completed no_fetch no_put = elim delivered [
    | inl whole ↦ elim prepared [
      | inl planned ↦ subst IsCompleted (sym whole.0) (suits-completes (command_of words) outcome.ending planned.suits)
      | inr u ↦ absurd (no_fetch u.fails.counted)
    ]
    | inr cut ↦ cut-completes ending puts_before puts_now cut.0 no_put
  ]
