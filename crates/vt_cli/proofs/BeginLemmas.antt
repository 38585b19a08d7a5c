-- What holds where a session begins.
use Rattle.std.proofs.Common.{◌≡◌, ◌≤◌, ◌+◌, ℕ, List, [], ◌∷◌, length, Bool, true, false, cond, Option, Some, None, option_map, refl, sym, ap, subst, ◌∙◌}
use Rattle.std.specs.Prelude.{position}
use Rattle.vt_facts.proofs.PositionLemmas.{position-cons}
use Rattle.vt_model.specs.Metamodel.{Metamodel}
use Rattle.vt_model.specs.Model.{Model}
use Rattle.vt_model.specs.Base.{counts_of}
use Rattle.vt_query.specs.Narrow.{IsNarrow}
use Rattle.vt_query.specs.declared.program.Program.{Program}
use Rattle.vt_history.specs.History.{model_after}
use Rattle.vt_session.specs.Run.{State, IsStart}
use Rattle.vt_session.specs.Session.{Kept, StandsFor}
use Rattle.vt_script.specs.declared.line.Line.{Line}
use Rattle.vt_cli.specs.Unbuilt.{is_unbuilt, unbuilt}
use Rattle.vt_cli.specs.Inside.Begun.{AreHeld, AreBuilt, IsBegun}

-- ---- commands that are built

nowhere : (r : Option ℕ) → option_map (λ i. i + 1) r ≡ None → r ≡ None
nowhere None e = refl
nowhere (Some n) e = absurd (let none : ⊥ = cc in none)

AreBuilt-nowhere : (lines : List Line) → position is_unbuilt lines ≡ None → AreBuilt lines
AreBuilt-nowhere [] e = tt
AreBuilt-nowhere (l ∷ lines) e =
    let parts = both (is_unbuilt l) (position is_unbuilt lines) (sym (position-cons is_unbuilt l lines) ∙ e) in
    (parts.0, AreBuilt-nowhere lines parts.1)
  where
    both : (b : Bool) (r : Option ℕ) → cond b (Some 0) (option_map (λ n. n + 1) r) ≡ None → (b ≡ false) × (r ≡ None)
    both true r e = absurd (let none : ⊥ = cc in none)
    both false None e = (refl, refl)
    both false (Some n) e = absurd (let none : ⊥ = cc in none)

-- where no command is found that isn't built
pub all_built : (lines : List Line) → unbuilt lines ≡ None → AreBuilt lines
all_built lines e = AreBuilt-nowhere lines (nowhere (position is_unbuilt lines) e)

-- ---- the start

module _ (meta : Metamodel) (program : Program) (g : Model) (kept : Kept) (of : (kept.meta ≡ meta) × (kept.program ≡ program))
    (start : State) (starts : IsStart meta program g start) (stands : StandsFor kept start) where
  model_is : kept.model ≡ g
  model_is = stands.model ∙ ap (λ (s : State). model_after s.steps) starts.is ∙ starts.loads.model

  -- a session that has started is one that has begun
  pub has_begun : IsNarrow (counts_of meta) program → (lines : List Line) → AreBuilt lines → length lines ≤ 100000 → IsBegun kept lines
  has_begun narrow lines built few = record {
    start = start;
    starts =
        subst (λ m. IsStart m kept.program kept.model start) (sym of.0)
        (subst (λ p. IsStart meta p kept.model start) (sym of.1)
        (subst (λ h. IsStart meta program h start) (sym model_is) starts));
    at = record {
      narrow = subst (λ m. IsNarrow (counts_of m) kept.program) (sym of.0) (subst (IsNarrow (counts_of meta)) (sym of.1) narrow);
      stands = stands;
      held = subst (λ (s : State). AreHeld s.buffers) (sym starts.is) tt;
    };
    built = built;
    few = few;
  }
