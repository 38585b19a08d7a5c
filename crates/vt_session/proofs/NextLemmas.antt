-- What happened to the patterns, one after the other.
use Rattle.std.proofs.Common.{◌≡◌, ℕ, zero, suc, List, [], ◌∷◌, ◌++◌, length, map, Some, refl, sym, ap, subst, ◌∙◌, ◌⊎◌, inl, inr}
use Rattle.std.specs.Prelude.{Result, Ok, Err, IfOk, slice_get, unwrap_or, option_map}
use Rattle.std.proofs.lemmas.Option.{same_Some, slice_get-map}
use Rattle.vt_base.specs.declared.numbers.ObjId.{ObjId}
use Rattle.vt_base.specs.declared.numbers.PatternId.{PatternId}
use Rattle.vt_base.specs.declared.value.Value.{Value}
use Rattle.vt_model.specs.Model.{Model}
use Rattle.vt_model.specs.Touched.{AreTouched}
use Rattle.vt_query.specs.Holding.{table_of}
use Rattle.vt_history.specs.Events.{AreEvents}
use Rattle.vt_history.specs.Report.{HoldLive, AreOfPatterns}
use Rattle.vt_history.specs.declared.report.PatternEvents.{PatternEvents}
use Rattle.vt_session.specs.Inside.Next.{AllHoldLive, IsOfPattern}

-- the items at the places of a list, and of one with one more
at_push : {X : Type 0} (xs : List X) (y x : X) (n : ℕ) → slice_get (xs ++ y ∷ []) n ≡ Some x → (slice_get xs n ≡ Some x) ⊎ ((n ≡ length xs) × (y ≡ x))
at_push [] y x zero at = inr (refl, same_Some y x at)
at_push [] y x (suc n) at = cc
at_push (z ∷ xs) y x zero at = inl at
at_push (z ∷ xs) y x (suc n) at = elim (at_push xs y x n at) [ inl before ↦ inl before | inr last ↦ inr (ap suc last.0, last.1) ]

-- each event is of the pattern at its place
abbrev pub AreEach : List (List (List Value)) → List (List (List Value)) → List ObjId → List PatternEvents → Type 0
AreEach old new touched events = (p : PatternId) (e : PatternEvents) → slice_get events p.0 ≡ Some e → IsOfPattern p old new touched e

pub each-none : (old new : List (List (List Value))) (touched : List ObjId) → AreEach old new touched []
each-none old new touched p e at = cc

pub each-push : (old new : List (List (List Value))) (touched : List ObjId) (events : List PatternEvents) (last : PatternEvents) (n : ℕ) → length events ≡ n
    → AreEach old new touched events → IsOfPattern (record { 0 = n }) old new touched last → AreEach old new touched (events ++ last ∷ [])
each-push old new touched events last n count each of p e at = elim (at_push events last e p.0 at) [
  | inl before ↦ each p e before
  | inr is ↦ let place : record { 0 = n } ≡ p = λ i. record { 0 = sym (is.0 ∙ count) i } in
      subst (λ q. IsOfPattern q old new touched e) place (subst (IsOfPattern (record { 0 = n }) old new touched) is.1 of)
]

-- ---- the tables of lists of rows

module _ {X : Type 0} (f : X → List (List Value)) where
  table_of-map : (xs : List X) (n : ℕ) (x : X) → slice_get xs n ≡ Some x → table_of (map f xs) (record { 0 = n }) ≡ f x
  table_of-map xs n x at = ap (λ found. unwrap_or found []) (slice_get-map f xs n ∙ ap (option_map f) at)

  -- what happened between the rows at a place is what happened to that pattern
  pub IsOfPattern-at : (before after : List X) (n : ℕ) (b a : X) (touched : List ObjId) (e : PatternEvents) → slice_get before n ≡ Some b → slice_get after n ≡ Some a → e.pattern ≡ record { 0 = n }
      → ((g h : Model) → AreTouched g h touched → HoldLive g (f b) → HoldLive h (f a) → AreEvents g h (f b) (f a) e)
      → IsOfPattern (record { 0 = n }) (map f before) (map f after) touched e
  IsOfPattern-at before after n b a touched e at_before at_after is facts = record { pattern = is; events = told }
    where
      told : (g h : Model) → AreTouched g h touched → AllHoldLive g (map f before) → AllHoldLive h (map f after)
          → AreEvents g h (table_of (map f before) (record { 0 = n })) (table_of (map f after) (record { 0 = n })) e
      told g h t old new =
          let was = table_of-map before n b at_before in
          let is_now = table_of-map after n a at_after in
          subst (λ rows. AreEvents g h rows (table_of (map f after) (record { 0 = n })) e) (sym was)
          (subst (λ rows. AreEvents g h (f b) rows e) (sym is_now) (facts g h t (subst (HoldLive g) was (old (record { 0 = n }))) (subst (HoldLive h) is_now (new (record { 0 = n })))))

-- where each event is of its pattern, and there is one for each, they are those of the patterns
pub AreOfPatterns-each : (old new : List (List (List Value))) (touched : List ObjId) (events : List PatternEvents) → length events ≡ length new → AreEach old new touched events
    → (g h : Model) → AreTouched g h touched → AllHoldLive g old → AllHoldLive h new → AreOfPatterns g h old new events
AreOfPatterns-each old new touched events count each g h t live_before live_after = record {
  count = count;
  each = λ p e at. let of = each p e at in (of.pattern, of.events g h t live_before live_after);
}

-- what two facts on an answer lead to
pub if_ok : {A E : Type 0} (r : Result A E) (P Q R : A → Type 0) → ((x : A) → P x → Q x → R x) → IfOk r P → IfOk r Q → IfOk r R
if_ok (Ok x) P Q R leads p q = leads x p q
if_ok (Err e) P Q R leads p q = tt
