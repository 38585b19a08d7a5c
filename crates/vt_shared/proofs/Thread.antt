-- A walk that opens a book has the thread's token, and gives it back at its end.
use mathlib.Core.Path.{subst}
use seplogic.Ra.Ura.{Ura}
use base.Logic.{ent, via, fst∗, snd∗}
use base.Mask.{every}
use contract.Beside.{Carries}
use contract.Monad.{fact_use}
use contract.Named.{bare_unfolds}
use contract.Running.{Running, tables_of, bare_tables}
use denote.Laws.{Are, Ises, owns_show, showss}
use denote.RattleType.{owns}
use denote.Signature.{types_at}
use denote.Triple.Clauses.{Clauses, Ended, closing}
use denote.Triple.Entry.{on_entry, alive}
use denote.Triple.Handed.{holding, hands}
use denote.Triple.Spec.{Meets, triple_of}
use denote.Triple.Table.{entered}
use denote.Triple.Walked.{AllGo, Stays, walk_of, walk_Meets}
use mir.Syntax.{Fn, Callee}
use prog.Model.{Model}
use prog.Routine.{over, ◌≼⁺◌}
use prog.Wp.{Calls, Loops, WpFn, Tables}
use sound.WpLaws.{WpFn-mono}
use types.Logic.{Logic, sem}

module _ {M : Type 1} {𝓤 : Ura M} (𝓛 : Logic 𝓤) (T : Ended) (hs : Stays T.signature.params T.kept) (c : Clauses 𝓤 T) where
  open 𝓛 use {H, A}

  -- the clauses, with the token before and after
  abbrev pub with_token : Clauses 𝓤 T
  with_token = holding 𝓤 T (A.tok every) c

  abbrev pub Start : Type 0
  Start = (walk_of 𝓛 T hs with_token).Ghost

  abbrev pub Known : Start → Type 0
  Known y = Are (types_at T.signature.params y.0.0) (Ises (types_at T.signature.params y.0.0)) y.0.3 y.0.4

  -- what the walk of f shows
  abbrev pub Walk : Fn → Calls 𝓤 H → Loops 𝓤 H → Start → Type 1
  Walk f C Λ y = let W = walk_of 𝓛 T hs with_token in ent 𝓤 (W.pre y) (WpFn 𝓤 H C Λ f (W.args y) (W.post y))

  knowing : (y : Start) (f : Fn) (C : Calls 𝓤 H) (Λ : Loops 𝓤 H) → (Known y → Walk f C Λ y) → Walk f C Λ y
  knowing y f C Λ walk =
      let Rs = types_at T.signature.params y.0.0 in let entry = on_entry 𝓛 T.signature y.0.0 y.0.1 y.0.3 y.0.4 in
      let owned = via 𝓤 entry (fst∗ 𝓤 entry ((with_token y.0.0 y.0.3).requires y.1)) (snd∗ 𝓤 (alive 𝓛 T.signature y.0.0 y.0.1) (sem 𝓛 (owns Rs y.0.3 y.0.4))) in
      fact_use 𝓤 (Known y) (via 𝓤 _ owned (owns_show 𝓛 Rs (Ises Rs) (showss 𝓛 Rs) y.0.3 y.0.4)) walk

  pub walked_with_token : (𝓜 : Model 𝓤 H) (𝓡 : Running 𝓤 H 𝓜) (k : Callee) (f : Fn) → AllGo 𝓛 T.signature.lifetimes T.signature.params T.kept hs → over 𝓡.env f ≼⁺ 𝓡.env k
      → ((C : Calls 𝓤 H) (Λ : Loops 𝓤 H) (y : Start) → Known y → Walk f C Λ y) → Meets 𝓛 T.signature (𝓡.run (𝓡.env k)) (closing 𝓛 T c)
  unfolding tables_of
  walked_with_token 𝓜 𝓡 k f go code walk =
      let token = subst (Carries 𝓤 H 𝓜) 𝓛.turn_is 𝓡.carries in
      let 𝓣 : Tables 𝓤 H = tables_of 𝓤 H token.inner (bare_tables 𝓤 H token.inner 𝓡.allowed 𝓡.how 𝓡.env) in
      let meets = walk_Meets 𝓛 T hs go with_token (WpFn 𝓤 H 𝓣.C 𝓣.Λ f) (WpFn-mono 𝓤 H 𝓛.laws 𝓣 f) (λ y. knowing y f 𝓣.C 𝓣.Λ (walk 𝓣.C 𝓣.Λ y)) in
      hands 𝓛 T (A.tok every) c 𝓜 token 𝓡 (𝓡.env k) (entered 𝓤 H (triple_of 𝓛 T.signature (closing 𝓛 T with_token)) 𝓣.C 𝓣.Λ k f (bare_unfolds 𝓤 H token.inner 𝓡.allowed 𝓡.how 𝓡.env k f code) meets)
