-- `enter` counts one owner more, while it can.
use mathlib.Core.Path.{refl, sym, ap, ◌∙◌}
use mathlib.Core.List.{List, [], ◌∷◌, ◌++◌}
use native.Mathlib.Omega.{arith}
use Prim.Native.Nat.{ℕ, ◌+◌, ◌-◌, ◌<◌, ◌^◌}
use base.Fml.{Fml, fsep, ftrue, flft, ftok}
use base.Logic.{SProp, id⊢, fst∗, never}
use types.Logic.{sem}
use base.Mask.{every}
use denote.Builtin.{RefOf}
use denote.Exit.{yes}
use denote.Memory.{shared_of}
use denote.Opens.{unhide}
use denote.RattleType.{owns}
use denote.RawPtr.{Ptr, block_of, count_of, ptr_val, in_a_block, ◌+ₚ◌}
use denote.Struct.Lending.{lent_at}
use denote.Signature.{types_at, plain}
use denote.Steps.{nothing}
use denote.Triple.Walked.{says, Stays, stay_dropped, walk_of, Goes-dropped}
use mir.MapTy.{inst_fn}
use mir.Syntax.{Sym, w64, ty_int}
use mir.Val.{Val, vint, vptr}
use prog.Wp.{WpFn}
use types.ByLocal.{alloc_all, pass_all, free_all, look_at, get, through, sets, is, env}
use types.Kit.{Item, Sq, ‵, raw, later, ◌⊛◌, prop, at_ret, ◌$◌, ◌∵◌, !, qed, done, move, use1, await, split, join, fsplit3, fjoin, fpick, frame, rewrite, regoal, suffices}
use types.Na.{na_inv_dup}
use types.Part.{look_in, sub, whole, agg}
use types.Run.{look, store, stop, fld, load, lit, neg_lit, bin, of_opd, and_then, no_more, assigns_last, first, blocks, skips, branches, exec, returns, enter}
use types.Tokens.{shr_bor-open}
use types.Within.{tokens_halve}
use Rattle.std.proofs.raw_atomic.Walks.{leaves}
use Rattle.std_alloc.proofs.BoxSteps.Form.{args, X, R, P}
use Rattle.std_alloc.proofs.RcSteps.{Good, is_not, is_so, Word, word, word-Good, reads, read}
use Rattle.std_alloc.proofs.VecSteps.Shapes.{after}
use Rattle.vt_shared.specs.Inside.Layout.{count_is}
use Rattle.vt_shared.specs.Inside.Owner.{page}
use Rattle.vt_shared.specs.Inside.Tally.{loan, book}
use Rattle.vt_shared.specs.contracts.pointer.Shared as S
use Rattle.vt_shared.specs.contracts.pointer.Shared.enter as enter-call
use Rattle.vt_shared.proofs.Census.{comes, joins}
use Rattle.vt_shared.proofs.Memory.{both, sure, value_at, count_cell, shown, owned, from_ref, mine, noted, remains, opened, given_out}
use Rattle.vt_shared.proofs.Memory as memory
use Rattle.vt_shared.proofs.Thread.{with_token, walked_with_token}
use Rattle.vt_shared.proofs.pointer.Shared.enter.Statement.{statement}
use Rattle.vt_shared.proofs.pointer.Shared.enter.Code as code
use Rattle.vt_shared.proofs.pointer.Shared.enter.Code.{code as shut_code}

pub enter_spec : {M : Type 1} → statement M
unfolding shut_code
enter_spec 𝓤 𝓛 𝓜 𝓡 wired V A lawsV lawsA ghosts calls drops _ _ =
    let E = both lawsV (record { row = A; laws = lawsA; g = ghosts; d = calls; drops = drops }) in let ν : Sym = (S.the_type (R E) (P E) ghosts).name in
    let self_slot = RefOf (0 ∷ []) tt (plain (λ _. S.the_row (R E) (P E) ghosts)) (λ _. tt) in
    let ended = enter-call.ended V A ghosts calls drops in let clauses = enter-call.clauses V A ghosts calls drops 𝓛 𝓜.mem 𝓡.returns in
    let stays : Stays ended.signature.params ended.kept = (stay_dropped self_slot yes, tt) in let f = inst_fn (args E) code.function in let key = enter-call.Key.name (args E) in
    walked_with_token 𝓛 ended stays clauses 𝓜 𝓡 key f (Goes-dropped 𝓛 3 self_slot yes (λ _ _ _. refl), tt) (wired.0.0 key refl) (λ C Λ y known.
    let me = y.0.3.0 in let c : Ptr = me.now.block in let x : X E = me.now.value in let b : ℕ = me.ref_ptr.0 in let o : ℕ = me.ref_ptr.1 in
    let κ = y.0.0.0 in let q = y.0.1.0 in let others : Item 𝓤 = ‵ (flft y.0.0.1.0 y.0.1.1.0) ⊛ ‵ (flft y.0.0.1.1.0 y.0.1.1.1.0) ⊛ ‵ ftrue in
    let token = with_token 𝓛 ended stays clauses in let Ends : Val → SProp 𝓤 = (walk_of 𝓛 ended stays token).post y in
    let another : Fml = fsep ((Word E ν).own_val (c, tt) (word c ∷ [])) (owned E c x) in
    let out : Sq 𝓛 (‵ another ∷ ‵ (flft κ q) ∷ ‵ (ftok every) ∷ others ∷ []) (prop (Ends (word c))) = move ! (1 ∷ 3 ∷ []) $ join ! $
    suffices ! _ (leaves 𝓛 ended stays token y (word c) me.now (tt, tt) (tt, tt)) $ frame ! $ nothing ! $ nothing ! $ fjoin ! $ frame ! $ frame ! $ says ! refl $ done ! in
    qed 𝓛 (((‵ (flft κ q) ⊛ others) ⊛ ‵ (owns (types_at ended.signature.params y.0.0) y.0.3 y.0.4)) ∷ (‵ (ftok every) ⊛ raw ((clauses y.0.0 y.0.3).requires y.1)) ∷ []) ∵
    from_ref E c x ! ν κ q b o _ _ others _ (id⊢ 𝓤 _) $
    regoal ! (λ (given : List Val). prop (WpFn 𝓤 𝓛.H C Λ f (given ++ []) Ends)) known.0.0 refl $ enter ! C Λ f (vptr b o ∷ []) Ends $ alloc_all ! (λ l. pass_all ! refl (sure, tt) $
    -- [the pointer's word; what a `&` holds; its token; the thread's token; the other tokens]
    move ! (1 ∷ []) $ unhide ! $ fpick ! (λ s. fsplit3 ! $
    in_a_block ! c (λ r. lent_at (R E) (r +ₚ value_at E) x (loan s)) (fst∗ 𝓤 (never 𝓤) (sem 𝓛 (shared_of (R E) x 0 0 (loan s)))) (λ at off is_at.
    rewrite ! 0 (λ (r : Ptr). ‵ (lent_at (R E) (r +ₚ value_at E) x (loan s))) (sym is_at) refl $
    move ! (3 ∷ 4 ∷ []) $ reads E ν c ! tt b o (λ part. sets ! (is ! (of_opd ! (load ! (through ! refl (fld ! refl (stop !))) (look_in ! 0 (sub ! 0 refl (whole !))))) (ap ptr_val is_at)) refl sure $
    read E ν c ! tt b o part $ move ! (3 ∷ 0 ∷ []) $ shr_bor-open ! tt (tokens_halve 𝓛 (loan s)) (λ e.
    -- [the way back; a share of the loan; what is seen; the book; the thread's token; the other tokens]
    move ! (3 ∷ []) $ use1 𝓛 (‵ (noted E c x s) ⊛ ‵ (noted E c x s)) (na_inv_dup 𝓛 (page c) (book (page c) (count_is c) (memory.whole E c x) (shown E c x) s)) $ split ! $
    move ! (0 ∷ 3 ∷ 5 ∷ []) $ opened E c x ! tt s e (λ n b' o' again small. rewrite ! 0 (λ (r : Ptr). ‵ (count_cell E (block_of r) (count_of r) n)) (sym again ∙ is_at) refl $
    let counted : Good (ty_int w64) (vint w64 n) = (tt, record { fits = small }) in
    -- [the count; what lies with it; the share; what shuts the book; the book; the way back; what is seen; the other tokens]
    first ! $ blocks ! $ sets ! (of_opd ! (load ! (through ! refl (fld ! refl (stop !))) (look ! 0 refl))) refl counted $ sets ! (bin ! (get ! refl) (neg_lit ! tt) tt) refl sure $ branches ! (get ! refl)
    (λ room. let low : n < 2 ^ 64 - 1 = omega (arith, is_not n (2 ^ 64 - 1) room) in let more : Good (ty_int w64) (vint w64 (n + 1)) = (tt, record { fits = omega arith }) in
    sets ! (bin ! (get ! refl) (lit ! tt) more.1) refl more $ assigns_last ! (of_opd ! (get ! refl)) (through ! refl (fld ! refl (stop !))) (store ! 0 refl more) $
    exec ! C Λ (env f.locals l) (after 2 f.body) (at_ret _ Ends) $ move ! (1 ∷ []) $
    use1 𝓛 (later (‵ (remains E c x s (n + 1)) ⊛ ‵ (mine E c x s))) (comes (page c) (count_is c) (memory.whole E c x) (shown E c x) s 𝓛 n low) $ await ! tt $ split ! $
    move ! (2 ∷ 0 ∷ 1 ∷ []) $ given_out E c x ! tt s (n + 1) at off is_at ν κ q e $
    sets ! (is ! (agg ! (and_then ! (get ! refl) (no_more !))) (ap word (sym is_at))) refl (word-Good ν c) $ returns ! (look_at ! 0 refl) $ free_all ! refl $ out)
    (λ full. skips ! $ exec ! C Λ (env f.locals l) (after 2 f.body) (at_ret _ Ends) $ move ! (1 ∷ []) $
    use1 𝓛 (‵ (remains E c x s n) ⊛ ‵ (mine E c x s)) (joins (page c) (count_is c) (memory.whole E c x) (shown E c x) s 𝓛 n (is_so n (2 ^ 64 - 1) full)) $ split ! $
    move ! (2 ∷ 0 ∷ 1 ∷ []) $ given_out E c x ! tt s n at off is_at ν κ q e $
    sets ! (is ! (agg ! (and_then ! (get ! refl) (no_more !))) (ap word (sym is_at))) refl (word-Good ν c) $ returns ! (look_at ! 0 refl) $ free_all ! refl $ out))))))))
