-- `get` shows what all owners see.
use mathlib.Core.Path.{refl, sym, ap}
use mathlib.Core.List.{List, [], ◌∷◌, ◌++◌}
use Prim.Native.Nat.{ℕ, ◌+◌}
use base.Fml.{ftrue, flft, ftok}
use base.Logic.{SProp, id⊢, fst∗, never}
use base.Mask.{every}
use denote.Builtin.{RefOf}
use denote.Exit.{yes}
use denote.Memory.{lone, shared_of}
use denote.Opens.{unhide, hide}
use denote.RattleType.{owns}
use denote.RawPtr.{Ptr, ptr_val, in_a_block, ◌+ₚ◌}
use denote.Signature.{types_at, plain}
use denote.Steps.{nothing}
use denote.Struct.Lending.{lent_at, lent_at_shr_laws}
use denote.Triple.Walked.{says, Stays, stay_dropped, walk_of, Goes-dropped}
use mir.MapTy.{inst_fn}
use mir.Syntax.{Sym}
use mir.Val.{Val, vptr}
use prog.Memory.{up}
use prog.RawLaws.{align-raw}
use prog.Wp.{WpFn}
use types.ByLocal.{alloc_all, pass_all, free_all, look_at, get, through, sets, sets_last, is, env}
use types.Kit.{Item, ‵, raw, ◌⊛◌, prop, at_ret, ◌$◌, ◌∵◌, !, qed, done, move, keep, use1, join, fsplit, fjoin, feq_i, regoal, frame, suffices}
use types.Logic.{sem}
use types.Part.{look_in, sub, whole}
use types.Run.{stop, fld, load, addr, of_opd, first, blocks, exec, returns, enter}
use Rattle.std.proofs.raw_atomic.Walks.{leaves}
use Rattle.std_alloc.proofs.BoxSteps.Form.{args, X, R, P}
use Rattle.std_alloc.proofs.RcSteps.{reads, read}
use Rattle.std_alloc.proofs.VecSteps.Shapes.{after}
use Rattle.vt_shared.specs.Inside.Layout.{count_is}
use Rattle.vt_shared.specs.Inside.Owner.{page}
use Rattle.vt_shared.specs.contracts.pointer.Shared as S
use Rattle.vt_shared.specs.contracts.pointer.Shared.get as get-call
use Rattle.vt_shared.proofs.Lending.{sees}
use Rattle.vt_shared.proofs.Memory.{both, sure, value_at, shown, from_ref}
use Rattle.vt_shared.proofs.Memory as memory
use Rattle.vt_shared.proofs.Thread.{with_token, walked_with_token}
use Rattle.vt_shared.proofs.pointer.Shared.get.Statement.{statement}
use Rattle.vt_shared.proofs.pointer.Shared.get.Code as code
use Rattle.vt_shared.proofs.pointer.Shared.get.Code.{code as shut_code}

pub get_spec : {M : Type 1} → statement M
unfolding shut_code
get_spec 𝓤 𝓛 𝓜 𝓡 wired V A lawsV lawsA ghosts calls drops _ _ =
    let E = both lawsV (record { row = A; laws = lawsA; g = ghosts; d = calls; drops = drops }) in let ν : Sym = (S.the_type (R E) (P E) ghosts).name in
    let self_slot = RefOf (0 ∷ []) tt (plain (λ _. S.the_row (R E) (P E) ghosts)) (λ _. tt) in
    let ended = get-call.ended V A ghosts calls drops in let clauses = get-call.clauses V A ghosts calls drops 𝓛 𝓜.mem 𝓡.returns in
    let stays : Stays ended.signature.params ended.kept = (stay_dropped self_slot yes, tt) in let f = inst_fn (args E) code.function in let key = get-call.Key.name (args E) in
    walked_with_token 𝓛 ended stays clauses 𝓜 𝓡 key f (Goes-dropped 𝓛 3 self_slot yes (λ _ _ _. refl), tt) (wired.0.0 key refl) (λ C Λ y known.
    let me = y.0.3.0 in let c : Ptr = me.now.block in let x : X E = me.now.value in let b : ℕ = me.ref_ptr.0 in let o : ℕ = me.ref_ptr.1 in
    let κ = y.0.0.0 in let q = y.0.1.0 in let others : Item 𝓤 = ‵ (flft y.0.0.1.0 y.0.1.1.0) ⊛ ‵ (flft y.0.0.1.1.0 y.0.1.1.1.0) ⊛ ‵ ftrue in
    let token = with_token 𝓛 ended stays clauses in let Ends : Val → SProp 𝓤 = (walk_of 𝓛 ended stays token).post y in
    qed 𝓛 (((‵ (flft κ q) ⊛ others) ⊛ ‵ (owns (types_at ended.signature.params y.0.0) y.0.3 y.0.4)) ∷ (‵ (ftok every) ⊛ raw ((clauses y.0.0 y.0.3).requires y.1)) ∷ []) ∵
    from_ref E c x ! ν κ q b o _ _ others _ (id⊢ 𝓤 _) $ move ! (1 ∷ []) $ unhide ! $
    use1 𝓛 (‵ (shown E c x κ)) (sees (page c) (count_is c) (memory.whole E c x) (shown E c x) (lent_at_shr_laws (R E) lawsV.shr_laws (c +ₚ value_at E) x) 𝓛 κ) $
    -- [what is seen; the pointer's word; its token; the thread's token; the others]
    in_a_block ! c (λ r. lent_at (R E) (r +ₚ value_at E) x κ) (fst∗ 𝓤 (never 𝓤) (sem 𝓛 (shared_of (R E) x 0 0 κ))) (λ at off is_at. fsplit ! $ move ! (1 ∷ []) $ hide ! $
    let seen : Val = vptr at (off + value_at E) in
    regoal ! (λ (given : List Val). prop (WpFn 𝓤 𝓛.H C Λ f (given ++ []) Ends)) known.0.0 refl $ enter ! C Λ f (vptr b o ∷ []) Ends $ alloc_all ! (λ l. pass_all ! refl (sure, tt) $
    move ! (2 ∷ 3 ∷ []) $ reads E ν c ! tt b o (λ part. sets ! (is ! (of_opd ! (load ! (through ! refl (fld ! refl (stop !))) (look_in ! 0 (sub ! 0 refl (whole !))))) (ap ptr_val is_at)) refl sure $ read E ν c ! tt b o part $
    first ! $ blocks ! $ sets_last ! (is ! (addr ! (through ! refl (fld ! refl (stop !)))) (ap (λ (n : ℕ). vptr at (off + up n 8)) (sym (align-raw (lone (R E).mir))))) refl sure $ exec ! C Λ (env f.locals l) (after 2 f.body) (at_ret _ Ends) $ sets ! (of_opd ! (get ! refl)) refl sure $
    returns ! (look_at ! 0 refl) $ free_all ! refl $ keep ! (0 ∷ 4 ∷ 1 ∷ 3 ∷ []) $ join ! $
    suffices ! _ (leaves 𝓛 ended stays token y seen (record { ref_ptr = (at, off + value_at E); now = x }) (tt, tt) (tt, tt)) $ frame ! $
    feq_i ! (List Val) (seen ∷ []) (seen ∷ []) refl $ fjoin ! $ nothing ! $ nothing ! $ fjoin ! $ frame ! $ frame ! $ says ! refl $ done !))))
