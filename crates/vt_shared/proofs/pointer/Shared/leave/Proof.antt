-- `leave` counts one owner fewer, or hands the last one the value and the room.
use mathlib.Core.Path.{refl, ap}
use mathlib.Core.List.{List, [], ◌∷◌, ◌++◌}
use native.Mathlib.Omega.{arith}
use Prim.Native.Nat.{◌-◌, ◌<◌, ◌^◌}
use lib.Dec.{lit<, eqb→eq, ltb→lt}
use base.Fml.{ftrue, flft, ftok, froom}
use base.Logic.{SProp}
use base.Mask.{every}
use denote.Exit.{no}
use denote.Memory.{lone}
use denote.RattleType.{RattleType, owns}
use denote.RawPtr.{Ptr, block_ptr, ptr_val}
use denote.Signature.{types_at, plain}
use denote.Steps.{nothing}
use denote.Struct.Struct.{as_fields}
use denote.Struct.Tuple.{Tuple}
use denote.Triple.Walked.{says, Stays, stay_dropped, walk_of, Goes-dropped}
use mir.MapTy.{inst_fn}
use mir.Syntax.{Body, Sym, w64, ty_int}
use mir.Val.{Val, vint, vstruct, vcons, vnil}
use prog.Wp.{Wp, WpFn, after_block, after_seq, at_return}
use types.ByLocal.{alloc_all, pass_all, free_all, look_at, get, get_in, through, sets, is, env}
use types.Kit.{Item, Post, Sq, ‵, raw, ◌⊛◌, prop, at_ret, any_q, ◌$◌, ◌∵◌, !, qed, done, move, keep, drop, use0, use1, use2, split, fsplit, fjoin, frame, regoal, suffices}
use types.Match.{live}
use types.Part.{sub, whole, agg}
use types.Run.{look, store, stop, fld, load, lit, neg_lit, bin, of_opd, and_then, no_more, assigns_last, first, blocks, skips, branches, exec, returns, returns_within, enter}
use Rattle.std.specs.contracts.option.Option as option
use Rattle.std.specs.declared.option.Option.TheVariants.{None, Some}
use Rattle.std.proofs.alloc.Calls.{α}
use Rattle.std.proofs.raw_atomic.Walks.{leaves}
use Rattle.std_alloc.proofs.OfVacant.{Vacant, vacant_ty, vacant_val, vacant_typed, Vacant-made}
use Rattle.std_alloc.proofs.Pairs.{pair_val, pair_Typed, pair_of}
use Rattle.std_alloc.proofs.RawLayout.{as_raw}
use Rattle.std_alloc.proofs.BoxSteps.Form.{args, X, R, P, τ}
use Rattle.std_alloc.proofs.RcSteps.{Good, is_not, some_Good, Some-of, none_of, word, word_had, word-Good}
use Rattle.std_alloc.proofs.VecSteps.Shapes.{after, head, inside}
use Rattle.vt_shared.specs.Inside.Layout.{count_is}
use Rattle.vt_shared.specs.Inside.Owner.{page}
use Rattle.vt_shared.specs.contracts.pointer.block.Block as B
use Rattle.vt_shared.specs.contracts.pointer.Shared as S
use Rattle.vt_shared.specs.contracts.pointer.Shared.leave as leave-call
use Rattle.vt_shared.proofs.Census.{goes}
use Rattle.vt_shared.proofs.Memory.{both, sure, filled, shown, remains, owner_opens, shut, last_out, joined}
use Rattle.vt_shared.proofs.Memory as memory
use Rattle.vt_shared.proofs.Thread.{with_token, walked_with_token}
use Rattle.vt_shared.proofs.pointer.Shared.leave.Statement.{statement}
use Rattle.vt_shared.proofs.pointer.Shared.leave.Code as code
use Rattle.vt_shared.proofs.pointer.Shared.leave.Code.{code as shut_code}

pub leave_spec : {M : Type 1} → statement M
unfolding shut_code
leave_spec 𝓤 𝓛 𝓜 𝓡 wired V A lawsV lawsA ghosts calls drops _ _ =
    let E = both lawsV (record { row = A; laws = lawsA; g = ghosts; d = calls; drops = drops }) in let ν : Sym = (S.the_type (R E) (P E) ghosts).name in
    let Whole : RattleType = B.the_row (R E) (P E) in let Room : RattleType = Vacant E.al Whole in let Last : RattleType = Tuple (R E ∷ Room ∷ []) in
    let self_slot = plain (λ _. S.the_row (R E) (P E) ghosts) in
    let ended = leave-call.ended V A ghosts calls drops in let clauses = leave-call.clauses V A ghosts calls drops 𝓛 𝓜.mem 𝓡.returns in
    let stays : Stays ended.signature.params ended.kept = (stay_dropped self_slot no, tt) in let f = inst_fn (args E) code.function in let key = leave-call.Key.name (args E) in
    walked_with_token 𝓛 ended stays clauses 𝓜 𝓡 key f (Goes-dropped 𝓛 2 self_slot no (λ _ _ _. refl), tt) (wired.0.0 key refl) (λ C Λ y known.
    let c : Ptr = y.0.3.0.block in let x : X E = y.0.3.0.value in let given : List Val = y.0.4.0 in
    let token = with_token 𝓛 ended stays clauses in let Ends : Val → SProp 𝓤 = (walk_of 𝓛 ended stays token).post y in
    let alive : Item 𝓤 = ‵ (flft y.0.0.0 y.0.1.0) ⊛ ‵ (flft y.0.0.1.0 y.0.1.1.0) ⊛ ‵ ftrue in
    let nobody : Val = live 0 vnil in let nobody_good : Good (lone (option.the_row Last).mir) nobody = (tt, (record { fits = lit< tt }, tt)) in
    let out : Sq 𝓛 (‵ ((option.the_row Last).own_val None (nobody ∷ [])) ∷ ‵ (ftok every) ∷ alive ∷ []) (prop (Ends nobody)) = move ! (2 ∷ []) $
    suffices ! _ (leaves 𝓛 ended stays token y nobody None (tt, tt) (tt, tt)) $ frame ! $ nothing ! $ nothing ! $ fjoin ! $ frame ! $ frame ! $ says ! tt $ done ! in
    qed 𝓛 ((alive ⊛ ‵ (owns (types_at ended.signature.params y.0.0) y.0.3 y.0.4)) ∷ (‵ (ftok every) ⊛ raw ((clauses y.0.0 y.0.3).requires y.1)) ∷ []) ∵
    move ! (1 ∷ []) $ split ! $ move ! (2 ∷ []) $ split ! $ move ! (1 ∷ []) $ fsplit ! $ fsplit ! $ word_had E ν c ! given (λ is_word. keep ! (0 ∷ 3 ∷ 2 ∷ []) $
    regoal ! (λ (ws : List Val). prop (WpFn 𝓤 𝓛.H C Λ f (ws ++ []) Ends)) is_word refl $ enter ! C Λ f (word c ∷ []) Ends $ alloc_all ! (λ l. pass_all ! refl (word-Good ν c, tt) $
    let En = env f.locals l in let rest : Body = inside (head (after 1 f.body)) in
    let Then : Post 𝓤 𝓛.H = any_q (after_block 𝓤 𝓛.H (after_seq 𝓤 𝓛.H (Wp 𝓤 𝓛.H C Λ En (after 2 f.body) (at_return 𝓤 𝓛.H En Ends)) (at_return 𝓤 𝓛.H En Ends))) in
    owner_opens E c x ! tt (λ s n at off is_at small. let counted : Good (ty_int w64) (vint w64 n) = (tt, record { fits = small }) in
    -- [the count; what lies with it; the owner's right; what shuts the book; what is seen; the tokens]
    sets ! (is ! (of_opd ! (get_in ! (fld ! refl (stop !)) (sub ! 0 refl (whole !)))) (ap ptr_val is_at)) refl sure $
    first ! $ blocks ! $ sets ! (of_opd ! (load ! (through ! refl (fld ! refl (stop !))) (look ! 0 refl))) refl counted $ sets ! (bin ! (get ! refl) (lit ! tt) tt) refl sure $ first ! $ branches ! (get ! refl)
    -- the last owner reads the block whole
    (λ sole. move ! (2 ∷ 1 ∷ 3 ∷ []) $ last_out E c x ! tt s n (eqb→eq n 0 sole) $ move ! (1 ∷ 2 ∷ []) $ joined E c x ! (B.the_type (R E) (P E)).name n at off is_at (λ h v hv good fits.
    let full : Good (lone Whole.mir) (vstruct (filled E n v hv)) = as_fields (ty_int w64 ∷ τ E ∷ α E.al ∷ []) (vint w64 n ∷ v ∷ hv ∷ []) (counted, (good, (fits, tt))) in
    let room : Room.Denot = record { ptr = block_ptr at off; alloc = h } in let room_val : Val = vacant_val hv at off in let room_good = vacant_typed E.al Whole hv at off fits in
    let last : Val = pair_val v room_val in let last_good : Good (lone Last.mir) last = pair_Typed (τ E) (vacant_ty E.al Whole) v room_val good room_good in
    -- [the block; the allocator; its right; the value; the thread's token; what was seen; the tokens]
    sets ! (of_opd ! (load ! (through ! refl (stop !)) (look ! 0 refl))) refl full $
    sets ! (of_opd ! (get_in ! (fld ! refl (stop !)) (sub ! 1 refl (whole !)))) refl good $ sets ! (of_opd ! (get_in ! (fld ! refl (stop !)) (sub ! 2 refl (whole !)))) refl fits $
    sets ! (of_opd ! (get ! refl)) refl good $ sets ! (of_opd ! (get ! refl)) refl fits $
    use1 𝓛 (‵ (froom (lone Whole.mir) at off)) (𝓛.laws.at_room (lone Whole.mir) at off (vstruct (filled E n v hv))) $ as_raw ! (lone Whole.mir) at off $ move ! (0 ∷ 2 ∷ 1 ∷ []) $ Vacant-made E.al Whole ! h at off $
    sets ! (agg ! (and_then ! (get ! refl) (and_then ! (get ! refl) (no_more !)))) refl room_good $
    move ! (1 ∷ 0 ∷ []) $ use2 𝓛 (‵ (Last.own_val (x, room) (last ∷ []))) (pair_of 𝓛 (R E) Room x room v room_val) $
    sets ! (agg ! (and_then ! (get ! refl) (and_then ! (get ! refl) (no_more !)))) refl last_good $
    use1 𝓛 (‵ ((option.the_row Last).own_val (Some (x, room)) (live 1 (vcons last vnil) ∷ []))) (Some-of 𝓛 Last (x, room) last) $
    sets ! (agg ! (and_then ! (lit ! tt) (and_then ! (get ! refl) (no_more !)))) refl (some_Good (lone Last.mir) last last_good) $
    returns_within ! Ends refl (look_at ! 0 refl) $ free_all ! refl $ keep ! (3 ∷ 0 ∷ 1 ∷ []) $
    suffices ! _ (leaves 𝓛 ended stays token y (live 1 (vcons last vnil)) (Some (x, room)) (tt, tt) (tt, tt)) $ frame ! $ nothing ! $ nothing ! $ fjoin ! $ frame ! $ frame ! $ says ! refl $ done !))
    (λ several. skips ! $ exec ! C Λ En (after 3 rest) Then $ sets ! (bin ! (get ! refl) (neg_lit ! tt) tt) refl sure $ branches ! (get ! refl)
    (λ counts. let low : n < 2 ^ 64 - 1 = ltb→lt n (2 ^ 64 - 1) counts in let some' : 0 < n = omega (arith, is_not n 0 several) in let fewer : Good (ty_int w64) (vint w64 (n - 1)) = (tt, record { fits = omega arith }) in
    sets ! (bin ! (get ! refl) (lit ! tt) some') refl fewer $ assigns_last ! (of_opd ! (get ! refl)) (through ! refl (fld ! refl (stop !))) (store ! 0 refl fewer) $ exec ! C Λ En (after 2 f.body) (at_ret En Ends) $
    move ! (2 ∷ 1 ∷ []) $ use2 𝓛 (‵ (remains E c x s (n - 1))) (goes (page c) (count_is c) (memory.whole E c x) (shown E c x) s 𝓛 n some' low) $ move ! (1 ∷ 0 ∷ []) $ shut E c x ! tt s (n - 1) at off is_at $
    sets ! (agg ! (and_then ! (lit ! tt) (no_more !))) refl nobody_good $ use0 𝓛 (‵ ((option.the_row Last).own_val None (nobody ∷ []))) (none_of 𝓛 Last) $
    returns ! (look_at ! 0 refl) $ free_all ! refl $ keep ! (0 ∷ 1 ∷ 3 ∷ []) $ out)
    -- nobody is counted any more
    (λ full. skips ! $ exec ! C Λ En (after 2 f.body) (at_ret En Ends) $ move ! (2 ∷ []) $ drop ! $ shut E c x ! tt s n at off is_at $
    sets ! (agg ! (and_then ! (lit ! tt) (no_more !))) refl nobody_good $ use0 𝓛 (‵ ((option.the_row Last).own_val None (nobody ∷ []))) (none_of 𝓛 Last) $
    returns ! (look_at ! 0 refl) $ free_all ! refl $ keep ! (0 ∷ 1 ∷ 3 ∷ []) $ out))))))
