-- `found` fills the block, and its first owner lends the value.
use mathlib.Core.Path.{refl}
use mathlib.Core.List.{List, [], ◌∷◌, ◌++◌}
use lib.Dec.{lit<}
use base.Fml.{Lft, Share, ftrue, flft}
use base.Logic.{SProp}
use contract.BorrowLft.{◌⊑◌}
use contract.Running.{tables}
use denote.Exit.{no}
use denote.Memory.{lone}
use denote.Param.Laws.{param_laws}
use denote.RattleType.{RattleType, owns}
use denote.RawPtr.{Ptr, block_ptr, ◌+ₚ◌}
use denote.Shares.{Shares-less}
use denote.Signature.{types_at, plain}
use denote.Steps.{nothing}
use denote.Struct.Lending.{Lends, Lends-lies, Lends-first}
use denote.Struct.Struct.{as_fields}
use denote.Triple.Walked.{says, Stays, stay_dropped, walk_of, Goes-dropped}
use mir.MapTy.{inst_fn}
use mir.Syntax.{Sym, w64, ty_int}
use mir.Val.{Val, vint, vstruct}
use prog.Wp.{WpFn}
use base.Fraction.{full_share}
use base.Fml.{fex}
use denote.RawPtr.{lies_at}
use types.ByLocal.{alloc_all, pass_all, free_all, look_at, get, get_in, through, sets, env}
use types.Kit.{Item, ‵, given, later, ◌⊛◌, prop, at_ret, ◌$◌, ◌∵◌, !, qed, done, move, keep, use1, use3, learn, await, group, split, split3, fsplit3, fjoin, frame, regoal, suffices}
use types.Part.{sub, whole, agg}
use types.Run.{init, stop, fld, lit, of_opd, and_then, no_more, assigns_last, first, blocks, exec, returns, enter}
use Rattle.std.proofs.alloc.Calls.{α, Goes-blank, token}
use Rattle.std.proofs.raw_atomic.Walks.{proved_at, leaves}
use Rattle.std_alloc.proofs.OfVacant.{Vacant, vacant_val, vacant_typed, Vacant-had}
use Rattle.std_alloc.proofs.RawLayout.{as_written}
use Rattle.std_alloc.proofs.BoxSteps.Form.{args, X, R, P, τ}
use Rattle.std_alloc.proofs.BoxSteps.Steps.{el_tells}
use Rattle.std_alloc.proofs.RcSteps.{Good, word, word-Good, word_made}
use Rattle.std_alloc.proofs.VecSteps.Shapes.{after}
use Rattle.vt_shared.specs.Inside.Layout.{count_is, goes_back}
use Rattle.vt_shared.specs.Inside.Owner.{page}
use Rattle.vt_shared.specs.contracts.pointer.block.Block as B
use Rattle.vt_shared.specs.contracts.pointer.Shared as S
use Rattle.vt_shared.specs.contracts.pointer.Shared.found as found-call
use Rattle.vt_shared.proofs.Census.{begins}
use Rattle.vt_shared.proofs.Memory.{both, sure, value_at, filled, shown, owned, parts}
use Rattle.vt_shared.proofs.Memory as memory
use Rattle.vt_shared.proofs.pointer.Shared.found.Statement.{statement}
use Rattle.vt_shared.proofs.pointer.Shared.found.Code as code

pub found_spec : {M : Type 1} → statement M
found_spec 𝓤 𝓛 𝓜 𝓡 wired V A lawsV lawsA ghosts calls drops _ _ =
    let E = both lawsV (record { row = A; laws = lawsA; g = ghosts; d = calls; drops = drops }) in let ν : Sym = (S.the_type (R E) (P E) ghosts).name in
    let Whole : RattleType = B.the_row (R E) (P E) in let room_slot = plain (λ _. Vacant E.al Whole) in let value_slot = plain (λ _. R E) in
    let ended = found-call.ended V A ghosts calls drops in let clauses = found-call.clauses V A ghosts calls drops 𝓛 𝓜.mem 𝓡.returns in
    let stays : Stays ended.signature.params ended.kept = (stay_dropped room_slot no, (stay_dropped value_slot no, tt)) in
    let f = inst_fn (args E) code.function in let 𝓣 = tables 𝓤 𝓛.H 𝓜 𝓡 𝓡.env in
    proved_at 𝓛 ended stays clauses 𝓜 𝓡 (Goes-blank 𝓛 2 room_slot no (λ _ _ _. tt), (Goes-dropped 𝓛 2 value_slot no (λ _ _ _. refl), tt)) (found-call.Key.name (args E)) f (code.unfolded 𝓤 𝓛.H 𝓜 𝓡 wired (V, (A, tt)) calls drops) (λ y known.
    let h = y.0.3.0.alloc in let x : X E = y.0.3.1.0 in let rooms : List Val = y.0.4.0 in let values : List Val = y.0.4.1.0 in
    let κ : Lft = y.0.0.0 in let q : Share = y.0.1.0 in let alive : Item 𝓤 = ‵ (flft κ q) ⊛ ‵ (flft y.0.0.1.0 y.0.1.1.0) ⊛ ‵ ftrue in
    let Ends : Val → SProp 𝓤 = (walk_of 𝓛 ended stays clauses).post y in
    qed 𝓛 ((alive ⊛ ‵ (owns (types_at ended.signature.params y.0.0) y.0.3 y.0.4)) ∷ (given (κ ⊑ V.lives) (‵ ftrue) ⊛ given (y.0.0.1.0 ⊑ A.lives) (‵ ftrue) ⊛ ‵ ftrue) ∷ []) ∵
    split ! $ move ! (2 ∷ []) $ split ! $ learn ! (λ lives. move ! (3 ∷ []) $ fsplit3 ! $ move ! (1 ∷ []) $ el_tells E ! x values (λ v is_v good. move ! (1 ∷ []) $ Vacant-had E.al Whole ! y.0.3.0 rooms (λ b o hv _ is_room fits.
    -- [the room; the right to it; the allocator; the value; nothing, three times; the tokens]
    let c : Ptr = block_ptr b o in let first_owner : Val = word c in let none : Good (ty_int w64) (vint w64 0) = (tt, record { fits = lit< tt }) in
    let full : Good (lone Whole.mir) (vstruct (filled E 0 v hv)) = as_fields (ty_int w64 ∷ τ E ∷ α E.al ∷ []) (vint w64 0 ∷ v ∷ hv ∷ []) (none, (good, (fits, tt))) in
    let lend : Lends 𝓛 (memory.whole E c x) (shown E c x) κ = Lends-first 𝓛 (lies_at (R E) full_share (c +ₚ value_at E) x) (fex A.Denot (goes_back (R E) (P E) (token E.al) c)) (shown E c x) κ
    (Lends-lies 𝓛 (R E) κ (c +ₚ value_at E) x (Shares-less 𝓛 (R E) V.lives κ lives ((param_laws 0 V lawsV).shares 𝓛) x)) in
    regoal ! (λ (ws : List Val). prop (WpFn 𝓤 𝓛.H 𝓣.C 𝓣.Λ f (ws ++ (values ++ [])) Ends)) is_room refl $
    regoal ! (λ (ws : List Val). prop (WpFn 𝓤 𝓛.H 𝓣.C 𝓣.Λ f (vacant_val hv b o ∷ (ws ++ [])) Ends)) is_v refl $ keep ! (0 ∷ 1 ∷ 2 ∷ 3 ∷ 7 ∷ []) $ as_written ! (lone Whole.mir) b o $
    enter ! 𝓣.C 𝓣.Λ f (vacant_val hv b o ∷ v ∷ []) Ends $ alloc_all ! (λ l. pass_all ! refl (vacant_typed E.al Whole hv b o fits, (good, tt)) $
    sets ! (of_opd ! (get_in ! (fld ! refl (stop !)) (sub ! 0 refl (whole !)))) refl sure $ sets ! (of_opd ! (get_in ! (fld ! refl (stop !)) (sub ! 1 refl (whole !)))) refl fits $
    first ! $ blocks ! $ sets ! (of_opd ! (get ! refl)) refl good $ sets ! (of_opd ! (get ! refl)) refl fits $
    sets ! (agg ! (and_then ! (lit ! tt) (and_then ! (get ! refl) (and_then ! (get ! refl) (no_more !))))) refl full $ assigns_last ! (of_opd ! (get ! refl)) (through ! refl (stop !)) (init ! 0 refl full) $
    exec ! 𝓣.C 𝓣.Λ (env f.locals l) (after 3 f.body) (at_ret _ Ends) $
    -- [the block; the right to it; the allocator; the value; the tokens]
    move ! (0 ∷ 2 ∷ 3 ∷ 1 ∷ []) $ group ! 4 $ use1 𝓛 (‵ (count_is c 0) ⊛ ‵ (memory.whole E c x)) (parts E x 𝓛 (B.the_type (R E) (P E)).name b o 0 h v hv) $ split ! $ move ! (2 ∷ []) $ split3 ! $ move ! (3 ∷ 4 ∷ 0 ∷ []) $
    use3 𝓛 (later (‵ (owned E c x) ⊛ ‵ (flft κ q))) (begins (page c) (count_is c) (memory.whole E c x) (shown E c x) 𝓛 κ q lend) $ await ! tt $ split ! $ move ! (1 ∷ 2 ∷ 3 ∷ []) $ group ! 3 $
    -- [the tokens; what the first owner has]
    sets ! (agg ! (and_then ! (get ! refl) (no_more !))) refl (word-Good ν c) $ returns ! (look_at ! 0 refl) $ free_all ! refl $ keep ! (0 ∷ 1 ∷ []) $
    suffices ! _ (leaves 𝓛 ended stays clauses y first_owner (record { block = c; value = x }) ((tt, (tt, tt)), (tt, tt)) (tt, (tt, tt))) $ frame ! $
    word_made E ν c ! $ fjoin ! $ nothing ! $ nothing ! $ fjoin ! $ nothing ! $ fjoin ! $ frame ! $ says ! refl $ done !)))))
