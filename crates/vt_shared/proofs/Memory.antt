-- The words of `specs/Inside` at one block, and the steps by which a walk reaches into it.
use mathlib.Core.Path.{◌≡◌, refl, sym}
use mathlib.Core.List.{List, [], ◌∷◌}
use Prim.Native.Nat.{ℕ, ◌+◌, ◌^◌, ◌<◌}
use seplogic.Ra.Ura.{Ura}
use base.Fraction.{full_share}
use base.Logic.{SProp, ent, sep, id⊢, apply∗}
use base.Mask.{every}
use base.Fml.{Fml, Lft, Share, fhide, ftrue, fsep, fat, fleft, flft, fdead, fobor, fwand, ftok}
use borrow.Table.OneValue.{part_in, part_out}
use denote.Memory.{hidden_shr, part_at}
use denote.Param.Laws.{Laws}
use denote.RattleType.{RattleType}
use denote.Plain.{uint_in, uint_out}
use denote.RawPtr.{Ptr, block_ptr, in_a_block, ◌+ₚ◌}
use denote.Steps.{nothing}
use denote.Struct.Lending.{lent_at}
use mir.Raw.{raw as bare}
use mir.Syntax.{Sym, Ty, w64, ty_int, ty_struct, tcons, tnil}
use mir.Val.{Val, Vals, vint, vstruct, vcons, vnil}
use types.Kit.{Item, Goal, Seq, Step, Soaks, step, ‵, raw, ◌⊛◌, some, later, given, ◌$◌, ◌∵◌, !, qed, move, keep, drop, use1, use2, use3, pick, learn, await, group, split, split3, fsplit, fsplit3, fjoin, fjoin3, fpick, fpack, rewrite, done}
use types.Logic.{Logic, sem}
use types.Na.{na_inv}
use types.Run.{well_typed}
use types.Tokens.{obor_close}
use Rattle.std.proofs.alloc.Calls.{Al, α, token, Fits}
use Rattle.std_alloc.proofs.BoxSteps.Form.{Bx, X, τ, own, R, P}
use Rattle.std_alloc.proofs.BoxSteps.Steps.{el_out, el_in}
use Rattle.std_alloc.proofs.RcSteps.{Good, Word, word, word_made}
use Rattle.vt_shared.specs.Inside.Layout as layout
use Rattle.vt_shared.specs.Inside.Layout.{count_is, contents, goes_back}
use Rattle.vt_shared.specs.Inside.Owner.{page, owner_owns, owner_shares}
use Rattle.vt_shared.specs.Inside.Tally.{Spans, loan, book, owner_of}
use Rattle.vt_shared.proofs.Census as census

-- the parameters of a function of `Shared`, under one name
abbrev pub both : {V : RattleType} → Laws V → Al → Bx
both {V} laws al = record { row = V; laws = laws; al = al }

-- a value that needs no bound is well formed
abbrev pub sure : Unit {0} × Unit {0}
sure = (tt, tt)

module _ (E : Bx) where
  abbrev pub value_at : ℕ
  value_at = layout.value_at (R E) (P E)

  abbrev pub alloc_at : ℕ
  alloc_at = layout.alloc_at (R E) (P E)

  -- a block as the code has it, and as it lies
  abbrev pub block_ty : Sym → Ty
  block_ty ν = ty_struct ν (tcons (ty_int w64) (tcons (τ E) (tcons (α E.al) tnil)))

  abbrev pub lying : Ty
  lying = ty_struct [] (layout.fields (R E) (P E))

  abbrev pub count_cell : ℕ → ℕ → ℕ → Fml
  count_cell b o n = fat full_share (ty_int w64) b (o + 0) (vint w64 n)

  abbrev pub value_cell : ℕ → ℕ → Val → Fml
  value_cell b o v = fat full_share (τ E) b (o + value_at) v

  abbrev pub alloc_cell : ℕ → ℕ → Val → Fml
  alloc_cell b o hv = fat full_share (α E.al) b (o + alloc_at) hv

  abbrev pub manager : E.al.row.Denot → Val → Fml
  manager h hv = E.al.row.own_val h (hv ∷ [])

  abbrev pub filled : ℕ → Val → Val → Vals
  filled n v hv = vcons (vint w64 n) (vcons v (vcons hv vnil))

  -- the right of the allocator h to free the block at c
  abbrev pub frees : E.al.row.Denot → Ptr → Fml
  frees h c = token E.al h lying c

module _ (E : Bx) (c : Ptr) (x : X E) where
  abbrev pub whole : Fml
  whole = contents (R E) (P E) (token E.al) c x

  abbrev pub shown : Lft → Fml
  shown = lent_at (R E) (c +ₚ value_at E) x

  abbrev pub owned : Fml
  owned = owner_owns (P E) (token E.al) (R E) c x

  abbrev pub lends : Lft → Fml
  lends = owner_shares (P E) (token E.al) (R E) c x

  abbrev pub mine : Spans → Fml
  mine s = census.mine (page c) (count_is c) whole shown s

  abbrev pub remains : Spans → ℕ → Fml
  remains s n = census.remains (page c) (count_is c) whole shown s n

  abbrev pub noted : Spans → Fml
  noted s = na_inv (page c) (book (page c) (count_is c) whole shown s)

  abbrev pub Shuts : {M : Type 1} {𝓤 : Ura M} (𝓛 : Logic 𝓤) → Spans → Item 𝓤
  Shuts 𝓛 s = raw (census.Shut (page c) (count_is c) whole shown s 𝓛)

-- a block that was written whole is a count and the rest
module _ (E : Bx) (x : X E) {M : Type 1} {𝓤 : Ura M} (𝓛 : Logic 𝓤) (ν : Sym) (b o : ℕ) where
  open 𝓛 use {H}

  pub parts : (n : ℕ) (h : E.al.row.Denot) (v hv : Val)
      → ent 𝓤 (sep 𝓤 (H.at full_share (block_ty E ν) b o (vstruct (filled E n v hv))) (sep 𝓤 (sem 𝓛 (manager E h hv)) (sep 𝓤 (sem 𝓛 (own E x (v ∷ []))) (sem 𝓛 (frees E h (block_ptr b o))))))
      (sep 𝓤 (sem 𝓛 (count_is (block_ptr b o) n)) (sem 𝓛 (whole E (block_ptr b o) x)))
  parts n h v hv = qed 𝓛 (‵ (fat full_share (block_ty E ν) b o (vstruct (filled E n v hv))) ∷ ‵ (manager E h hv) ∷ ‵ (own E x (v ∷ [])) ∷ ‵ (frees E h (block_ptr b o)) ∷ []) ∵
      use1 𝓛 (‵ (fat full_share (lying E) b o (vstruct (filled E n v hv)))) (𝓛.laws.at_raw full_share (block_ty E ν) b o (vstruct (filled E n v hv))) $
      use1 𝓛 ((‵ (count_cell E b o n) ⊛ ‵ (fat full_share (bare (τ E)) b (o + value_at E) v) ⊛ ‵ (fat full_share (bare (α E.al)) b (o + alloc_at E) hv) ⊛ ‵ ftrue) ⊛ ‵ (fleft full_share (lying E) (layout.fields (R E) (P E)) b o))
      (𝓛.laws.struct_apart full_share [] (layout.fields (R E) (P E)) b o (filled E n v hv)) $ split ! $ split3 ! $ move ! (2 ∷ []) $ split ! $
      -- [the allocator's cell; nothing; the count; the value's cell; the seams; the allocator; the value; its right]
      use1 𝓛 (‵ (alloc_cell E b o hv)) (𝓛.laws.raw_at full_share (α E.al) b (o + alloc_at E) hv) $ move ! (0 ∷ 5 ∷ []) $
      use2 𝓛 (‵ (part_at (P E) full_share h b (o + alloc_at E))) (part_in 𝓛 (P E) refl full_share h b (o + alloc_at E) hv) $ move ! (0 ∷ 6 ∷ 4 ∷ []) $ fjoin3 ! $
      fpack ! E.al.row.Denot (goes_back (R E) (P E) (token E.al) (block_ptr b o)) h $ move ! (3 ∷ []) $ use1 𝓛 (‵ (value_cell E b o v)) (𝓛.laws.raw_at full_share (τ E) b (o + value_at E) v) $
      move ! (0 ∷ 4 ∷ []) $ use2 𝓛 (‵ (part_at (R E) full_share x b (o + value_at E))) (el_in E 𝓛 x b (o + value_at E) v) $ fjoin ! $ move ! (2 ∷ []) $
      use1 𝓛 (‵ (count_is (block_ptr b o) n)) (uint_in 𝓛 full_share w64 n b (o + 0)) $ keep ! (0 ∷ 1 ∷ []) $ done !

module _ (E : Bx) (x : X E) {M : Type 1} {𝓤 : Ura M} (𝓛 : Logic 𝓤) (b o : ℕ) where
  -- the value in its cell with what it owns, and the allocator in its own
  abbrev Valued : Val → Item 𝓤
  Valued v = given (Good (τ E) v) (‵ (value_cell E b o v) ⊛ ‵ (own E x (v ∷ [])))

  abbrev Managed : E.al.row.Denot → Val → Item 𝓤
  Managed h hv = ‵ (alloc_cell E b o hv) ⊛ ‵ (manager E h hv)

  abbrev Sized : Val → Item 𝓤
  Sized hv = given (Fits E.al hv) (‵ (alloc_cell E b o hv))

module _ (E : Bx) (c : Ptr) (x : X E) {M : Type 1} {𝓤 : Ura M} {𝓛 : Logic 𝓤} {K : Type 0} {G : Goal 𝓤 𝓛.H} {Γ : List (Item 𝓤)} where
  -- and back: [the block; the allocator; its right; the value]
  pub joined : K → (ν : Sym) (n b o : ℕ) → c ≡ block_ptr b o
      → ((h : E.al.row.Denot) (v hv : Val) (good : Good (τ E) v) (fits : Fits E.al hv)
      → Seq K 𝓛 (‵ (fat full_share (block_ty E ν) b o (vstruct (filled E n v hv))) ∷ ‵ (manager E h hv) ∷ ‵ (frees E h (block_ptr b o)) ∷ ‵ (own E x (v ∷ [])) ∷ Γ) G)
      → Seq K 𝓛 (‵ (whole E c x) ∷ ‵ (count_cell E b o n) ∷ Γ) G
  joined t ν n b o is_at k = rewrite t 0 (λ (r : Ptr). ‵ (whole E r x)) is_at refl $ fsplit t $ move t (1 ∷ []) $ fpick t (λ h. fsplit3 t $
      use1 𝓛 (some (Managed E x 𝓛 b o h)) (part_out 𝓛 (P E) refl full_share h b (o + alloc_at E)) $ pick t (λ hv. split t $
      use1 𝓛 (Sized E x 𝓛 b o hv) (𝓛.laws.at_wt full_share (α E.al) b (o + alloc_at E) hv) $ learn t (λ fits. move t (4 ∷ []) $
      use1 𝓛 (some (Valued E x 𝓛 b o)) (el_out E 𝓛 x b (o + value_at E)) $ pick t (λ v. learn t (λ good. split t $
      -- [the value's cell; the value; the allocator's cell; the allocator; its right; the seams; the count]
      use1 𝓛 (‵ (fat full_share (bare (τ E)) b (o + value_at E) v)) (𝓛.laws.at_raw full_share (τ E) b (o + value_at E) v) $ move t (2 ∷ []) $
      use1 𝓛 (‵ (fat full_share (bare (α E.al)) b (o + alloc_at E) hv)) (𝓛.laws.at_raw full_share (α E.al) b (o + alloc_at E) hv) $
      nothing t $ move t (6 ∷ 7 ∷ 2 ∷ 1 ∷ 0 ∷ []) $ group t 5 $ let block : Val = vstruct (filled E n v hv) in
      use1 𝓛 (‵ (fat full_share (lying E) b o block)) (𝓛.laws.struct_back full_share [] (layout.fields (R E) (P E)) b o (filled E n v hv)) $
      use1 𝓛 (‵ (fat full_share (block_ty E ν) b o block)) (𝓛.laws.raw_at full_share (block_ty E ν) b o block) $ move t (0 ∷ 2 ∷ 3 ∷ 1 ∷ []) $ k h v hv good fits)))))

  -- a `&` as a parameter, with the tokens: [the pointer's word; what it holds; its token; the thread's; the others]
  pub from_ref : K → (ν : Sym) (κ : Lft) (q : Share) (b o : ℕ) (A B : Fml) (others : Item 𝓤) (needs : SProp 𝓤) → ent 𝓤 (sem 𝓛 B) (sep 𝓤 (sem 𝓛 (hidden_shr (Word E ν) κ (c, tt) b o)) (sem 𝓛 (fhide (lends E c x κ))))
      → Step K 𝓛 (‵ (hidden_shr (Word E ν) κ (c, tt) b o) ∷ ‵ (fhide (lends E c x κ)) ∷ ‵ (flft κ q) ∷ ‵ (ftok every) ∷ others ∷ Γ) G
      (((‵ (flft κ q) ⊛ others) ⊛ ‵ (fsep (fsep A B) ftrue)) ∷ (‵ (ftok every) ⊛ raw needs) ∷ Γ) G
  from_ref t ν κ q b o A B others needs is_so = step (λ next. move t (1 ∷ []) $ split t $ move t (2 ∷ []) $ split t $ split t $ move t (2 ∷ []) $ fsplit t $ fsplit t $ move t (1 ∷ []) $
      use1 𝓛 (‵ (hidden_shr (Word E ν) κ (c, tt) b o) ⊛ ‵ (fhide (lends E c x κ))) is_so $ split t $
      -- [the word; what is held; A; nothing; the token; the others; the thread's; the needs]
      move t (2 ∷ []) $ drop t $ move t (2 ∷ []) $ drop t $ move t (5 ∷ []) $ drop t $ move t (0 ∷ 1 ∷ 2 ∷ 4 ∷ []) $ next)

  -- the book is opened at its count: [the count; what lies with it; the share; what shuts the book]
  pub opened : K → Soaks G → (s : Spans) (q : Share)
      → ((n b o : ℕ) → c ≡ block_ptr b o → n < 2 ^ 64 → Seq K 𝓛 (‵ (count_cell E b o n) ∷ ‵ (remains E c x s n) ∷ ‵ (flft (loan s) q) ∷ Shuts E c x 𝓛 s ∷ Γ) G)
      → Seq K 𝓛 (‵ (noted E c x s) ∷ ‵ (flft (loan s) q) ∷ ‵ (ftok every) ∷ Γ) G
  opened t z s q k = use3 𝓛 (later (some (λ (n : ℕ). ‵ (count_is c n) ⊛ ‵ (remains E c x s n) ⊛ ‵ (flft (loan s) q) ⊛ Shuts E c x 𝓛 s)))
      (census.opens_book (page c) (count_is c) (whole E c x) (shown E c x) s 𝓛 q) $ await t z $ pick t (λ n. split t $ in_a_block t c (λ r. count_is r n) (id⊢ 𝓤 _) (λ b o is_at.
      use1 𝓛 (‵ (count_cell E b o n)) (uint_out 𝓛 full_share w64 n b (o + 0)) $ well_typed t (λ ok. move t (1 ∷ []) $ split3 t $ move t (3 ∷ []) $ k n b o is_at ok.1.fits)))

  pub shut : K → Soaks G → (s : Spans) (n b o : ℕ) → c ≡ block_ptr b o → Step K 𝓛 (‵ (ftok every) ∷ Γ) G (‵ (count_cell E b o n) ∷ ‵ (remains E c x s n) ∷ Shuts E c x 𝓛 s ∷ Γ) G
  shut t z s n b o is_at = step (λ next. use1 𝓛 (‵ (count_is (block_ptr b o) n)) (uint_in 𝓛 full_share w64 n b (o + 0)) $ rewrite t 0 (λ (r : Ptr). ‵ (count_is r n)) (sym is_at) refl $
      use3 𝓛 (later (‵ (ftok every))) (census.shuts_book (page c) (count_is c) (whole E c x) (shown E c x) s 𝓛 n) $ await t z $ next)

module _ (E : Bx) (c : Ptr) (x : X E) {M : Type 1} {𝓤 : Ura M} {𝓛 : Logic 𝓤} {K : Type 0} {G : Goal 𝓤 𝓛.H} {Γ : List (Item 𝓤)} where
  -- an owner opens its book: [the count; what lies with it; the owner's right; what shuts the book]
  pub owner_opens : K → Soaks G
      → ((s : Spans) (n b o : ℕ) → c ≡ block_ptr b o → n < 2 ^ 64 → Seq K 𝓛 (‵ (count_cell E b o n) ∷ ‵ (remains E c x s n) ∷ ‵ (mine E c x s) ∷ Shuts E c x 𝓛 s ∷ ‵ (shown E c x (loan s)) ∷ Γ) G)
      → Seq K 𝓛 (‵ (owned E c x) ∷ ‵ (ftok every) ∷ Γ) G
  owner_opens t z k = fpick t (λ s. fsplit3 t $ move t (2 ∷ []) $
      use1 𝓛 (some (λ (q : Share). ‵ (flft (loan s) q) ⊛ ‵ (fwand (flft (loan s) q) (mine E c x s)))) (census.lends_share (page c) (count_is c) (whole E c x) (shown E c x) s 𝓛) $ pick t (λ q. split t $
      move t (3 ∷ 0 ∷ 4 ∷ []) $ opened E c x t z s q (λ n b o is_at fits. move t (2 ∷ 4 ∷ []) $ use2 𝓛 (‵ (mine E c x s)) (apply∗ 𝓤 (sem 𝓛 (flft (loan s) q)) (sem 𝓛 (mine E c x s))) $
      move t (1 ∷ 2 ∷ 0 ∷ 3 ∷ []) $ k s n b o is_at fits)))

  -- the last owner closes the book, and has all of the block but its count
  pub last_out : K → Soaks G → (s : Spans) (n : ℕ) → n ≡ 0 → Step K 𝓛 (‵ (ftok every) ∷ ‵ (whole E c x) ∷ Γ) G (‵ (mine E c x s) ∷ ‵ (remains E c x s n) ∷ Shuts E c x 𝓛 s ∷ Γ) G
  last_out t z s n sole = step (λ next. use2 𝓛 (later (‵ (fdead (loan s)) ⊛ ‵ (whole E c x))) (census.ends (page c) (count_is c) (whole E c x) (shown E c x) s 𝓛 n sole) $ await t z $ split t $ move t (0 ∷ 2 ∷ []) $
      use2 𝓛 (later (‵ (ftok every))) (census.ends_book (page c) (count_is c) (whole E c x) (shown E c x) s 𝓛) $ await t z $ next)

  -- the new owner is made, the book is shut, and the `&` to the old one goes on
  pub given_out : K → Soaks G → (s : Spans) (n b o : ℕ) → c ≡ block_ptr b o → (ν : Sym) (κ : Lft) (q e : Share)
      → Step K 𝓛 (‵ (fsep ((Word E ν).own_val (c, tt) (word c ∷ [])) (owned E c x)) ∷ ‵ (flft κ q) ∷ ‵ (ftok every) ∷ Γ) G
      (‵ (count_cell E b o n) ∷ ‵ (remains E c x s n) ∷ ‵ (mine E c x s) ∷ ‵ (flft (loan s) e) ∷ Shuts E c x 𝓛 s ∷ ‵ (noted E c x s) ∷ ‵ (fobor κ q (flft (loan s) e)) ∷ ‵ (shown E c x (loan s)) ∷ Γ) G
  given_out t z s n b o is_at ν κ q e = step (λ next. move t (0 ∷ 1 ∷ 4 ∷ []) $ shut E c x t z s n b o is_at $ move t (4 ∷ 2 ∷ []) $ obor_close t z $ drop t $
      move t (4 ∷ 3 ∷ 2 ∷ []) $ fjoin3 t $ fpack t Spans (owner_of (page c) (count_is c) (whole E c x) (shown E c x)) s $ word_made E ν c t $ fjoin t $ next)
