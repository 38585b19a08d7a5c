-- What is lent of an owner, whatever it owns.
use mathlib.Core.List.{[], ◌∷◌}
use Prim.Native.Nat.{ℕ}
use seplogic.Ra.Ura.{Ura}
use base.Logic.{SProp, ent, sep, wand, apply∗}
use base.Fml.{Lft, Key, Share, Fml, fsep, fex, fwand, fbor, flft}
use contract.BorrowLft.{meet_⊑_left}
use denote.Hidden.{kept, kept_shr_laws}
use denote.Moves.{moves_from}
use denote.Model.Laws.{Lends-as, Lends-some}
use denote.Sharing.{ShrLaws, one, beside, held}
use denote.Sharing as sharing
use denote.SharingLaws.{contraction, some_shr_laws, beside_shr_laws, one_shr_laws, held_shr_laws}
use denote.Struct.Lending.{Lends, Lends-first, Lends-both}
use types.Logic.{Logic, sem, lfts}
use types.Kit.{‵, ◌⊛◌, raw, later, ◌$◌, ◌∵◌, !, qed, by, move, keep, use1, use2, split, fsplit, fsplit3, fpick, await, updating, now, done}
use types.Na.{na_inv, na_inv_dup}
use types.Tokens.{bor_fracture}
use Rattle.vt_shared.specs.Inside.Tally.{Spans, loan, book, owner, owner_of, lent, lent_of}
use Rattle.vt_shared.proofs.Census.{mine, on_loan, lends_share, takes_back}

module _ (k : Key) (count : ℕ → Fml) (P : Fml) (seen : Lft → Fml) (laws : ShrLaws seen) where
  pub lent_laws : ShrLaws (lent k count P seen)
  lent_laws = some_shr_laws Spans (lent_of k count P seen) (λ s. beside_shr_laws _ _ (held_shr_laws (loan s) seen laws)
      (beside_shr_laws _ _ (kept_shr_laws k (book k count P seen s)) (one_shr_laws (λ q. flft (loan s) q))))

  module _ {M : Type 1} {𝓤 : Ura M} (𝓛 : Logic 𝓤) where
    open 𝓛 use {H, A}

    -- a `&` to an owner shows what all owners see
    pub sees : (κ : Lft) → ent 𝓤 (sem 𝓛 (lent k count P seen κ)) (sem 𝓛 (seen κ))
    sees κ = qed 𝓛 (‵ (lent k count P seen κ) ∷ []) ∵ fpick ! (λ s. fsplit3 ! $ keep ! (2 ∷ 0 ∷ []) $ by ! (moves_from 𝓛 seen laws κ (loan s) (loan s) (meet_⊑_left (loan s) κ)))

    module _ (l : Lft) where
      -- of what can be had twice, one is lent and the other goes back
      Lends-spare : (F : Fml) → ent 𝓤 (sem 𝓛 F) (sem 𝓛 (fsep F F)) → Lends 𝓛 F (λ _. F) l
      Lends-spare F twice κ ts _ alive =
          let Back : SProp 𝓤 = wand 𝓤 (sem 𝓛 F) (H.⇛ (sep 𝓤 (A.bor κ F) (lfts 𝓛 ts))) in
          qed 𝓛 (‵ (fbor κ F) ∷ raw (lfts 𝓛 ts) ∷ []) ∵ updating ! $ use2 𝓛 (later (‵ F ⊛ raw Back)) (𝓛.more.bor_acc_by κ ts F alive) $ await ! tt $ split ! $
          use1 𝓛 (‵ (fsep F F)) twice $ fsplit ! $ move ! (1 ∷ 2 ∷ []) $ use2 𝓛 (later (‵ (fbor κ F) ⊛ raw (lfts 𝓛 ts))) (apply∗ 𝓤 (sem 𝓛 F) (H.⇛ (sep 𝓤 (A.bor κ F) (lfts 𝓛 ts)))) $ await ! tt $
          split ! $ now ! $ keep ! (2 ∷ 1 ∷ []) $ done !

      module _ (s : Spans) where
        abbrev token : Lft → Fml
        token = one (λ q. flft (loan s) q)

        abbrev right_of : Fml
        right_of = mine k count P seen s

        Lends-share : (e : Share) → Lends 𝓛 (flft (loan s) e) token l
        Lends-share e κ ts _ alive = qed 𝓛 (‵ (fbor κ (flft (loan s) e)) ∷ raw (lfts 𝓛 ts) ∷ []) ∵ updating ! $ bor_fracture ! tt (λ q. flft (loan s) q) e $ now ! $ done !

        back : ent 𝓤 (sem 𝓛 (fex Share (on_loan k count P seen s))) (sem 𝓛 right_of)
        back = qed 𝓛 (‵ (fex Share (on_loan k count P seen s)) ∷ []) ∵ fpick ! (λ e. by ! (takes_back k count P seen s 𝓛 e))

        -- whatever share an owner has, its token is shared out
        Lends-right : Lends 𝓛 right_of (sharing.some Share (λ _. token)) l
        Lends-right = Lends-as 𝓛 right_of (fex Share (on_loan k count P seen s)) (sharing.some Share (λ _. token)) l (lends_share k count P seen s 𝓛) back
            (Lends-some 𝓛 Share (on_loan k count P seen s) (λ _. token) l (λ e. Lends-first 𝓛 (flft (loan s) e) (fwand (flft (loan s) e) right_of) token l (Lends-share e)))

        Lends-token : Lends 𝓛 right_of token l
        Lends-token κ ts below alive = qed 𝓛 (‵ (fbor κ right_of) ∷ raw (lfts 𝓛 ts) ∷ []) ∵ updating ! $
            use2 𝓛 (later (‵ (sharing.some Share (λ _. token) κ) ⊛ raw (lfts 𝓛 ts))) (Lends-right κ ts below alive) $ await ! tt $ split ! $ now ! $ fpick ! (λ _. done !)

        Lends-one : Lends 𝓛 (owner_of k count P seen s) (lent_of k count P seen s) l
        Lends-one = Lends-both 𝓛 (seen (loan s)) (fsep (na_inv k (book k count P seen s)) right_of) (held (loan s) seen) (beside (kept k (book k count P seen s)) token) l (Lends-spare (seen (loan s)) (contraction 𝓛 seen laws (loan s)))
            (Lends-both 𝓛 (na_inv k (book k count P seen s)) right_of (kept k (book k count P seen s)) token l (Lends-spare (na_inv k (book k count P seen s)) (na_inv_dup 𝓛 k (book k count P seen s))) Lends-token)

      pub Lends-owner : Lends 𝓛 (owner k count P seen) (lent k count P seen) l
      Lends-owner = Lends-some 𝓛 Spans (owner_of k count P seen) (lent_of k count P seen) l Lends-one
