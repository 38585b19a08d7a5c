-- How owners come and go, by the words of `specs/Inside/Tally.antt`.
use mathlib.Core.Path.{◌≡◌, refl, subst}
use mathlib.Core.Logic.{inl, inr}
use mathlib.Core.Bool.{Bool, true, false}
use mathlib.Core.Option.{Option, none, some}
use mathlib.Core.List.{[], ◌∷◌}
use Prim.Native.Nat.{ℕ, ◌+◌, ◌-◌, ◌<◌}
use native.Mathlib.Omega.{arith}
use seplogic.Ra.Ura.{Ura}
use lib.Dec.{lit<}
use base.Fraction.{full_share}
use base.FractionLaws.{Counts-all}
use base.Share
use base.Logic.{SProp, ent, sep, wand, ex, via, never, never_e, apply∗}
use base.Fml.{Lft, Key, Share, Fml, fsep, fex, fwand, fdead, flft, ftok}
use base.Mask.{every, just, less, take}
use contract.BorrowLft.{meet_⊑_left, meet_⊑_right}
use denote.Struct.Lending.{Lends}
use types.Logic.{Logic, sem}
use types.Kit.{‵, ◌⊛◌, raw, later, ◌$◌, ◌∵◌, !, qed, by, move, keep, use1, use2, split, split3, group, fsplit, fsplit3, fjoin, fjoin3, fpick, fpack, show, frame, assume, await, updating, now, done}
use types.Tokens.{lft_new, lft_end, bor_new, lent_back}
use types.Na.{na_inv, na_inv_new, na_inv_acc}
use types.RcWeak.{part, rest, part_in, cut, takes, gives, whole}
use Rattle.std.proofs.Math.Nat.{eq-or-lt_of_le}
use Rattle.vt_shared.specs.Inside.Tally.{most, Spans, loan, census, uncounted, right, Stage, behind, tally, book, owner, owner_of}

module _ (k : Key) (count : ℕ → Fml) (P : Fml) (seen : Lft → Fml) (s : Spans) where
  -- what makes an owner
  abbrev pub mine : Fml
  mine = fex Bool (right s)

  -- what lies with the count n
  abbrev pub remains : ℕ → Fml
  remains n = fex (Stage n) (behind k count P seen s n)

  abbrev pub pages : Fml
  pages = book k count P seen s

  -- an owner's share of the loan, and what it is worth
  abbrev pub on_loan : Share → Fml
  on_loan q = fsep (flft (loan s) q) (fwand (flft (loan s) q) mine)

  module _ {M : Type 1} {𝓤 : Ura M} (𝓛 : Logic 𝓤) where
    open 𝓛 use {H, A}

    abbrev ◌⊩◌ : Fml → Fml → Type 1
    F ⊩ G = ent 𝓤 (sem 𝓛 F) (sem 𝓛 G)

    abbrev ◌⊩⇛◌ : Fml → Fml → Type 1
    F ⊩⇛ G = ent 𝓤 (sem 𝓛 F) (H.⇛ (sem 𝓛 G))

    infix 26 ◌⊩◌
    infix 26 ◌⊩⇛◌
    -- no lifetime is over while some of its token is at hand
    still_on : (κ : Lft) (q : Share) {X : SProp 𝓤} → ent 𝓤 (sem 𝓛 (fsep (flft κ q) (fdead κ))) X
    still_on κ q {X} = via 𝓤 (never 𝓤) (𝓛.lfts.lft-dead κ q) (never_e 𝓤 X)

    rises : (n : ℕ) (low : n < most) → behind k count P seen s n (inr low) ⊩ remains n
    rises n low = qed 𝓛 (‵ (behind k count P seen s n (inr low)) ∷ []) ∵ fpack ! (Stage n) (behind k count P seen s n) (inr low) $ done !

    stands : (n : ℕ) → n ≡ most → uncounted s ⊩ remains n
    stands n at = qed 𝓛 (‵ (uncounted s) ∷ []) ∵ fpack ! (Stage n) (behind k count P seen s n) (inl at) $ done !

    any_share : (q : Share) → fsep (flft (loan s) q) (fdead (census s)) ⊩ uncounted s
    any_share q = qed 𝓛 (‵ (flft (loan s) q) ∷ ‵ (fdead (census s)) ∷ []) ∵ fpack ! Share (λ e. flft (loan s) e) q $ fjoin ! $ done !

    -- what is left to the uncounted serves one more of them
    twice : uncounted s ⊩ fsep (uncounted s) (uncounted s)
    twice = qed 𝓛 (‵ (uncounted s) ∷ []) ∵ fsplit ! $ fpick ! (λ q.
        use1 𝓛 (‵ (flft (loan s) (Share.left q)) ⊛ ‵ (flft (loan s) (Share.right q))) (𝓛.lfts.lft_split (loan s) q) $ split ! $ move ! (2 ∷ []) $
        use1 𝓛 (‵ (fdead (census s)) ⊛ ‵ (fdead (census s))) (𝓛.lfts.dead_dup (census s)) $ split ! $
        move ! (2 ∷ 0 ∷ []) $ use2 𝓛 (‵ (uncounted s)) (any_share (Share.left q)) $ move ! (2 ∷ 1 ∷ []) $ use2 𝓛 (‵ (uncounted s)) (any_share (Share.right q)) $ done !)

    lends_by : (b : Bool) → right s b ⊩ fex Share on_loan
    lends_by true = qed 𝓛 (‵ (right s true) ∷ []) ∵ fpick ! (λ q. fpick ! (λ one.
        show ! (λ e. sem 𝓛 (on_loan e)) q $ frame ! $ assume ! (‵ (flft (loan s) q)) $ use1 𝓛 (‵ (part 64 s.0)) (part_in 64 𝓛 s.0 q one) $ fpack ! Bool (right s) true $ done !))
    lends_by false = qed 𝓛 (‵ (right s false) ∷ []) ∵ fsplit ! $ fpick ! (λ q.
        show ! (λ e. sem 𝓛 (on_loan e)) q $ frame ! $ assume ! (‵ (flft (loan s) q)) $ use2 𝓛 (‵ (uncounted s)) (any_share q) $ fpack ! Bool (right s) false $ done !)

    pub lends_share : mine ⊩ fex Share on_loan
    lends_share = qed 𝓛 (‵ mine ∷ []) ∵ fpick ! (λ b. by ! (lends_by b))

    pub takes_back : (q : Share) → on_loan q ⊩ mine
    takes_back q = qed 𝓛 (‵ (on_loan q) ∷ []) ∵ fsplit ! $ by ! (apply∗ 𝓤 (sem 𝓛 (flft (loan s) q)) (sem 𝓛 mine))

    -- one owner more. The last that the count has room for ends the census
    grows : (n : ℕ) (low : n < most) → Stage (n + 1) → behind k count P seen s n (inr low) ⊩⇛ fsep (remains (n + 1)) mine
    grows n low (inr on) = qed 𝓛 (‵ (behind k count P seen s n (inr low)) ∷ []) ∵ updating ! $ fsplit3 ! $ move ! (1 ∷ []) $
        use1 𝓛 (‵ (rest 64 s.0 (n + 1 + 1)) ⊛ ‵ (part 64 s.0)) (takes 64 𝓛 s.0 (n + 1) (omega arith)) $ split ! $ move ! (1 ∷ []) $ fpack ! Bool (right s) true $
        move ! (2 ∷ 1 ∷ 3 ∷ []) $ fjoin3 ! $ use1 𝓛 (‵ (remains (n + 1))) (rises (n + 1) on) $ now ! $ done !
    grows n low (inl at) = qed 𝓛 (‵ (behind k count P seen s n (inr low)) ∷ []) ∵ updating ! $ fsplit3 ! $ lft_end ! tt $ move ! (1 ∷ []) $ fpick ! (λ q. fpick ! (λ _.
        use2 𝓛 (‵ (uncounted s)) (any_share q) $ use1 𝓛 (‵ (uncounted s) ⊛ ‵ (uncounted s)) twice $ split ! $
        use1 𝓛 (‵ (remains (n + 1))) (stands (n + 1) at) $ move ! (1 ∷ []) $ fpack ! Bool (right s) false $ now ! $ keep ! (1 ∷ 0 ∷ []) $ done !))

    comes_at : (n : ℕ) → n < most → (t : Stage n) → behind k count P seen s n t ⊩⇛ fsep (remains (n + 1)) mine
    comes_at n below (inl at) = absurd (omega arith)
    comes_at n below (inr low) = grows n low (eq-or-lt_of_le (omega arith))

    pub comes : (n : ℕ) → n < most → remains n ⊩⇛ fsep (remains (n + 1)) mine
    comes n below = qed 𝓛 (‵ (remains n) ∷ []) ∵ fpick ! (λ t. by ! (comes_at n below t))

    joins_at : (n : ℕ) → n ≡ most → (t : Stage n) → behind k count P seen s n t ⊩ fsep (remains n) mine
    joins_at n full (inr low) = absurd (omega arith)
    joins_at n full (inl at) = qed 𝓛 (‵ (uncounted s) ∷ []) ∵ use1 𝓛 (‵ (uncounted s) ⊛ ‵ (uncounted s)) twice $ split ! $
        fpack ! Bool (right s) false $ move ! (1 ∷ []) $ use1 𝓛 (‵ (remains n)) (stands n at) $ done !

    -- one owner more where nobody is counted
    pub joins : (n : ℕ) → n ≡ most → remains n ⊩ fsep (remains n) mine
    joins n full = qed 𝓛 (‵ (remains n) ∷ []) ∵ fpick ! (λ t. by ! (joins_at n full t))

    goes_at : (n : ℕ) → 0 < n → n < most → (t : Stage n) (b : Bool) → fsep (right s b) (behind k count P seen s n t) ⊩ remains (n - 1)
    goes_at n some' below (inl at) b = absurd (omega arith)
    goes_at n some' below (inr low) true =
        let given_back = subst (λ (m : ℕ). fsep (rest 64 s.0 (n + 1)) (part 64 s.0) ⊩ rest 64 s.0 m) {x = n + 1 - 1} {y = n - 1 + 1} (omega arith) (gives 64 𝓛 s.0 (n + 1) (omega arith)) in
        qed 𝓛 (‵ (part 64 s.0) ∷ ‵ (behind k count P seen s n (inr low)) ∷ []) ∵ move ! (1 ∷ []) $ fsplit3 ! $ move ! (1 ∷ 3 ∷ []) $
        use2 𝓛 (‵ (rest 64 s.0 (n - 1 + 1))) given_back $ move ! (1 ∷ 0 ∷ []) $ fjoin3 ! $ by ! (rises (n - 1) (omega arith))
    goes_at n some' below (inr low) false = qed 𝓛 (‵ (uncounted s) ∷ ‵ (behind k count P seen s n (inr low)) ∷ []) ∵ fsplit ! $ move ! (2 ∷ []) $ fsplit3 ! $
        keep ! (0 ∷ 4 ∷ []) $ by ! (still_on (census s) full_share)

    -- one owner fewer, of several
    pub goes : (n : ℕ) → 0 < n → n < most → fsep mine (remains n) ⊩ remains (n - 1)
    goes n some' below = qed 𝓛 (‵ mine ∷ ‵ (remains n) ∷ []) ∵ fpick ! (λ b. move ! (1 ∷ []) $ fpick ! (λ t. move ! (1 ∷ 0 ∷ []) $ by ! (goes_at n some' below t b)))

    ends_at : (n : ℕ) → n ≡ 0 → (t : Stage n) (b : Bool) → fsep (right s b) (behind k count P seen s n t) ⊩⇛ fsep (fdead (loan s)) P
    ends_at n sole (inl at) b = absurd (omega arith)
    ends_at n sole (inr low) true =
        let all_of_it = subst (λ (m : ℕ). fsep (rest 64 s.0 m) (part 64 s.0) ⊩ flft (loan s) full_share) {x = 1} {y = n + 1} (omega arith) (whole 64 𝓛 s.0) in
        qed 𝓛 (‵ (part 64 s.0) ∷ ‵ (behind k count P seen s n (inr low)) ∷ []) ∵ updating ! $ move ! (1 ∷ []) $ fsplit3 ! $ move ! (1 ∷ 3 ∷ []) $
        use2 𝓛 (‵ (flft (loan s) full_share)) all_of_it $ lft_end ! tt $ use1 𝓛 (‵ (fdead (loan s)) ⊛ ‵ (fdead (loan s))) (𝓛.lfts.dead_dup (loan s)) $ split ! $
        move ! (0 ∷ 3 ∷ []) $ lent_back ! tt $ now ! $ keep ! (1 ∷ 0 ∷ []) $ done !
    ends_at n sole (inr low) false = qed 𝓛 (‵ (uncounted s) ∷ ‵ (behind k count P seen s n (inr low)) ∷ []) ∵ fsplit ! $ move ! (2 ∷ []) $ fsplit3 ! $
        keep ! (0 ∷ 4 ∷ []) $ by ! (still_on (census s) full_share)

    -- the last owner ends the loan
    pub ends : (n : ℕ) → n ≡ 0 → fsep mine (remains n) ⊩⇛ fsep (fdead (loan s)) P
    ends n sole = qed 𝓛 (‵ mine ∷ ‵ (remains n) ∷ []) ∵ fpick ! (λ b. move ! (1 ∷ []) $ fpick ! (λ t. move ! (1 ∷ 0 ∷ []) $ by ! (ends_at n sole t b)))

    -- what shuts the open book, and the book opened at a count
    abbrev pub Shut : SProp 𝓤
    Shut = wand 𝓤 (sem 𝓛 pages) (H.⇛ (A.tok every))

    abbrev pub Page : Share → ℕ → SProp 𝓤
    Page q n = sep 𝓤 (sem 𝓛 (count n)) (sep 𝓤 (sem 𝓛 (remains n)) (sep 𝓤 (A.lft (loan s) q) Shut))

    abbrev Hatch : SProp 𝓤
    Hatch = wand 𝓤 (sem 𝓛 pages) (H.⇛ (A.tok (just k)))

    hatched : ent 𝓤 (sep 𝓤 Hatch (A.tok (less every k))) Shut
    hatched = qed 𝓛 (raw Hatch ∷ ‵ (ftok (less every k)) ∷ []) ∵ assume ! (‵ pages) $ updating ! $
        use2 𝓛 (later (‵ (ftok (just k)))) (apply∗ 𝓤 (sem 𝓛 pages) (H.⇛ (A.tok (just k)))) $ await ! tt $ now ! $ by ! (𝓛.invs.tok_glue every (just k) (less every k) (take every k refl))

    at_page : (q : Share) (o : Option ℕ) → ent 𝓤 (sep 𝓤 (sem 𝓛 (tally k count P seen s o)) (sep 𝓤 Shut (A.lft (loan s) q))) (ex 𝓤 (Page q))
    at_page q none = qed 𝓛 (‵ (fdead (loan s)) ∷ raw Shut ∷ ‵ (flft (loan s) q) ∷ []) ∵ keep ! (2 ∷ 0 ∷ []) $ by ! (still_on (loan s) q)
    at_page q (some n) = qed 𝓛 (‵ (tally k count P seen s (some n)) ∷ raw Shut ∷ ‵ (flft (loan s) q) ∷ []) ∵ fsplit ! $ show ! (Page q) n $ move ! (1 ∷ 0 ∷ 3 ∷ 2 ∷ []) $ done !

    pub opens_book : (q : Share) → ent 𝓤 (sep 𝓤 (sem 𝓛 (na_inv k pages)) (sep 𝓤 (A.lft (loan s) q) (A.tok every))) (H.⇛ (ex 𝓤 (Page q)))
    opens_book q = qed 𝓛 (‵ (na_inv k pages) ∷ ‵ (flft (loan s) q) ∷ ‵ (ftok every) ∷ []) ∵ updating ! $ move ! (2 ∷ []) $
        use1 𝓛 (‵ (ftok (just k)) ⊛ ‵ (ftok (less every k))) (𝓛.invs.tok_cut every (just k) (less every k) (take every k refl)) $ split ! $ move ! (2 ∷ 0 ∷ []) $
        use2 𝓛 (later (‵ pages ⊛ raw Hatch)) (na_inv_acc 𝓛 k pages) $ await ! tt $ split ! $ move ! (1 ∷ 2 ∷ []) $ use2 𝓛 (raw Shut) hatched $ now ! $
        move ! (1 ∷ []) $ fpick ! (λ o. by ! (at_page q o))

    pub shuts_book : (n : ℕ) → ent 𝓤 (sep 𝓤 (sem 𝓛 (count n)) (sep 𝓤 (sem 𝓛 (remains n)) Shut)) (H.⇛ (A.tok every))
    shuts_book n = qed 𝓛 (‵ (count n) ∷ ‵ (remains n) ∷ raw Shut ∷ []) ∵ move ! (1 ∷ 0 ∷ []) $ fjoin ! $ fpack ! (Option ℕ) (tally k count P seen s) (some n) $ by ! (apply∗ 𝓤 (sem 𝓛 pages) (H.⇛ (A.tok every)))

    pub ends_book : ent 𝓤 (sep 𝓤 (A.dead (loan s)) Shut) (H.⇛ (A.tok every))
    ends_book = qed 𝓛 (‵ (fdead (loan s)) ∷ raw Shut ∷ []) ∵ fpack ! (Option ℕ) (tally k count P seen s) none $ by ! (apply∗ 𝓤 (sem 𝓛 pages) (H.⇛ (A.tok every)))

module _ (k : Key) (count : ℕ → Fml) (P : Fml) (seen : Lft → Fml) {M : Type 1} {𝓤 : Ura M} (𝓛 : Logic 𝓤) where
  open 𝓛 use {H, A}

  -- the first owner lends what is to be seen, while κ lives
  pub begins : (κ : Lft) (q : Share) → Lends 𝓛 P seen κ → ent 𝓤 (sep 𝓤 (sem 𝓛 (count 0)) (sep 𝓤 (sem 𝓛 P) (A.lft κ q))) (H.⇛ (sep 𝓤 (sem 𝓛 (owner k count P seen)) (A.lft κ q)))
  begins κ q lends = qed 𝓛 (‵ (count 0) ∷ ‵ P ∷ ‵ (flft κ q) ∷ []) ∵ updating ! $ lft_new ! tt (λ μ. lft_new ! tt (λ ν.
      let s : Spans = (ν, μ) in
      use1 𝓛 (‵ (rest 64 ν 1) ⊛ ‵ (part 64 ν)) (cut 64 𝓛 ν 0 full_share (lit< tt) (Counts-all 64)) $ split ! $ move ! (4 ∷ []) $ bor_new ! tt (loan s) $
      -- [the loan; the way back; the other parts; the owner's part; the census; the count; the token]
      move ! (4 ∷ 2 ∷ 1 ∷ []) $ fjoin3 ! $ use1 𝓛 (‵ (remains k count P seen s 0)) (rises k count P seen s 𝓛 0 (lit< tt)) $ move ! (0 ∷ 3 ∷ []) $ fjoin ! $
      fpack ! (Option ℕ) (tally k count P seen s) (some 0) $ use1 𝓛 (later (‵ (na_inv k (book k count P seen s)))) (na_inv_new 𝓛 k (book k count P seen s)) $ await ! tt $
      -- [the book; the loan; the owner's part; the token]
      move ! (2 ∷ []) $ fpick ! (λ e. fpick ! (λ one. move ! (0 ∷ 3 ∷ []) $ group ! 2 $ move ! (2 ∷ 0 ∷ []) $
      use2 𝓛 (later (‵ (seen (loan s)) ⊛ ‵ (flft (loan s) e) ⊛ ‵ (flft κ q))) (lends (loan s) ((loan s, e) ∷ (κ, q) ∷ []) (meet_⊑_right (loan s) κ) (meet_⊑_left (loan s) κ)) $ await ! tt $ split3 ! $
      move ! (1 ∷ []) $ use1 𝓛 (‵ (part 64 ν)) (part_in 64 𝓛 ν e one) $ fpack ! Bool (right s) true $ move ! (1 ∷ 3 ∷ 0 ∷ []) $ fjoin3 ! $
      fpack ! Spans (owner_of k count P seen) s $ now ! $ done !))))
