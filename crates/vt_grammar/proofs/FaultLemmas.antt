-- The four laws of a grammar where the next token decides.
use Rattle.std.proofs.Common.{ℕ, zero, suc, ◌≡◌, ◌≤◌, ◌<◌, ◌⊎◌, inl, inr, true, false, not, List, [], ◌∷◌, ◌++◌, length, take, drop, Option, Some, None, Ok, Err, refl, sym, ◌∙◌, ap, subst, arith, append_assoc, length-append, if◌then◌else◌}
use Rattle.vt_grammar.specs.declared.lexeme.Lexeme.{Lexeme}
use Rattle.vt_grammar.specs.declared.symbol.Symbol.{Symbol}
use Rattle.vt_grammar.specs.Grammar.{Grammar, nothing, token, seq, alt, star, made, balanced, Spells, SpellsAll, IsPart, still_open, step}
use Rattle.vt_grammar.specs.Reading.{Read, ◌>>=◌, is_empty, first, more, apart, is_decided, starts, many, read}
use Rattle.vt_grammar.proofs.Exact.{Exact, Outcome}
use Rattle.vt_grammar.specs.Fault.{IsFault}
use Rattle.vt_grammar.proofs.PartLemmas.{append_nil, spells_part, none_open}
use Rattle.vt_grammar.proofs.ExactLemmas.{ok_same, not_ok}
use Rattle.vt_grammar.proofs.RepetitionLemmas.{shorter, shorter_read}
use Rattle.vt_grammar.proofs.ReadingLemmas.{exact}
use Rattle.vt_facts.proofs.BoolLemmas.{and_left, and_right, not_true}

-- a front of two joined lists is a front of the first, or the first and a front of the second
record Overlap (p q front back : List Lexeme) : Type 0 where
  middle : List Lexeme
  which : ((front ≡ p ++ middle)) ⊎ ((p ≡ front ++ middle) × (back ≡ middle ++ q))

-- of two ways to cut a list, one cuts it farther on
overlap : (p q front back : List Lexeme) → p ++ q ≡ front ++ back → Overlap p q front back
overlap p q [] back e = record { middle = p; which = inr (refl, sym e) }
overlap [] q (t ∷ front) back e = record { middle = t ∷ front; which = inl refl }
overlap (u ∷ p) q (t ∷ front) back e =
    let same : u ≡ t = cc (e) in
    let rest : p ++ q ≡ front ++ back = cc (e) in
    go same (overlap p q front back rest)
  where
    go : u ≡ t → Overlap p q front back → Overlap (u ∷ p) q (t ∷ front) back
    go s o = record {
      middle = o.middle;
      which = elim o.which [
        | inl h ↦ inl (cc)
        | inr h ↦ inr (cc, h.1)
      ];
    }

-- each front of a part is a part
all_front : {A : Type 0} (a : Grammar A) (p q front back : List Lexeme) (xs : List A)
    → ((p q : List Lexeme) → IsPart a (p ++ q) → IsPart a p)
    → p ++ q ≡ front ++ back → SpellsAll (Spells a) front xs → IsPart a back
    → IsPart (star a) p
all_front a p q front back [] fronts e h k =
    let same : p ++ q ≡ back = e ∙ ap (λ (l : List Lexeme). l ++ back) h in
    inr ([], record { front = []; back = p; whole = refl; first = refl; second = fronts p q (subst (IsPart a) (sym same) k) })
all_front {A} a p q front back (x ∷ xs) fronts e h k =
    let e' : p ++ q ≡ h.front ++ (h.back ++ back) = e ∙ ap (λ (l : List Lexeme). l ++ back) h.whole ∙ append_assoc h.front h.back back in
    let o = overlap p q h.front (h.back ++ back) e' in
    go o.middle o.which (λ r w. all_front a o.middle q h.back back xs fronts w h.second k)
  where
    go : (m : List Lexeme) → (h.front ≡ p ++ m) ⊎ ((p ≡ h.front ++ m) × (h.back ++ back ≡ m ++ q)) → (ℕ → m ++ q ≡ h.back ++ back → IsPart (star a) m) → IsPart (star a) p
    go m (inl w) ih = inr ([], record { front = []; back = p; whole = refl; first = refl; second = fronts p m (subst (IsPart a) w (spells_part a h.front x h.first)) })
    go m (inr w) ih = grow (ih 0 (sym w.1))
      where
        grow : IsPart (star a) m → IsPart (star a) p
        grow (inl z) = inr ([], record { front = []; back = p; whole = refl; first = refl; second = subst (IsPart a) (append_nil h.front ∙ ap (λ (l : List Lexeme). h.front ++ l) (sym z) ∙ sym w.0) (spells_part a h.front x h.first) })
        grow (inr z) = inr (
          x ∷ z.0,
          record {
            front = h.front ++ z.1.front;
            back = z.1.back;
            whole = w.0 ∙ ap (λ (l : List Lexeme). h.front ++ l) z.1.whole ∙ sym (append_assoc h.front z.1.front z.1.back);
            first = record { front = h.front; back = z.1.front; whole = refl; first = h.first; second = z.1.first };
            second = z.1.second;
          },
        )

-- what is to be closed is known after each front
open_front : (st : List Symbol) (p q : List Lexeme) (s : List Symbol) → still_open (Some st) (p ++ q) ≡ Some s → (r : List Symbol) × (still_open (Some st) p ≡ Some r)
open_front st [] q s h = (st, refl)
open_front st (t ∷ p) q s h = go (λ n s k. open_front n p q s k) (step st t.symbol) refl
  where
    go : ((n s : List Symbol) → still_open (Some n) (p ++ q) ≡ Some s → (r : List Symbol) × (still_open (Some n) p ≡ Some r)) → (o : Option (List Symbol)) → step st t.symbol ≡ o → (r : List Symbol) × (still_open (step st t.symbol) p ≡ Some r)
    go ih None e =
        let k : still_open (step st t.symbol) (p ++ q) ≡ still_open None (p ++ q) = ap (λ o. still_open o (p ++ q)) e in
        let m = none_open (p ++ q) in
        absurd (let c : ⊥ = cc (h, k, m) in c)
    go ih (Some n) e =
        let k : still_open (Some n) (p ++ q) ≡ Some s = ap (λ o. still_open o (p ++ q)) (sym e) ∙ h in
        let r = ih n s k in
        (r.0, ap (λ o. still_open o p) e ∙ r.1)

-- each front of a part is a part
pub part_front : {A : Type 0} (g : Grammar A) (p q : List Lexeme) → IsPart g (p ++ q) → IsPart g p
part_front nothing [] q h = refl
part_front nothing (t ∷ p) q h = cc
part_front (token k) [] q h = inl refl
part_front (token k) (t ∷ p) q (inl h) = cc
part_front (token k) (t ∷ []) q (inr h) = let same : h.0 ≡ t = cc (h.1) in inr (t, refl, subst (λ v. v.symbol ≡ k) same h.2)
part_front (token k) (t ∷ u ∷ p) q (inr h) = cc (h.1)
part_front (seq a b) p q (inl h) = inl (part_front a p q h)
part_front (seq a b) p q (inr h) =
    let o = overlap p q h.1.front h.1.back h.1.whole in
    elim o.which [
      | inl w ↦ inl (part_front a p o.middle (subst (IsPart a) w (spells_part a h.1.front h.0 h.1.first)))
      | inr w ↦ inr (h.0, record { front = h.1.front; back = o.middle; whole = w.0; first = h.1.first; second = part_front b o.middle q (subst (IsPart b) w.1 h.1.second) })
    ]
part_front (alt a b) p q (inl h) = inl (part_front a p q h)
part_front (alt a b) p q (inr h) = inr (part_front b p q h)
part_front (star a) [] q (inl h) = inl refl
part_front (star a) (t ∷ p) q (inl h) = cc
part_front (star a) p q (inr h) = all_front a p q h.1.front h.1.back h.0 (part_front a) h.1.whole h.1.first h.1.second
part_front (made f a) p q h = part_front a p q h
part_front balanced p q h = open_front [] p q h.0 h.1

-- so many lexemes of a front are a front of it
take_front : (p q : List Lexeme) (j : ℕ) → j ≤ length p → (r : List Lexeme) × (p ≡ take j (p ++ q) ++ r)
take_front p q zero l = (p, refl)
take_front [] q (suc j) l = absurd (omega arith)
take_front (t ∷ p) q (suc j) l =
    let r = take_front p q j (omega arith) in
    (r.0, ap (λ (l : List Lexeme). t ∷ l) r.1)

-- so many lexemes are that many, and the rest is behind them
take_next : (p q : List Lexeme) (j : ℕ) → j ≤ length (p ++ q) → (length (take j (p ++ q)) ≡ j) × ((p ++ q) ≡ take j (p ++ q) ++ drop j (p ++ q))
take_next p q j l = go (p ++ q) j l
  where
    go : (ls : List Lexeme) (j : ℕ) → j ≤ length ls → (length (take j ls) ≡ j) × (ls ≡ take j ls ++ drop j ls)
    go ls zero l = (refl, refl)
    go [] (suc j) l = absurd (omega arith)
    go (t ∷ ls) (suc j) l = let r = go ls j (omega arith) in (ap suc r.0, ap (λ (l : List Lexeme). t ∷ l) r.1)

module _ {A : Type 0} (g : Grammar A) (d : is_decided g ≡ true) where
  -- what is spelled is read, all of it
  pub spelled_read : (ls : List Lexeme) (x : A) → Spells g ls x → read g ls ≡ Ok (x, [])
  spelled_read ls x h = (exact g d ls).only ls [] x h (append_nil ls) refl

  -- what is read to the end is spelled
  pub read_spelled : (ls : List Lexeme) (x : A) → read g ls ≡ Ok (x, []) → Spells g ls x
  read_spelled ls x h =
      let e = exact g d ls in
      let o = subst (Outcome g e.seen e.left) h e.outcome in
      subst (λ (l : List Lexeme). Spells g l x) (append_nil e.seen ∙ ap (λ (l : List Lexeme). e.seen ++ l) o.1 ∙ sym e.whole) o.0

  -- lexemes spell at most one value
  pub one_tree : (ls : List Lexeme) (x y : A) → Spells g ls x → Spells g ls y → x ≡ y
  one_tree ls x y h k = ap (λ (z : A × List Lexeme). z.0) (ok_same (x, []) (y, []) (sym (spelled_read ls x h) ∙ spelled_read ls y k))

  -- where the lexemes are not read to the end, the fault stands behind what was seen
  fault_from : (ls : List Lexeme) (r : Read A) (e : Exact g ls r) → ((x : A) → r ≡ Ok (x, []) → ⊥) → IsFault g ls (length e.left)
  fault_from ls r e bad = record {
    at = length e.seen;
    place = sym (ap length e.whole ∙ length-append e.seen e.left);
    before = λ j l. (let f = take_front e.seen e.left j l in subst (λ (us : List Lexeme). IsPart g (take j us)) (sym e.whole) (part_front g (take j (e.seen ++ e.left)) f.0 (subst (IsPart g) f.1 e.part)));
    here = λ l h. far l h;
    none = λ x h. bad x (e.only ls [] x h (append_nil ls) refl);
  }
    where
      far : length e.seen < length ls → IsPart g (take (suc (length e.seen)) ls) → ⊥
      far l h =
          let n = take_next ls [] (suc (length e.seen)) (let m : length (ls ++ []) ≡ length ls = ap length (sym (append_nil ls)) in omega arith) in
          let same : ls ++ [] ≡ ls = sym (append_nil ls) in
          let n' : length (take (suc (length e.seen)) ls) ≡ suc (length e.seen) = subst (λ (us : List Lexeme). length (take (suc (length e.seen)) us) ≡ suc (length e.seen)) same n.0 in
          let w' : ls ≡ take (suc (length e.seen)) ls ++ drop (suc (length e.seen)) ls = subst (λ (us : List Lexeme). us ≡ take (suc (length e.seen)) us ++ drop (suc (length e.seen)) us) same n.1 in
          let f : length (take (suc (length e.seen)) ls) ≤ length e.seen = e.farthest (take (suc (length e.seen)) ls) (drop (suc (length e.seen)) ls) h w' in
          absurd (omega arith)

  -- the fault of a reading that stops
  pub fault_err : (ls : List Lexeme) (n : ℕ) → read g ls ≡ Err n → IsFault g ls n
  fault_err ls n h =
      let e = exact g d ls in
      let o : n ≡ length e.left = subst (Outcome g e.seen e.left) h e.outcome in
      subst (IsFault g ls) (sym o) (fault_from ls (read g ls) e (λ x k. not_ok n (x, []) (sym h ∙ k)))

  -- the fault of a reading that ends before the last token
  pub fault_rest : (ls : List Lexeme) (x : A) (t : Lexeme) (rest : List Lexeme) → read g ls ≡ Ok (x, t ∷ rest) → IsFault g ls (length (t ∷ rest))
  fault_rest ls x t rest h =
      let e = exact g d ls in
      let o = subst (Outcome g e.seen e.left) h e.outcome in
      subst (IsFault g ls) (sym (ap length o.1)) (fault_from ls (read g ls) e
      (λ y k. (let b : t ∷ rest ≡ [] = ap (λ (z : A × List Lexeme). z.1) (ok_same (x, t ∷ rest) (y, []) (sym h ∙ k)) in let c : ⊥ = cc (b) in c)))

-- any fuel that suffices gives the same
module _ {A : Type 0} (a : Grammar A) (none : is_empty a ≡ false) (d : apart (more a) (first a) ≡ true) (da : is_decided a ≡ true) where
  -- with as many turns as there are lexemes, more make no difference
  fuel : (n m : ℕ) (ls : List Lexeme) → length ls ≤ n → length ls ≤ m → many (starts (first a)) (read a) n ls ≡ many (starts (first a)) (read a) m ls
  fuel zero zero ls l k = refl
  fuel zero (suc m) [] l k = refl
  fuel zero (suc m) (t ∷ ls) l k = absurd (omega arith)
  fuel (suc n) zero [] l k = refl
  fuel (suc n) zero (t ∷ ls) l k = absurd (omega arith)
  fuel (suc n) (suc m) ls l k = ap (λ (z : Read (List A)). if starts (first a) ls then z else Ok ([], ls)) (go (read a ls) refl (λ us lu ku. fuel n m us lu ku))
    where
      go : (r : Read A) → read a ls ≡ r → ((us : List Lexeme) → length us ≤ n → length us ≤ m → many (starts (first a)) (read a) n us ≡ many (starts (first a)) (read a) m us) → (r >>= λ x. many (starts (first a)) (read a) n x.1 >>= λ y. Ok (x.0 ∷ y.0, y.1)) ≡ (r >>= λ x. many (starts (first a)) (read a) m x.1 >>= λ y. Ok (x.0 ∷ y.0, y.1))
      go (Err e) h ih = refl
      go (Ok x) h ih =
          let s : length x.1 < length ls = shorter a none d (read a) (λ us. exact a da us) ls x.0 x.1 h in
          ap (λ (z : Read (List A)). z >>= λ y. Ok (x.0 ∷ y.0, y.1)) (ih x.1 (omega arith) (omega arith))

  -- a repetition is read as one and a repetition, or as nothing
  pub unroll_here : (ls : List Lexeme) → read (star a) ls ≡ (if starts (first a) ls then (read a ls >>= λ x. read (star a) x.1 >>= λ y. Ok (x.0 ∷ y.0, y.1)) else Ok ([], ls))
  unfolding read
  unroll_here [] = refl
  unroll_here (t ∷ ls) = ap (λ (z : Read (List A)). if first a t.symbol then z else Ok ([], t ∷ ls)) (go (read a (t ∷ ls)) refl)
    where
      go : (r : Read A) → read a (t ∷ ls) ≡ r → (r >>= λ x. many (starts (first a)) (read a) (length ls) x.1 >>= λ y. Ok (x.0 ∷ y.0, y.1)) ≡ (r >>= λ x. many (starts (first a)) (read a) (length x.1) x.1 >>= λ y. Ok (x.0 ∷ y.0, y.1))
      go (Err e) h = refl
      go (Ok x) h =
          let s : length x.1 < suc (length ls) = shorter a none d (read a) (λ us. exact a da us) (t ∷ ls) x.0 x.1 h in
          ap (λ (z : Read (List A)). z >>= λ y. Ok (x.0 ∷ y.0, y.1)) (fuel (length ls) (length x.1) x.1 (omega arith) (omega arith))

-- a repetition is read as one and a repetition where one begins, and as nothing elsewhere
pub unroll : {A : Type 0} (a : Grammar A) → is_decided (star a) ≡ true → (ls : List Lexeme)
    → read (star a) ls ≡ (if starts (first a) ls then (read a ls >>= λ x. read (star a) x.1 >>= λ y. Ok (x.0 ∷ y.0, y.1)) else Ok ([], ls))
unroll a d ls =
    let c = and_right (is_decided a) _ d in
    unroll_here a (not_true (is_empty a) (and_left (not (is_empty a)) _ c)) (and_right (not (is_empty a)) _ c) (and_left (is_decided a) _ d) ls

-- what is read of a grammar that doesn't spell nothing is a token at least
pub shrinks : {A : Type 0} (a : Grammar A) → is_decided a ≡ true → is_empty a ≡ false → (ls : List Lexeme) (x : A) (rest : List Lexeme) → read a ls ≡ Ok (x, rest) → length rest < length ls
shrinks a d none ls x rest h = shorter_read a none (read a) (exact a d) ls x rest h
