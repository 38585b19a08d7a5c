-- Reading a repetition is exact.
use Rattle.std.proofs.Common.{ℕ, zero, suc, ◌≡◌, ◌≤◌, ◌<◌, ◌+◌, ◌⊎◌, inl, inr, Bool, true, false, ◌&&◌, ◌||◌, List, [], ◌∷◌, ◌++◌, length, Ok, Err, refl, sym, ◌∙◌, ap, subst, arith, append_assoc, length-append, if◌then◌else◌}
use Rattle.vt_grammar.specs.declared.lexeme.Lexeme.{Lexeme}
use Rattle.vt_grammar.specs.Grammar.{Grammar, seq, star, Join, Spells, SpellsAll, IsPart}
use Rattle.vt_grammar.specs.Reading.{Read, ◌>>=◌, is_empty, first, more, apart, starts, many}
use Rattle.vt_grammar.proofs.Exact.{Exact, Outcome}
use Rattle.vt_grammar.proofs.PartLemmas.{part_nil, append_nil, spells_part, empty_sound}
use Rattle.vt_grammar.proofs.ExactLemmas.{exact_seq}
use Rattle.vt_grammar.proofs.ChoiceLemmas.{no_part}
use Rattle.vt_facts.proofs.BoolLemmas.{or_none}

-- where none begins, the repetition is empty
star_stops : {A : Type 0} (a : Grammar A) (ls : List Lexeme) → is_empty a ≡ false → starts (first a) ls ≡ false → Exact (star a) ls (Ok ([], ls))
star_stops {A} a ls d s = record {
  seen = [];
  left = ls;
  whole = refl;
  part = inl refl;
  outcome = (refl, refl);
  farthest = λ p q h w. (let l : length p ≡ 0 = ap length (no_part (star a) ls p q s h w) in omega arith);
  only = only;
}
  where
    only : (p q : List Lexeme) (xs : List A) → Spells (star a) p xs → ls ≡ p ++ q → starts (more (star a)) q ≡ false → ◌≡◌ {A = Read (List A)} (Ok ([], ls)) (Ok (xs, q))
    only p q [] h w f = ap (λ (l : List Lexeme). Ok ([], l)) (w ∙ ap (λ (l : List Lexeme). l ++ q) h)
    only p q (x ∷ xs) h w f =
        let n = no_part (star a) ls p q s (spells_part (star a) p (x ∷ xs) h) w in
        absurd (go p h n)
      where
        go : (p : List Lexeme) → Spells (star a) p (x ∷ xs) → p ≡ [] → ⊥
        go p h n = inner h.front h.back (sym n ∙ h.whole) h.first
          where
            inner : (front back : List Lexeme) → [] ≡ front ++ back → Spells a front x → ⊥
            inner [] back e k = let y = empty_sound a x k in cc (y, d)
            inner (t ∷ front) back e k = cc

-- one takes a lexeme at least
pub shorter_read : {A : Type 0} (a : Grammar A) (none : is_empty a ≡ false) (rd : List Lexeme → Read A) (all : (ls : List Lexeme) → Exact a ls (rd ls)) (ls : List Lexeme) (x : A) (rest : List Lexeme)
    → rd ls ≡ Ok (x, rest) → length rest < length ls
shorter_read a none rd all ls x rest e = go (all ls)
  where
    go : Exact a ls (rd ls) → length rest < length ls
    go f = inner f.seen f.left f.whole (subst (Outcome a f.seen f.left) e f.outcome)
      where
        inner : (seen left : List Lexeme) → ls ≡ seen ++ left → Outcome a seen left (Ok (x, rest)) → length rest < length ls
        inner [] left w o = let y = empty_sound a x o.0 in absurd (let c : ⊥ = cc (y, none) in c)
        inner (t ∷ seen) left w o =
            let m : length ls ≡ suc (length seen + length left) = ap length w ∙ ap suc (length-append seen left) in
            let k : length rest ≡ length left = ap length o.1 in
            omega arith

module _ {A : Type 0} (a : Grammar A) where
  -- one, and a part of a repetition, is a part of the repetition
  join_part : (ls : List Lexeme) (x : A) (h : Join (λ s. Spells a s x) (IsPart (star a)) ls) → IsPart (star a) ls
  join_part ls x h = go h.second
    where
      go : IsPart (star a) h.back → IsPart (star a) ls
      go (inl e) = inr (
        x ∷ [],
        record {
          front = h.front ++ [];
          back = [];
          whole = h.whole ∙ ap (λ (l : List Lexeme). h.front ++ l) e ∙ append_nil (h.front ++ []);
          first = record { front = h.front; back = []; whole = refl; first = h.first; second = refl };
          second = part_nil a;
        },
      )
      go (inr k) = inr (
        x ∷ k.0,
        record {
          front = h.front ++ k.1.front;
          back = k.1.back;
          whole = h.whole ∙ ap (λ (l : List Lexeme). h.front ++ l) k.1.whole ∙ sym (append_assoc h.front k.1.front k.1.back);
          first = record { front = h.front; back = k.1.front; whole = refl; first = h.first; second = k.1.first };
          second = k.1.second;
        },
      )

  -- a part of one and a repetition is a part of the repetition
  seq_star_part : (ls : List Lexeme) → IsPart (seq a (star a)) ls → IsPart (star a) ls
  seq_star_part ls (inl h) = inr ([], record { front = []; back = ls; whole = refl; first = refl; second = h })
  seq_star_part ls (inr h) = join_part ls h.0 h.1

  -- a part of a repetition is nothing, or a part of one and a repetition
  star_seq_part : (ls : List Lexeme) → IsPart (star a) ls → (ls ≡ []) ⊎ IsPart (seq a (star a)) ls
  star_seq_part ls (inl e) = inl e
  star_seq_part ls (inr h) = go h.0 h.1
    where
      go : (xs : List A) → Join (λ s. SpellsAll (Spells a) s xs) (IsPart a) ls → (ls ≡ []) ⊎ IsPart (seq a (star a)) ls
      go [] j = inr (inl (subst (IsPart a) (sym (j.whole ∙ ap (λ (l : List Lexeme). l ++ j.back) j.first)) j.second))
      go (x ∷ xs) j = inr (inr (
        x,
        record {
          front = j.first.front;
          back = j.first.back ++ j.back;
          whole = j.whole ∙ ap (λ (l : List Lexeme). l ++ j.back) j.first.whole ∙ append_assoc j.first.front j.first.back j.back;
          first = j.first.first;
          second = inr (xs, record { front = j.first.back; back = j.back; whole = refl; first = j.first.second; second = j.second });
        },
      ))

  -- where a repetition can end, one and a repetition can
  seq_star_ends : (q : List Lexeme) → starts (more (star a)) q ≡ false → starts (more (seq a (star a))) q ≡ false
  seq_star_ends [] f = refl
  seq_star_ends (t ∷ q) f = go (more a t.symbol) (first a t.symbol) f
    where
      go : (b c : Bool) → (b || c) ≡ false → ((b || c) || (true && b)) ≡ false
      go true c h = cc
      go false true h = cc
      go false false h = refl

  -- where a repetition can end, no further one begins
  star_rest : (ls : List Lexeme) → starts (more (star a)) ls ≡ false → starts (first a) ls ≡ true → ⊥
  star_rest [] f s = cc
  star_rest (t ∷ ls) f s = let n = (or_none (more a t.symbol) (first a t.symbol) f).1 in cc (n, s)

  -- a repetition is read as one and a repetition where one begins
  star_goes : (ls : List Lexeme) (r : Read (A × List A)) → starts (first a) ls ≡ true → Exact (seq a (star a)) ls r
      → Exact (star a) ls (r >>= λ x. Ok (x.0.0 ∷ x.0.1, x.1))
  star_goes ls r s e = record {
    seen = e.seen;
    left = e.left;
    whole = e.whole;
    part = seq_star_part e.seen e.part;
    outcome = out r e.outcome;
    farthest = λ p q h w. far p q w (star_seq_part p h);
    only = only;
  }
    where
      out : (r : Read (A × List A)) → Outcome (seq a (star a)) e.seen e.left r → Outcome (star a) e.seen e.left (r >>= λ x. Ok (x.0.0 ∷ x.0.1, x.1))
      out (Ok x) o = (record { front = o.0.front; back = o.0.back; whole = o.0.whole; first = o.0.first; second = o.0.second }, o.1)
      out (Err n) o = o

      far : (p q : List Lexeme) → ls ≡ p ++ q → (p ≡ []) ⊎ IsPart (seq a (star a)) p → length p ≤ length e.seen
      far p q w (inl h) = let l : length p ≡ 0 = ap length h in omega arith
      far p q w (inr h) = e.farthest p q h w

      only : (p q : List Lexeme) (xs : List A) → Spells (star a) p xs → ls ≡ p ++ q → starts (more (star a)) q ≡ false → (r >>= λ x. Ok (x.0.0 ∷ x.0.1, x.1)) ≡ Ok (xs, q)
      only p q [] h w f =
          let same : q ≡ ls = sym (w ∙ ap (λ (l : List Lexeme). l ++ q) h) in
          absurd (star_rest ls (subst (λ l. starts (more (star a)) l ≡ false) same f) s)
      only p q (x ∷ xs) h w f =
          ap (λ (z : Read (A × List A)). z >>= λ x. Ok (x.0.0 ∷ x.0.1, x.1)) (e.only p q (x, xs) (record { front = h.front; back = h.back; whole = h.whole; first = h.first; second = h.second }) w (seq_star_ends q f))

  -- a value, and the values of a reading, as a pair
  abbrev with_pair : A × List Lexeme → Read (List A) → Read (A × List A)
  with_pair x z = z >>= λ y. Ok ((x.0, y.0), y.1)

  -- a value, and the values of a reading, as a list
  abbrev with_cons : A × List Lexeme → Read (List A) → Read (List A)
  with_cons x z = z >>= λ y. Ok (x.0 ∷ y.0, y.1)

  -- a pair that was read, as a list
  abbrev consed : Read (A × List A) → Read (List A)
  consed r = r >>= λ x. Ok (x.0.0 ∷ x.0.1, x.1)

  -- both ways to read one and a repetition are one
  bind_cons : (r : Read A) (rd : List Lexeme → Read (List A)) → consed (r >>= λ x. with_pair x (rd x.1)) ≡ (r >>= λ x. with_cons x (rd x.1))
  bind_cons (Err n) rd = refl
  bind_cons (Ok x) rd = go (rd x.1)
    where
      go : (z : Read (List A)) → consed (with_pair x z) ≡ with_cons x z
      go (Ok y) = refl
      go (Err n) = refl

  module _ (none : is_empty a ≡ false) (d : apart (more a) (first a) ≡ true) (rd : List Lexeme → Read A) (all : (ls : List Lexeme) → Exact a ls (rd ls)) where
    -- one takes a lexeme at least
    pub shorter : (ls : List Lexeme) (x : A) (rest : List Lexeme) → rd ls ≡ Ok (x, rest) → length rest < length ls
    shorter ls x rest e = shorter_read a none rd all ls x rest e

    -- reading a repetition is exact, with as many turns as there are lexemes
    pub exact_many : (n : ℕ) (ls : List Lexeme) → length ls ≤ n → Exact (star a) ls (many (starts (first a)) rd n ls)
    exact_many zero [] l = star_stops a [] none refl
    exact_many zero (t ∷ ls) l = absurd (omega arith)
    exact_many (suc n) ls l = go (exact_many n) (starts (first a) ls) refl
      where
        next : ((us : List Lexeme) → length us ≤ n → Exact (star a) us (many (starts (first a)) rd n us)) → (x : A) (rest : List Lexeme) → rd ls ≡ Ok (x, rest) → Exact (star a) rest (many (starts (first a)) rd n rest)
        next ih x rest e = let k : length rest < length ls = shorter ls x rest e in ih rest (omega arith)

        go : ((us : List Lexeme) → length us ≤ n → Exact (star a) us (many (starts (first a)) rd n us)) → (c : Bool) → starts (first a) ls ≡ c
            → Exact (star a) ls (if c then (rd ls >>= λ x. many (starts (first a)) rd n x.1 >>= λ y. Ok (x.0 ∷ y.0, y.1)) else Ok ([], ls))
        go ih false s = star_stops a ls none s
        go ih true s = subst (Exact (star a) ls) (bind_cons (rd ls) (many (starts (first a)) rd n))
            (star_goes ls _ s (exact_seq a (star a) d ls (many (starts (first a)) rd n) (rd ls) (all ls) (next ih)))
