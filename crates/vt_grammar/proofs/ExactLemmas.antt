-- Reading is exact where the next token decides.
use Rattle.std.proofs.Common.{ℕ, suc, ◌≡◌, ◌≤◌, ◌+◌, inl, inr, Bool, true, false, ◌&&◌, List, [], ◌∷◌, ◌++◌, length, Ok, Err, refl, sym, ◌∙◌, ap, subst, arith, append_assoc, length-append, if◌then◌else◌}
use Rattle.vt_grammar.specs.declared.lexeme.Lexeme.{Lexeme}
use Rattle.vt_grammar.specs.Symbols.{same}
use Rattle.vt_grammar.specs.declared.symbol.Symbol.{Symbol}
use Rattle.vt_grammar.specs.Grammar.{Grammar, nothing, token, seq, made, Spells, IsPart}
use Rattle.vt_grammar.specs.Reading.{Read, ◌>>=◌, is_empty, first, more, apart, starts, one_of}
use Rattle.vt_grammar.proofs.Exact.{Exact, Outcome}
use Rattle.vt_grammar.proofs.PartLemmas.{is_same, same_is, apart_at, append_nil, spells_part, empty_sound, part_first}
use Rattle.vt_facts.proofs.BoolLemmas.{or_none}

-- two readings that are equal gave one value
pub ok_same : {A : Type 0} (x y : A × List Lexeme) → ◌≡◌ {A = Read A} (Ok x) (Ok y) → x ≡ y
ok_same x y e = cc

-- a fault is no value
pub not_ok : {A : Type 0} {T : Type 0} (n : ℕ) (x : A × List Lexeme) → ◌≡◌ {A = Read A} (Err n) (Ok x) → T
not_ok n x e = absurd (let f : ⊥ = cc in f)

-- a front of nothing is nothing
short_front : (p q : List Lexeme) → [] ≡ p ++ q → length p ≤ 0
short_front [] q e = omega arith
short_front (x ∷ p) q e = cc

-- reading nothing is exact
pub exact_nothing : (ls : List Lexeme) → Exact nothing ls (Ok (tt, ls))
exact_nothing ls = record {
  seen = [];
  left = ls;
  whole = refl;
  part = refl;
  outcome = (refl, refl);
  farthest = λ p q h e. (let l : length p ≡ 0 = ap length h in omega arith);
  only = λ s q x h e f. (let w : ls ≡ q = e ∙ ap (λ (l : List Lexeme). l ++ q) h in ap (λ (l : List Lexeme). Ok (tt, l)) w);
}

-- a part of one lexeme has at most one
token_short : (k : Symbol) (p : List Lexeme) → IsPart (token k) p → length p ≤ 1
token_short k p (inl h) = let l : length p ≡ 0 = ap length h in omega arith
token_short k p (inr h) = let l : length p ≡ 1 = ap length h.1 in omega arith

-- a lexeme of the symbol is read
token_yes : (k : Symbol) (t : Lexeme) (ls : List Lexeme) → t.symbol ≡ k → Exact (token k) (t ∷ ls) (Ok (t, ls))
token_yes k t ls e = record {
  seen = t ∷ [];
  left = ls;
  whole = refl;
  part = inr (t, refl, e);
  outcome = ((refl, e), refl);
  farthest = λ p q h w. token_short k p h;
  only = λ s q x h w f. (let v : t ∷ ls ≡ x ∷ q = w ∙ ap (λ (l : List Lexeme). l ++ q) h.0 in cc);
}

-- another lexeme is a fault
token_no : (k : Symbol) (t : Lexeme) (ls : List Lexeme) → (t.symbol ≡ k → ⊥) → Exact (token k) (t ∷ ls) (Err (suc (length ls)))
token_no k t ls other = record {
  seen = [];
  left = t ∷ ls;
  whole = refl;
  part = inl refl;
  outcome = refl;
  farthest = far;
  only = λ s q x h w f. (let v : t ∷ ls ≡ x ∷ q = w ∙ ap (λ (l : List Lexeme). l ++ q) h.0 in let u : x ≡ t = cc in absurd (other (subst (λ y. y.symbol ≡ k) u h.1)));
}
  where
    far : (p q : List Lexeme) → IsPart (token k) p → t ∷ ls ≡ p ++ q → length p ≤ 0
    far p q (inl h) w = let l : length p ≡ 0 = ap length h in omega arith
    far p q (inr h) w = let v : t ∷ ls ≡ h.0 ∷ q = w ∙ ap (λ (l : List Lexeme). l ++ q) h.1 in let u : h.0 ≡ t = cc in absurd (other (subst (λ y. y.symbol ≡ k) u h.2))

-- reading one lexeme is exact
pub exact_one : (k : Symbol) (ls : List Lexeme) → Exact (token k) ls (one_of k ls)
exact_one k [] = record {
  seen = [];
  left = [];
  whole = refl;
  part = inl refl;
  outcome = refl;
  farthest = λ p q h w. short_front p q w;
  only = λ s q x h w f. (let v : [] ≡ x ∷ q = w ∙ ap (λ (l : List Lexeme). l ++ q) h.0 in cc);
}
exact_one k (t ∷ ls) = go (same k t.symbol) refl
  where
    go : (b : Bool) → same k t.symbol ≡ b → Exact (token k) (t ∷ ls) (if b then Ok (t, ls) else Err (suc (length ls)))
    go true e = token_yes k t ls (sym (is_same k t.symbol e))
    go false e = token_no k t ls (λ h. let y : same k t.symbol ≡ true = same_is k t.symbol (sym h) in cc)

-- reading is exact where the value is made from another
pub exact_made : {A B : Type 0} (f : A → B) (a : Grammar A) (ls : List Lexeme) (r : Read A) → Exact a ls r → Exact (made f a) ls (r >>= λ x. Ok (f x.0, x.1))
exact_made {A} {B} f a ls r e = record {
  seen = e.seen;
  left = e.left;
  whole = e.whole;
  part = e.part;
  outcome = out r e.outcome;
  farthest = e.farthest;
  only = λ s q x h w g. ap (λ (z : Read A). z >>= λ x. Ok (f x.0, x.1)) (e.only s q h.0 h.1 w g) ∙ ap (λ (y : B). Ok (y, q)) h.2;
}
  where
    out : (r : Read A) → Outcome a e.seen e.left r → Outcome (made f a) e.seen e.left (r >>= λ x. Ok (f x.0, x.1))
    out (Ok x) o = ((x.0, o.0, refl), o.1)
    out (Err n) o = o

-- What follows a, if b spells back and the whole can end.
seq_ends : {A B : Type 0} (a : Grammar A) (b : Grammar B) → apart (more a) (first b) ≡ true → (back q : List Lexeme) (y : B) → Spells b back y
    → starts (more (seq a b)) q ≡ false → starts (more a) (back ++ q) ≡ false
seq_ends a b d [] [] y h f = refl
seq_ends a b d [] (t ∷ q) y h f =
    let n = or_none (more b t.symbol) (is_empty b && more a t.symbol) f in
    ap (λ v. v && more a t.symbol) (sym (empty_sound b y h)) ∙ n.1
seq_ends a b d (t ∷ back) q y h f = apart_at (more a) (first b) d t (part_first b t back (spells_part b (t ∷ back) y h))

-- where a sequence can end, its second can
seq_ends_b : {A B : Type 0} (a : Grammar A) (b : Grammar B) (q : List Lexeme) → starts (more (seq a b)) q ≡ false → starts (more b) q ≡ false
seq_ends_b a b [] f = refl
seq_ends_b a b (t ∷ q) f = (or_none (more b t.symbol) (is_empty b && more a t.symbol) f).0

-- a front of two joined lists, with the rest behind
regroup : (ls p front back q : List Lexeme) → ls ≡ p ++ q → p ≡ front ++ back → ls ≡ front ++ (back ++ q)
regroup ls p front back q w e = w ∙ ap (λ (l : List Lexeme). l ++ q) e ∙ append_assoc front back q

module _ {A B : Type 0} (a : Grammar A) (b : Grammar B) (d : apart (more a) (first b) ≡ true) (ls : List Lexeme) where
  -- where a isn't read, no part goes farther
  far_err : (n : ℕ) (e : Exact a ls (Err n)) (p q : List Lexeme) → IsPart (seq a b) p → ls ≡ p ++ q → length p ≤ length e.seen
  far_err n e p q (inl h) w = e.farthest p q h w
  far_err n e p q (inr h) w = go h.1.back h.1.whole h.1.second
    where
      go : (back : List Lexeme) → p ≡ h.1.front ++ back → IsPart b back → length p ≤ length e.seen
      go [] v s = e.farthest p q (subst (IsPart a) (append_nil h.1.front ∙ sym v) (spells_part a h.1.front h.0 h.1.first)) w
      go (t ∷ back) v s =
          not_ok n (h.0, t ∷ (back ++ q)) (e.only h.1.front (t ∷ (back ++ q)) h.0 h.1.first (regroup ls p h.1.front (t ∷ back) q w v) (apart_at (more a) (first b) d t (part_first b t back s)))

  -- where the first of a sequence is not read, the fault is the sequence's
  exact_seq_err : (n : ℕ) → Exact a ls (Err n) → Exact (seq a b) ls (Err n)
  exact_seq_err n e = record {
    seen = e.seen;
    left = e.left;
    whole = e.whole;
    part = inl e.part;
    outcome = e.outcome;
    farthest = far_err n e;
    only = λ s q x h w f. not_ok n (x.0, h.back ++ q) (e.only h.front (h.back ++ q) x.0 h.first (regroup ls s h.front h.back q w h.whole) (seq_ends a b d h.back q x.1 h.second f));
  }

  -- where it is read, no part goes farther than its second does
  far_ok : (x : A) (rest : List Lexeme) (r : Read B) (e : Exact a ls (Ok (x, rest))) (f : Exact b rest r) (p q : List Lexeme)
      → IsPart (seq a b) p → ls ≡ p ++ q → length p ≤ length (e.seen ++ f.seen)
  far_ok x rest r e f p q (inl h) w = let l : length p ≤ length e.seen = e.farthest p q h w in let m : length (e.seen ++ f.seen) ≡ length e.seen + length f.seen = length-append e.seen f.seen in omega arith
  far_ok x rest r e f p q (inr h) w = go h.1.back h.1.whole h.1.second
    where
      go : (back : List Lexeme) → p ≡ h.1.front ++ back → IsPart b back → length p ≤ length (e.seen ++ f.seen)
      go [] v s =
          let l : length p ≤ length e.seen = e.farthest p q (subst (IsPart a) (append_nil h.1.front ∙ sym v) (spells_part a h.1.front h.0 h.1.first)) w in
          let m : length (e.seen ++ f.seen) ≡ length e.seen + length f.seen = length-append e.seen f.seen in
          omega arith
      go (t ∷ back) v s =
          let w' : ls ≡ h.1.front ++ (t ∷ (back ++ q)) = regroup ls p h.1.front (t ∷ back) q w v in
          let yes = e.only h.1.front (t ∷ (back ++ q)) h.0 h.1.first w' (apart_at (more a) (first b) d t (part_first b t back s)) in
          let r' : rest ≡ t ∷ (back ++ q) = ap (λ (z : A × List Lexeme). z.1) (ok_same (x, rest) (h.0, t ∷ (back ++ q)) yes) in
          let l : length (t ∷ back) ≤ length f.seen = f.farthest (t ∷ back) q s r' in
          let m : length (e.seen ++ f.seen) ≡ length e.seen + length f.seen = length-append e.seen f.seen in
          let m1 : length p ≡ length h.1.front + length (t ∷ back) = ap length v ∙ length-append h.1.front (t ∷ back) in
          let m2 : length ls ≡ length h.1.front + length rest = ap length w' ∙ length-append h.1.front (t ∷ (back ++ q)) ∙ ap (λ (l : List Lexeme). length h.1.front + length l) (sym r') in
          let m3 : length ls ≡ length e.seen + length rest = ap length e.whole ∙ length-append e.seen e.left ∙ ap (λ (l : List Lexeme). length e.seen + length l) (sym e.outcome.1) in
          omega arith

  -- a spelling of the first and a part of the second is a part of the sequence
  seq_part : (seen seen' : List Lexeme) (x : A) → Spells a seen x → IsPart b seen' → IsPart (seq a b) (seen ++ seen')
  seq_part seen seen' x h k = inr (x, record { front = seen; back = seen'; whole = refl; first = h; second = k })

  -- where it is read, reading the second behind it is exact
  exact_seq_ok : (x : A) (rest : List Lexeme) (r : Read B) → Exact a ls (Ok (x, rest)) → Exact b rest r → Exact (seq a b) ls (r >>= λ y. Ok ((x, y.0), y.1))
  exact_seq_ok x rest r e f = record {
    seen = e.seen ++ f.seen;
    left = f.left;
    whole = e.whole ∙ ap (λ (l : List Lexeme). e.seen ++ l) (sym e.outcome.1 ∙ f.whole) ∙ sym (append_assoc e.seen f.seen f.left);
    part = seq_part e.seen f.seen x e.outcome.0 f.part;
    outcome = out r f.outcome;
    farthest = far_ok x rest r e f;
    only = λ s q z h w g.
        (let yes = e.only h.front (h.back ++ q) z.0 h.first (regroup ls s h.front h.back q w h.whole) (seq_ends a b d h.back q z.1 h.second g) in
        let r' : rest ≡ h.back ++ q = ap (λ (z : A × List Lexeme). z.1) (ok_same (x, rest) (z.0, h.back ++ q) yes) in
        let x' : x ≡ z.0 = ap (λ (z : A × List Lexeme). z.0) (ok_same (x, rest) (z.0, h.back ++ q) yes) in
        let also = f.only h.back q z.1 h.second r' (seq_ends_b a b q g) in
        ap (λ (v : Read B). v >>= λ y. Ok ((x, y.0), y.1)) also ∙ ap (λ (v : A). Ok ((v, z.1), q)) x');
  }
    where
      out : (r : Read B) → Outcome b f.seen f.left r → Outcome (seq a b) (e.seen ++ f.seen) f.left (r >>= λ y. Ok ((x, y.0), y.1))
      out (Ok y) o = (record { front = e.seen; back = f.seen; whole = refl; first = e.outcome.0; second = o.0 }, o.1)
      out (Err n) o = o

  -- reading a sequence is exact
  pub exact_seq : (rd : List Lexeme → Read B) (r : Read A) → Exact a ls r → ((x : A) (rest : List Lexeme) → r ≡ Ok (x, rest) → Exact b rest (rd rest))
      → Exact (seq a b) ls (r >>= λ x. rd x.1 >>= λ y. Ok ((x.0, y.0), y.1))
  exact_seq rd (Ok x) e f = exact_seq_ok x.0 x.1 (rd x.1) e (f x.0 x.1 refl)
  exact_seq rd (Err n) e f = exact_seq_err n e
