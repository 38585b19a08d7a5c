-- Reading a choice is exact.
use Rattle.std.proofs.Common.{◌≡◌, ◌≤◌, inl, inr, Bool, true, false, ◌&&◌, ◌||◌, List, [], ◌∷◌, ◌++◌, length, Ok, Err, refl, sym, ◌∙◌, ap, subst, arith, if◌then◌else◌}
use Rattle.vt_grammar.specs.declared.lexeme.Lexeme.{Lexeme}
use Rattle.vt_grammar.specs.Grammar.{Grammar, alt, Spells, IsPart}
use Rattle.vt_grammar.specs.Reading.{Read, is_empty, first, more, apart, starts}
use Rattle.vt_grammar.proofs.Exact.{Exact, Outcome}
use Rattle.vt_grammar.proofs.PartLemmas.{both, apart_at, spells_part, empty_sound, part_first}
use Rattle.vt_facts.proofs.BoolLemmas.{or_none}

-- a part of a list that doesn't begin it is nothing
pub no_part : {A : Type 0} (a : Grammar A) (ls p q : List Lexeme) → starts (first a) ls ≡ false → IsPart a p → ls ≡ p ++ q → p ≡ []
no_part a ls [] q f h w = refl
no_part a ls (t ∷ p) q f h w =
    let y : first a t.symbol ≡ true = part_first a t p h in
    let z : starts (first a) ls ≡ first a t.symbol = ap (starts (first a)) w in
    absurd (let c : ⊥ = cc (f, y, z) in c)

-- where one begins, a part of another that begins otherwise is nothing
apart_part : {A B : Type 0} (a : Grammar A) (b : Grammar B) → apart (first a) (first b) ≡ true → (ls p q : List Lexeme) → starts (first a) ls ≡ true → IsPart b p → ls ≡ p ++ q → p ≡ []
apart_part a b d ls [] q f h w = refl
apart_part a b d ls (t ∷ p) q f h w =
    let y : first a t.symbol ≡ false = apart_at (first a) (first b) d t (part_first b t p h) in
    let z : starts (first a) ls ≡ first a t.symbol = ap (starts (first a)) w in
    absurd (let c : ⊥ = cc (f, y, z) in c)

-- where a choice can end, each of the two can
alt_ends : {A : Type 0} (a b : Grammar A) (q : List Lexeme) → starts (more (alt a b)) q ≡ false → (starts (more a) q ≡ false) × (starts (more b) q ≡ false)
alt_ends a b [] f = (refl, refl)
alt_ends a b (t ∷ q) f = or_none (more a t.symbol) (more b t.symbol) (or_none (more a t.symbol || more b t.symbol) (is_empty b && first a t.symbol) f).0

-- where b spells nothing, a doesn't begin what follows
alt_rest : {A : Type 0} (a b : Grammar A) (ls : List Lexeme) → starts (more (alt a b)) ls ≡ false → starts (first a) ls ≡ true → is_empty b ≡ true → ⊥
alt_rest a b [] f s e = cc
alt_rest a b (t ∷ ls) f s e =
    let n = (or_none (more a t.symbol || more b t.symbol) (is_empty b && first a t.symbol) f).1 in
    let m = both _ _ e s in
    cc (n, m)

-- the first is read where it begins
alt_first : {A : Type 0} (a b : Grammar A) (ls : List Lexeme) (r : Read A) → apart (first a) (first b) ≡ true → starts (first a) ls ≡ true → Exact a ls r → Exact (alt a b) ls r
alt_first {A} a b ls r d s e = record {
  seen = e.seen;
  left = e.left;
  whole = e.whole;
  part = inl e.part;
  outcome = out r e.outcome;
  farthest = far;
  only = only;
}
  where
    out : (r : Read A) → Outcome a e.seen e.left r → Outcome (alt a b) e.seen e.left r
    out (Ok x) o = (inl o.0, o.1)
    out (Err n) o = o

    far : (p q : List Lexeme) → IsPart (alt a b) p → ls ≡ p ++ q → length p ≤ length e.seen
    far p q (inl h) w = e.farthest p q h w
    far p q (inr h) w = let l : length p ≡ 0 = ap length (apart_part a b d ls p q s h w) in omega arith

    only : (p q : List Lexeme) (x : A) → Spells (alt a b) p x → ls ≡ p ++ q → starts (more (alt a b)) q ≡ false → r ≡ Ok (x, q)
    only p q x (inl h) w f = e.only p q x h w (alt_ends a b q f).0
    only p q x (inr h) w f =
        let n = apart_part a b d ls p q s (spells_part b p x h) w in
        let same : q ≡ ls = sym (w ∙ ap (λ (l : List Lexeme). l ++ q) n) in
        absurd (alt_rest a b ls (subst (λ l. starts (more (alt a b)) l ≡ false) same f) s (empty_sound b x (subst (λ l. Spells b l x) n h)))

-- the second is read where the first does not begin
alt_second : {A : Type 0} (a b : Grammar A) (ls : List Lexeme) (r : Read A) → is_empty a ≡ false → starts (first a) ls ≡ false → Exact b ls r → Exact (alt a b) ls r
alt_second {A} a b ls r d s e = record {
  seen = e.seen;
  left = e.left;
  whole = e.whole;
  part = inr e.part;
  outcome = out r e.outcome;
  farthest = far;
  only = only;
}
  where
    out : (r : Read A) → Outcome b e.seen e.left r → Outcome (alt a b) e.seen e.left r
    out (Ok x) o = (inr o.0, o.1)
    out (Err n) o = o

    far : (p q : List Lexeme) → IsPart (alt a b) p → ls ≡ p ++ q → length p ≤ length e.seen
    far p q (inr h) w = e.farthest p q h w
    far p q (inl h) w = let l : length p ≡ 0 = ap length (no_part a ls p q s h w) in omega arith

    only : (p q : List Lexeme) (x : A) → Spells (alt a b) p x → ls ≡ p ++ q → starts (more (alt a b)) q ≡ false → r ≡ Ok (x, q)
    only p q x (inr h) w f = e.only p q x h w (alt_ends a b q f).1
    only p q x (inl h) w f =
        let n = no_part a ls p q s (spells_part a p x h) w in
        let y = empty_sound a x (subst (λ l. Spells a l x) n h) in
        absurd (let c : ⊥ = cc (y, d) in c)

-- reading a choice is exact
pub exact_alt : {A : Type 0} (a b : Grammar A) (ls : List Lexeme) (r r' : Read A) → is_empty a ≡ false → apart (first a) (first b) ≡ true → Exact a ls r → Exact b ls r'
    → Exact (alt a b) ls (if starts (first a) ls then r else r')
exact_alt {A} a b ls r r' n d e f = go (starts (first a) ls) refl
  where
    go : (c : Bool) → starts (first a) ls ≡ c → Exact (alt a b) ls (if c then r else r')
    go true s = alt_first a b ls r d s e
    go false s = alt_second a b ls r' n s f
