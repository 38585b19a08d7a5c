-- Reading a balanced list is exact.
use Rattle.std.proofs.Common.{suc, ◌≡◌, ◌≤◌, Bool, true, false, not, List, [], ◌∷◌, ◌++◌, length, Option, Some, None, Ok, Err, refl, sym, ◌∙◌, ap, subst, arith, if◌then◌else◌}
use Rattle.vt_grammar.specs.declared.lexeme.Lexeme.{Lexeme}
use Rattle.vt_grammar.specs.Symbols.{closes, closer}
use Rattle.vt_grammar.specs.declared.symbol.Symbol.{Symbol}
use Rattle.vt_grammar.specs.Grammar.{balanced, still_open, step, close_one, open_one}
use Rattle.vt_grammar.specs.Reading.{Read, ◌>>=◌, starts, scan, scan_on, scan_end}
use Rattle.vt_grammar.proofs.Exact.{Exact, Outcome}
use Rattle.vt_grammar.proofs.PartLemmas.{none_open}

-- a balanced list is what was seen, and a fault stands behind it
abbrev Scanned : List Symbol → List Lexeme → List Lexeme → Read (List Lexeme) → Type 0
Scanned stack seen left (Ok x) = (x.0 ≡ seen) × (still_open (Some stack) seen ≡ Some []) × (x.1 ≡ left)
Scanned stack seen left (Err n) = n ≡ length left

-- what was seen can stand there, no longer front can, and what is balanced up to where it can end is what was read
record ScanExact (stack : List Symbol) (ls : List Lexeme) (r : Read (List Lexeme)) : Type 0 where
  seen : List Lexeme
  left : List Lexeme
  whole : ls ≡ seen ++ left
  after : List Symbol
  part : still_open (Some stack) seen ≡ Some after
  outcome : Scanned stack seen left r
  farthest : (p q : List Lexeme) (s : List Symbol) → still_open (Some stack) p ≡ Some s → ls ≡ p ++ q → length p ≤ length seen
  only : (s q : List Lexeme) → still_open (Some stack) s ≡ Some [] → ls ≡ s ++ q → starts (λ k. not (closes k)) q ≡ false → r ≡ Ok (s, q)

-- where no further token can stand
scan_stop : (stack : List Symbol) (ls : List Lexeme) → ((t : Lexeme) (us : List Lexeme) → ls ≡ t ∷ us → step stack t.symbol ≡ None) → ScanExact stack ls (scan_end stack ls)
scan_stop stack ls stop = record {
  seen = [];
  left = ls;
  whole = refl;
  after = stack;
  part = refl;
  outcome = out stack;
  farthest = λ p q s h w. (let l : length p ≡ 0 = ap length (none p q s h w) in omega arith);
  only = λ p q h w f. (let n = none p q [] h w in
      let e : Some stack ≡ Some [] = subst (λ l. still_open (Some stack) l ≡ Some []) n h in
      let e' : stack ≡ [] = cc in
      let w' : ls ≡ q = w ∙ ap (λ (l : List Lexeme). l ++ q) n in
      ap (λ (st : List Symbol). scan_end st ls) e' ∙ ap (λ (l : List Lexeme). Ok ([], l)) w' ∙ ap (λ (l : List Lexeme). Ok (l, q)) (sym n));
}
  where
    out : (stack : List Symbol) → Scanned stack [] ls (scan_end stack ls)
    out [] = (refl, refl, refl)
    out (c ∷ stack) = refl

    none : (p q : List Lexeme) (s : List Symbol) → still_open (Some stack) p ≡ Some s → ls ≡ p ++ q → p ≡ []
    none [] q s h w = refl
    none (t ∷ p) q s h w =
        let k : still_open (step stack t.symbol) p ≡ still_open None p = ap (λ o. still_open o p) (stop t (p ++ q) w) in
        let m : still_open None p ≡ None = none_open p in
        absurd (let c : ⊥ = cc (h, k, m) in c)

-- where the next token can stand
scan_step : (stack next : List Symbol) (t : Lexeme) (ls : List Lexeme) (r : Read (List Lexeme)) → step stack t.symbol ≡ Some next → ScanExact next ls r
    → ScanExact stack (t ∷ ls) (r >>= λ x. Ok (t ∷ x.0, x.1))
scan_step stack next t ls r e i = record {
  seen = t ∷ i.seen;
  left = i.left;
  whole = ap (λ (l : List Lexeme). t ∷ l) i.whole;
  after = i.after;
  part = go i.seen i.after i.part;
  outcome = out r i.outcome;
  farthest = far;
  only = only;
}
  where
    go : (us : List Lexeme) (st : List Symbol) → still_open (Some next) us ≡ Some st → still_open (step stack t.symbol) us ≡ Some st
    go us st h = ap (λ o. still_open o us) e ∙ h

    back : (u : Lexeme) (us : List Lexeme) (st : List Symbol) → u ≡ t → still_open (step stack u.symbol) us ≡ Some st → still_open (Some next) us ≡ Some st
    back u us st s h = ap (λ o. still_open o us) (sym e ∙ ap (λ v. step stack v.symbol) (sym s)) ∙ h

    out : (r : Read (List Lexeme)) → Scanned next i.seen i.left r → Scanned stack (t ∷ i.seen) i.left (r >>= λ x. Ok (t ∷ x.0, x.1))
    out (Ok x) o = (ap (λ (l : List Lexeme). t ∷ l) o.0, go i.seen [] o.1, o.2)
    out (Err n) o = o

    far : (p q : List Lexeme) (s : List Symbol) → still_open (Some stack) p ≡ Some s → t ∷ ls ≡ p ++ q → length p ≤ suc (length i.seen)
    far [] q s h w = omega arith
    far (u ∷ p) q s h w =
        let same : u ≡ t = cc (w) in
        let rest : ls ≡ p ++ q = cc (w) in
        let l : length p ≤ length i.seen = i.farthest p q s (back u p s same h) rest in
        omega arith

    only : (s q : List Lexeme) → still_open (Some stack) s ≡ Some [] → t ∷ ls ≡ s ++ q → starts (λ k. not (closes k)) q ≡ false → (r >>= λ x. Ok (t ∷ x.0, x.1)) ≡ Ok (s, q)
    only [] q h w f = absurd (closed (closes t.symbol) refl)
      where
        f' : not (closes t.symbol) ≡ false
        f' = ap (starts (λ k. not (closes k))) w ∙ f

        e' : stack ≡ []
        e' = cc (h)

        closed : (b : Bool) → closes t.symbol ≡ b → ⊥
        closed false c = let d : not (closes t.symbol) ≡ true = ap not c in cc (d, f')
        closed true c =
            let none : step stack t.symbol ≡ None = ap (λ (st : List Symbol). step st t.symbol) e' ∙ ap (λ b. if b then close_one [] t.symbol else Some (open_one [] (closer t.symbol))) c in
            cc (none, e)
    only (u ∷ s) q h w f =
        let same : u ≡ t = cc (w) in
        let rest : ls ≡ s ++ q = cc (w) in
        ap (λ (z : Read (List Lexeme)). z >>= λ x. Ok (t ∷ x.0, x.1)) (i.only s q (back u s [] same h) rest f) ∙ ap (λ (v : Lexeme). Ok (v ∷ s, q)) (sym same)

-- reading a balanced list is exact, at each stack
scan_exact : (stack : List Symbol) (ls : List Lexeme) → ScanExact stack ls (scan stack ls)
scan_exact stack [] = scan_stop stack [] (λ t us e. cc (e))
scan_exact stack (t ∷ ls) = go (λ s. scan_exact s ls) (step stack t.symbol) refl
  where
    go : ((s : List Symbol) → ScanExact s ls (scan s ls)) → (o : Option (List Symbol)) → step stack t.symbol ≡ o → ScanExact stack (t ∷ ls) (scan_on (λ s. scan s ls) stack t ls o)
    go ih None e = scan_stop stack (t ∷ ls) (λ u us w. (let same : t ≡ u = cc (w) in subst (λ v. step stack v.symbol ≡ None) same e))
    go ih (Some next) e = scan_step stack next t ls (scan next ls) e (ih next)

-- reading a balanced list is exact
pub exact_balanced : (ls : List Lexeme) → Exact balanced ls (scan [] ls)
exact_balanced ls = go (scan [] ls) (scan_exact [] ls)
  where
    go : (r : Read (List Lexeme)) → ScanExact [] ls r → Exact balanced ls r
    go r e = record {
      seen = e.seen;
      left = e.left;
      whole = e.whole;
      part = (e.after, e.part);
      outcome = out r e.outcome;
      farthest = λ p q h w. e.farthest p q h.0 h.1 w;
      only = λ s q x h w f. e.only s q h.1 w f ∙ ap (λ (l : List Lexeme). Ok (l, q)) (sym h.0);
    }
      where
        out : (r : Read (List Lexeme)) → Scanned [] e.seen e.left r → Outcome balanced e.seen e.left r
        out (Ok x) o = ((o.0, o.1), o.2)
        out (Err n) o = o
