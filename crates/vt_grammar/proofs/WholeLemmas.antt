-- What a reading says of all the lexemes, where it follows a grammar that is the same.
use Rattle.std.proofs.Common.{ℕ, suc, ◌≡◌, ◌<◌, ◌+◌, ◌⊎◌, inl, inr, true, false, List, [], ◌∷◌, length, nat_eq, Result, Ok, Err, refl, sym, ◌∙◌, ap, subst, arith}
use Rattle.std.proofs.lemmas.Bool.{eqb-true, eq-eqb}
use Rattle.vt_grammar.specs.declared.lexeme.Lexeme.{Lexeme}
use Rattle.vt_grammar.specs.declared.stop.Stop.{Stop}
use Rattle.vt_grammar.specs.declared.stop.Stop.TheVariants.{Fault, NoMemory}
use Rattle.vt_grammar.specs.Grammar.{Grammar, Spells}
use Rattle.vt_grammar.specs.Fault.{IsFault}
use Rattle.vt_grammar.specs.SameAs.{SameAs}
use Rattle.vt_grammar.specs.Reading.{Read, is_decided, read}
use Rattle.vt_grammar.specs.Gives.{Fails, Gives}
use Rattle.vt_grammar.proofs.ExactLemmas.{ok_same, not_ok}
use Rattle.vt_grammar.proofs.FaultLemmas.{spelled_read, read_spelled, fault_err, fault_rest}
use Rattle.vt_grammar.specs.Inside.SameLaws.{same_fault, same_back}

-- an answer is what the reading gives
pub gives_ok : {X Y : Type 0} (view : X → Y × List Lexeme) (r : Result X Stop) (x : X) (rd : Read Y) → Gives view r rd → r ≡ Ok x → rd ≡ Ok (view x)
gives_ok view (Ok z) x rd h e = let same : z ≡ x = cc (e) in h ∙ ap (λ v. Ok (view v)) same
gives_ok view (Err z) x rd h e = absurd (let c : ⊥ = cc (e) in c)

-- a stop is the fault that the reading gives
pub gives_err : {X Y : Type 0} (view : X → Y × List Lexeme) (r : Result X Stop) (stop : Stop) (rd : Read Y) → Gives view r rd → r ≡ Err stop → Fails stop rd
gives_err view (Ok z) stop rd h e = absurd (let c : ⊥ = cc (e) in c)
gives_err view (Err z) stop rd h e = let same : z ≡ stop = cc (e) in subst (λ v. Fails v rd) same h

-- lexemes with a fault spell nothing
pub fault_none : {A : Type 0} (g : Grammar A) (ls : List Lexeme) (x : A) (n : ℕ) → IsFault g ls n → Spells g ls x → ⊥
fault_none g ls x n f h = f.none x h

-- no fault stands before another one
not_before : {A : Type 0} (g : Grammar A) (ls : List Lexeme) (n m : ℕ) (f : IsFault g ls n) (h : IsFault g ls m) → f.at < h.at → ⊥
not_before g ls n m f h l =
    let p : h.at + m ≡ length ls = h.place in
    let k : f.at < length ls = omega arith in
    f.here k (h.before (suc f.at) (omega arith))

-- lexemes have at most one fault
pub one_fault : {A : Type 0} (g : Grammar A) (ls : List Lexeme) (n m : ℕ) → IsFault g ls n → IsFault g ls m → n ≡ m
one_fault g ls n m f h = go f.at h.at f.place h.place (not_before g ls n m f h) (not_before g ls m n h f)
  where
    go : (a b : ℕ) → a + n ≡ length ls → b + m ≡ length ls → (a < b → ⊥) → (b < a → ⊥) → n ≡ m
    go a b p q k l = omega arith

module _ {A : Type 0} (g f : Grammar A) (d : is_decided f ≡ true) (same : SameAs g f) where
  -- what is read to the end is spelled
  pub whole_spelled : (ls : List Lexeme) (x : A) → read f ls ≡ Ok (x, []) → Spells g ls x
  whole_spelled ls x e = same.from ls x (read_spelled f d ls x e)

  -- what is spelled is read to the end
  pub spelled_whole : (ls : List Lexeme) (x : A) → Spells g ls x → read f ls ≡ Ok (x, [])
  spelled_whole ls x h = spelled_read f d ls x (same.to ls x h)

  -- lexemes spell at most one value
  pub one_value : (ls : List Lexeme) (x y : A) → Spells g ls x → Spells g ls y → x ≡ y
  one_value ls x y h k = ap (λ (z : A × List Lexeme). z.0) (ok_same (x, []) (y, []) (sym (spelled_whole ls x h) ∙ spelled_whole ls y k))

  -- where a reading stops, the fault stands
  pub err_fault : (ls : List Lexeme) (n : ℕ) → read f ls ≡ Err n → IsFault g ls n
  err_fault ls n e = same_fault f g (same_back g f same) ls n (fault_err f d ls n e)

  -- where a reading ends with lexemes left, the fault stands at the first of these
  pub rest_fault : (ls : List Lexeme) (x : A) (l : Lexeme) (rest : List Lexeme) → read f ls ≡ Ok (x, l ∷ rest) → IsFault g ls (length (l ∷ rest))
  rest_fault ls x l rest e = same_fault f g (same_back g f same) ls (length (l ∷ rest)) (fault_rest f d ls x l rest e)

  -- where nothing is left, what was read is spelled
  pub ended_spelled : (ls : List Lexeme) (x : A) (rest : List Lexeme) → read f ls ≡ Ok (x, rest) → nat_eq (length rest) 0 ≡ true → Spells g ls x
  ended_spelled ls x [] e n = whole_spelled ls x e
  ended_spelled ls x (l ∷ rest) e n = let z : suc (length rest) ≡ 0 = eqb-true (suc (length rest)) 0 n in absurd (omega arith)

  -- what is spelled was read, and nothing is left
  pub read_only : (ls : List Lexeme) (x : A) (rest : List Lexeme) (y : A) → read f ls ≡ Ok (x, rest) → Spells g ls y → (x ≡ y) × (rest ≡ [])
  read_only ls x rest y e h =
      let k = ok_same (x, rest) (y, []) (sym e ∙ spelled_whole ls y h) in
      (ap (λ (z : A × List Lexeme). z.0) k, ap (λ (z : A × List Lexeme). z.1) k)

  -- where something is left, nothing is spelled
  pub left_only : {T : Type 0} (ls : List Lexeme) (x : A) (rest : List Lexeme) (y : A) → read f ls ≡ Ok (x, rest) → nat_eq (length rest) 0 ≡ false → Spells g ls y → T
  left_only ls x rest y e n h =
      let k : nat_eq (length rest) 0 ≡ true = ap (λ (l : List Lexeme). nat_eq (length l) 0) (read_only ls x rest y e h).1 in
      absurd (let c : ⊥ = cc (k, n) in c)

  -- where something is left, the fault stands at the first of it
  pub left_fault : (ls : List Lexeme) (x : A) (rest : List Lexeme) (n : ℕ) → read f ls ≡ Ok (x, rest) → nat_eq (length rest) 0 ≡ false → length rest ≡ n → IsFault g ls n
  left_fault ls x [] n e k m = let c : nat_eq 0 0 ≡ true = eq-eqb 0 0 refl in absurd (let d : ⊥ = cc (c, k) in d)
  left_fault ls x (l ∷ rest) n e k m = subst (IsFault g ls) m (rest_fault ls x l rest e)

  -- where a reading stops that could have gone to the end, memory ran out
  pub stop_only : (ls : List Lexeme) (stop : Stop) (y : A) → Fails stop (read f ls) → Spells g ls y → stop ≡ NoMemory
  stop_only ls NoMemory y e h = refl
  stop_only ls (Fault n) y e h = not_ok n (y, []) (sym e ∙ spelled_whole ls y h)

  -- where a reading stops for a fault, it is the fault of the lexemes
  pub stop_fault : (ls : List Lexeme) (stop : Stop) (n : ℕ) → Fails stop (read f ls) → stop ≡ Fault n → IsFault g ls n
  stop_fault ls NoMemory n e h = absurd (let c : ⊥ = cc (h) in c)
  stop_fault ls (Fault m) n e h = let k : m ≡ n = cc (h) in subst (IsFault g ls) k (err_fault ls m e)

  -- lexemes spell a value, or have a fault
  pub spelled_or_fault : (ls : List Lexeme) → ((x : A) × Spells g ls x) ⊎ ((n : ℕ) × IsFault g ls n)
  spelled_or_fault ls = go (read f ls) refl
    where
      go : (r : Read A) → read f ls ≡ r → ((x : A) × Spells g ls x) ⊎ ((n : ℕ) × IsFault g ls n)
      go (Ok (x, [])) e = inl (x, whole_spelled ls x e)
      go (Ok (x, l ∷ rest)) e = inr (length (l ∷ rest), rest_fault ls x l rest e)
      go (Err n) e = inr (n, err_fault ls n e)
