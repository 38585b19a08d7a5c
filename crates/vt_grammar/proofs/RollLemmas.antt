-- One turn of a reader's loop: a repetition, and a balanced list.
use Rattle.std.proofs.Common.{length, not, ◌<◌, ℕ, zero, suc, ◌≡◌, ◌+◌, slice_get, subst, true, false, List, [], ◌∷◌, ◌++◌, take, drop, Ok, Err, refl, sym, ◌∙◌, ap, arith, append_assoc, reverse, if◌then◌else◌, Some, None}
use Rattle.std.proofs.lemmas.List.{reverse-append}
use Rattle.vt_grammar.specs.declared.symbol.Symbol.{Symbol}
use Rattle.vt_grammar.specs.declared.lexeme.Lexeme.{Lexeme}
use Rattle.vt_grammar.specs.Grammar.{Grammar, star, step}
use Rattle.vt_grammar.specs.Reading.{scan, scan_on, scan_end, Read, ◌>>=◌, first, is_decided, is_empty, starts, read}
use Rattle.vt_grammar.specs.Gives.{ahead, Fails}
use Rattle.vt_grammar.specs.declared.stop.Stop.{Stop}
use Rattle.vt_grammar.specs.declared.stop.Stop.TheVariants.{Fault, NoMemory}
use Rattle.vt_grammar.proofs.FaultLemmas.{unroll, shrinks}
use Rattle.vt_facts.proofs.BoolLemmas.{and_left, and_right, not_true}

-- nothing before a reading leaves it as it is
pub ahead_nil : {A : Type 0} (r : Read (List A)) → ahead [] r ≡ r
ahead_nil (Ok x) = refl
ahead_nil (Err n) = refl

-- one value more before a reading is the first of it
pub ahead_more : {A : Type 0} (out : List A) (x : A) (r : Read (List A)) → ahead (out ++ x ∷ []) r ≡ ahead out (r >>= λ y. Ok (x ∷ y.0, y.1))
ahead_more out x (Ok y) = ap (λ (l : List _). Ok (l, y.1)) (append_assoc out (x ∷ []) y.0)
ahead_more out x (Err n) = refl

-- nothing behind a list leaves it as it is
none_after : {A : Type 0} (xs : List A) → xs ≡ xs ++ []
none_after [] = refl
none_after (x ∷ xs) = ap (λ (l : List _). x ∷ l) (none_after xs)

module _ {A : Type 0} (a : Grammar A) (d : is_decided (star a) ≡ true) where
  -- where none begins, the repetition is empty
  pub roll_stops : (ls : List Lexeme) → starts (first a) ls ≡ false → read (star a) ls ≡ Ok ([], ls)
  roll_stops ls s = unroll a d ls ∙ ap (λ b. if b then (read a ls >>= λ x. read (star a) x.1 >>= λ y. Ok (x.0 ∷ y.0, y.1)) else Ok ([], ls)) s

  -- where none begins, what was read before is all
  pub roll_done : (out : List A) (ls : List Lexeme) → starts (first a) ls ≡ false → ahead out (read (star a) ls) ≡ Ok (out, ls)
  roll_done out ls s = ap (ahead out) (roll_stops ls s) ∙ ap (λ (l : List A). Ok (l, ls)) (sym (none_after out))

  -- where one begins, the repetition is it and another repetition
  turn : (ls : List Lexeme) → starts (first a) ls ≡ true → read (star a) ls ≡ (read a ls >>= λ x. read (star a) x.1 >>= λ y. Ok (x.0 ∷ y.0, y.1))
  turn ls s = unroll a d ls ∙ ap (λ b. if b then (read a ls >>= λ x. read (star a) x.1 >>= λ y. Ok (x.0 ∷ y.0, y.1)) else Ok ([], ls)) s

  -- the fault of one is the fault of the repetition
  pub roll_fails : (ls : List Lexeme) (n : ℕ) → starts (first a) ls ≡ true → read a ls ≡ Err n → read (star a) ls ≡ Err n
  roll_fails ls n s e = turn ls s ∙ ap (λ (r : Read A). r >>= λ x. read (star a) x.1 >>= λ y. Ok (x.0 ∷ y.0, y.1)) e

  -- one more is read, and the whole reading stays the same
  pub roll_goes : (out : List A) (ls rest : List Lexeme) (x : A) → starts (first a) ls ≡ true → read a ls ≡ Ok (x, rest) → ahead (out ++ x ∷ []) (read (star a) rest) ≡ ahead out (read (star a) ls)
  roll_goes out ls rest x s e = ahead_more out x (read (star a) rest) ∙ ap (ahead out) (sym (turn ls s ∙ ap (λ (r : Read A). r >>= λ x. read (star a) x.1 >>= λ y. Ok (x.0 ∷ y.0, y.1)) e))

  -- one takes a lexeme at least
  pub roll_shrinks : (ls : List Lexeme) (x : A) (rest : List Lexeme) → read a ls ≡ Ok (x, rest) → length rest < length ls
  roll_shrinks ls x rest e =
      let c = and_right (is_decided a) _ d in
      shrinks a (and_left (is_decided a) _ d) (not_true (is_empty a) (and_left (not (is_empty a)) _ c)) ls x rest e

  -- where one stops, so does the whole reading
  pub roll_stopped : (out : List A) (ls : List Lexeme) (stop : Stop) → starts (first a) ls ≡ true → Fails stop (read a ls) → Fails stop (ahead out (read (star a) ls))
  roll_stopped out ls NoMemory s e = tt
  roll_stopped out ls (Fault n) s e = ap (ahead out) (roll_fails ls n s e)

-- the last bracket to be closed comes first
pub reverse_push : {A : Type 0} (xs : List A) (x : A) → reverse (xs ++ x ∷ []) ≡ x ∷ reverse xs
reverse_push xs x = reverse-append xs (x ∷ [])

-- the lexeme at a place is the first of what is left there
drop_at : (n : ℕ) (ls : List Lexeme) (l : Lexeme) → slice_get ls n ≡ Some l → drop n ls ≡ l ∷ drop (suc n) ls
drop_at n [] l e = cc
drop_at zero (k ∷ ls) l e = let same : k ≡ l = cc (e) in ap (λ (v : Lexeme). v ∷ ls) same
drop_at (suc n) (k ∷ ls) l e = drop_at n ls l e

-- and the last of what is taken with it
take_at : (n : ℕ) (ls : List Lexeme) (l : Lexeme) → slice_get ls n ≡ Some l → take (suc n) ls ≡ take n ls ++ l ∷ []
take_at n [] l e = cc
take_at zero (k ∷ ls) l e = let same : k ≡ l = cc (e) in ap (λ (v : Lexeme). v ∷ []) same
take_at (suc n) (k ∷ ls) l e = ap (λ (v : List Lexeme). k ∷ v) (take_at n ls l e)

-- past the end nothing is left
drop_past : (n : ℕ) (ls : List Lexeme) → slice_get ls n ≡ None → drop n ls ≡ []
drop_past zero [] e = refl
drop_past (suc n) [] e = refl
drop_past zero (k ∷ ls) e = cc
drop_past (suc n) (k ∷ ls) e = drop_past n ls e

-- at the end a balanced list ends
pub scan_past : (n : ℕ) (st : List Symbol) (ls : List Lexeme) → slice_get ls n ≡ None → scan st (drop n ls) ≡ scan_end st (drop n ls)
scan_past n st ls e = ap (scan st) (drop_past n ls e) ∙ sym (ap (scan_end st) (drop_past n ls e))

-- a lexeme that can't stand ends a balanced list
pub scan_stops : (n : ℕ) (st : List Symbol) (ls : List Lexeme) (l : Lexeme) → slice_get ls n ≡ Some l → step st l.symbol ≡ None → scan st (drop n ls) ≡ scan_end st (drop n ls)
scan_stops n st ls l e h = ap (scan st) (drop_at n ls l e) ∙ ap (scan_on (λ s. scan s (drop (suc n) ls)) st l (drop (suc n) ls)) h ∙ sym (ap (scan_end st) (drop_at n ls l e))

-- one more lexeme is taken, and the whole reading stays the same
scan_next : (n : ℕ) (st after : List Symbol) (ls : List Lexeme) (l : Lexeme) → slice_get ls n ≡ Some l → step st l.symbol ≡ Some after
    → ahead (take (suc n) ls) (scan after (drop (suc n) ls)) ≡ ahead (take n ls) (scan st (drop n ls))
scan_next n st after ls l e h =
    ap (λ (v : List Lexeme). ahead v (scan after (drop (suc n) ls))) (take_at n ls l e)
    ∙ ahead_more (take n ls) l (scan after (drop (suc n) ls))
    ∙ ap (ahead (take n ls)) (sym (ap (scan st) (drop_at n ls l e) ∙ ap (scan_on (λ s. scan s (drop (suc n) ls)) st l (drop (suc n) ls)) h))

-- the same, with the number as the code counts it
pub scan_goes : (n : ℕ) (st after : List Symbol) (ls : List Lexeme) (l : Lexeme) → slice_get ls n ≡ Some l → step st l.symbol ≡ Some after
    → ahead (take (n + 1) ls) (scan after (drop (n + 1) ls)) ≡ ahead (take n ls) (scan st (drop n ls))
scan_goes n st after ls l e h =
    let one : suc n ≡ n + 1 = omega arith in
    subst (λ m. ahead (take m ls) (scan after (drop m ls)) ≡ ahead (take n ls) (scan st (drop n ls))) one (scan_next n st after ls l e h)
