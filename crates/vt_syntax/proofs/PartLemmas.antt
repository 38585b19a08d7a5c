-- Each part of a grammar can be gone on with, and reading takes the longest balanced front.
use Rattle.std.proofs.Common.{◌≡◌, ◌≤◌, inl, inr, Bool, true, false, List, [], ◌∷◌, ◌++◌, map, length, Option, Some, None, Ok, refl, sym, ◌∙◌, ap, subst, append_assoc, append-nil, if◌then◌else◌}
use Rattle.vt_grammar.specs.declared.symbol.Symbol.{Symbol}
use Rattle.vt_grammar.specs.declared.symbol.Symbol.TheVariants as symbol
use Rattle.vt_grammar.specs.declared.lexeme.Lexeme.{Lexeme}
use Rattle.vt_grammar.specs.Symbols.{same, closes, closer}
use Rattle.vt_grammar.specs.Grammar.{Grammar, nothing, token, seq, alt, star, made, balanced, Spells, SpellsAll, IsPart, close_one, open_one, step, still_open}
use Rattle.vt_grammar.specs.Reading.{read}
use Rattle.vt_grammar.proofs.Exact.{Exact}
use Rattle.vt_grammar.proofs.PartLemmas.{same_is, none_open, spells_part}
use Rattle.vt_grammar.proofs.FaultLemmas.{part_front}
use Rattle.vt_grammar.proofs.BalancedLemmas.{exact_balanced}
use Rattle.vt_syntax.specs.Parts.{CanGoOn, IsLongestBalanced}

-- ---- each grammar spells something

-- a lexeme of a symbol
abbrev of_symbol : Symbol → Lexeme
of_symbol s = record { symbol = s; text = []; line = 0 }

some_spelled : {A : Type 0} (g : Grammar A) → (ls : List Lexeme) × (x : A) × Spells g ls x
some_spelled nothing = ([], tt, refl)
some_spelled (token s) = (of_symbol s ∷ [], of_symbol s, (refl, refl))
some_spelled (seq a b) =
    let f = some_spelled a in
    let s = some_spelled b in
    (f.0 ++ s.0, (f.1, s.1), record { front = f.0; back = s.0; whole = refl; first = f.2; second = s.2 })
some_spelled (alt a b) = let f = some_spelled a in (f.0, f.1, inl f.2)
some_spelled (star a) = ([], [], refl)
some_spelled (made f a) = let s = some_spelled a in (s.0, f s.1, (s.1, s.2, refl))
some_spelled balanced = ([], [], (refl, refl))

-- ---- brackets that are open can be closed

abbrev AllClose : List Symbol → Type 0
AllClose [] = Unit {0}
AllClose (c ∷ stack) = (closes c ≡ true) × AllClose stack

abbrev AllCloseIn : Option (List Symbol) → Type 0
AllCloseIn None = Unit {0}
AllCloseIn (Some stack) = AllClose stack

closer_closes : (s : Symbol) (stack : List Symbol) → AllClose stack → AllClose (open_one stack (closer s))
closer_closes symbol.LeftParen stack h = (refl, h)
closer_closes symbol.LeftBrace stack h = (refl, h)
closer_closes symbol.LeftBracket stack h = (refl, h)
closer_closes s stack h = h

closed_one : (b : Bool) (stack : List Symbol) → AllClose stack → AllCloseIn (if b then Some stack else None)
closed_one true stack h = h
closed_one false stack h = tt

close_keeps : (stack : List Symbol) (s : Symbol) → AllClose stack → AllCloseIn (close_one stack s)
close_keeps [] s h = tt
close_keeps (c ∷ stack) s h = closed_one (same c s) stack h.1

step_by : (b : Bool) (stack : List Symbol) (s : Symbol) → AllClose stack → AllCloseIn (if b then close_one stack s else Some (open_one stack (closer s)))
step_by true stack s h = close_keeps stack s h
step_by false stack s h = closer_closes s stack h

-- what is still to be closed are closing brackets
stay_closing : (o : Option (List Symbol)) (ls : List Lexeme) → AllCloseIn o → AllCloseIn (still_open o ls)
stay_closing None ls h = tt
stay_closing (Some stack) [] h = h
stay_closing (Some stack) (l ∷ ls) h = stay_closing (step stack l.symbol) ls (step_by (closes l.symbol) stack l.symbol h)

-- a list and then another
open_append : (o : Option (List Symbol)) (xs ys : List Lexeme) → still_open o (xs ++ ys) ≡ still_open (still_open o xs) ys
open_append None xs ys = sym (none_open ys)
open_append (Some stack) [] ys = refl
open_append (Some stack) (x ∷ xs) ys = open_append (step stack x.symbol) xs ys

-- closing brackets in their order close all
all_closed : (stack : List Symbol) → AllClose stack → still_open (Some stack) (map of_symbol stack) ≡ Some []
all_closed [] h = refl
all_closed (c ∷ stack) h =
    ap (λ b. still_open (if b then close_one (c ∷ stack) c else Some (open_one (c ∷ stack) (closer c))) (map of_symbol stack)) h.0
    ∙ ap (λ b. still_open (if b then Some stack else None) (map of_symbol stack)) (same_is c c refl)
    ∙ all_closed stack h.1

-- ---- a part can be gone on with

-- one more value behind some
all_push : {A : Type 0} (P : List Lexeme → A → Type 0) (front s : List Lexeme) (xs : List A) (x : A) → SpellsAll P front xs → P s x → SpellsAll P (front ++ s) (xs ++ x ∷ [])
all_push P front s [] x h k = record { front = s; back = []; whole = ap (λ l. l ++ s) h ∙ sym (append-nil s); first = k; second = refl }
all_push P front s (y ∷ xs) x h k = record {
  front = h.front;
  back = h.back ++ s;
  whole = ap (λ l. l ++ s) h.whole ∙ append_assoc h.front h.back s;
  first = h.first;
  second = all_push P h.back s xs x h.second k;
}

pub goes_on : {A : Type 0} (g : Grammar A) (ls : List Lexeme) → IsPart g ls → CanGoOn g ls
goes_on nothing ls h = record { rest = []; value = tt; spelled = append-nil ls ∙ h }
goes_on (token s) ls (inl h) = record { rest = of_symbol s ∷ []; value = of_symbol s; spelled = (ap (λ l. l ++ of_symbol s ∷ []) h, refl) }
goes_on (token s) ls (inr h) = record { rest = []; value = h.0; spelled = (append-nil ls ∙ h.1, h.2) }
goes_on (seq a b) ls (inl h) =
    let c = goes_on a ls h in
    let s = some_spelled b in
    record {
      rest = c.rest ++ s.0;
      value = (c.value, s.1);
      spelled = record { front = ls ++ c.rest; back = s.0; whole = sym (append_assoc ls c.rest s.0); first = c.spelled; second = s.2 };
    }
goes_on (seq a b) ls (inr h) =
    let c = goes_on b h.1.back h.1.second in
    record {
      rest = c.rest;
      value = (h.0, c.value);
      spelled = record { front = h.1.front; back = h.1.back ++ c.rest; whole = ap (λ l. l ++ c.rest) h.1.whole ∙ append_assoc h.1.front h.1.back c.rest; first = h.1.first; second = c.spelled };
    }
goes_on (alt a b) ls (inl h) = let c = goes_on a ls h in record { rest = c.rest; value = c.value; spelled = inl c.spelled }
goes_on (alt a b) ls (inr h) = let c = goes_on b ls h in record { rest = c.rest; value = c.value; spelled = inr c.spelled }
goes_on (star a) ls (inl h) = record { rest = []; value = []; spelled = append-nil ls ∙ h }
goes_on (star a) ls (inr h) =
    let c = goes_on a h.1.back h.1.second in
    record {
      rest = c.rest;
      value = h.0 ++ c.value ∷ [];
      spelled = subst (λ l. SpellsAll (Spells a) l (h.0 ++ c.value ∷ []))
          (sym (ap (λ l. l ++ c.rest) h.1.whole ∙ append_assoc h.1.front h.1.back c.rest))
          (all_push (Spells a) h.1.front (h.1.back ++ c.rest) h.0 c.value h.1.first c.spelled);
    }
goes_on (made f a) ls h = let c = goes_on a ls h in record { rest = c.rest; value = f c.value; spelled = (c.value, c.spelled, refl) }
goes_on balanced ls h =
    let closing : AllClose h.0 = subst AllCloseIn h.1 (stay_closing (Some []) ls tt) in
    record {
      rest = map of_symbol h.0;
      value = ls ++ map of_symbol h.0;
      spelled = (refl, open_append (Some []) ls (map of_symbol h.0) ∙ ap (λ o. still_open o (map of_symbol h.0)) h.1 ∙ all_closed h.0 closing);
    }

-- and what can be gone on with is a part
pub is_part : {A : Type 0} (g : Grammar A) (ls : List Lexeme) → CanGoOn g ls → IsPart g ls
is_part g ls c = part_front g ls c.rest (spells_part g (ls ++ c.rest) c.value c.spelled)

-- ---- the longest balanced front

longest_seen : (ls front back : List Lexeme) (e : Exact balanced ls (Ok (front, back))) → IsLongestBalanced ls front back
longest_seen ls front back e =
    let same : front ≡ e.seen = e.outcome.0.0 in
    record {
      whole = e.whole ∙ ap (λ l. l ++ e.left) (sym same) ∙ ap (λ l. front ++ l) (sym e.outcome.1);
      closed = subst (λ l. still_open (Some []) l ≡ Some []) (sym same) e.outcome.0.1;
      longest = λ other rest w k. subst (λ l. length other ≤ length l) (sym same) (e.farthest other rest ([], k) w);
    }

pub read_longest : (ls front back : List Lexeme) → read balanced ls ≡ Ok (front, back) → IsLongestBalanced ls front back
unfolding read
read_longest ls front back e = longest_seen ls front back (subst (Exact balanced ls) e (exact_balanced ls))
