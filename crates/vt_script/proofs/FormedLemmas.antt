-- The words of what is spelled have their forms.
use Rattle.std.proofs.Common.{◌≡◌, ◌≢◌, ℕ, ◌≤◌, Bool, true, false, ◌&&◌, List, [], ◌∷◌, Option, Some, None, refl, subst, arith}
use Rattle.std.proofs.Common.{◌⊎◌, inl, inr, ◌<◌, length, get_or}
use Rattle.std.specs.Prelude.{if◌then◌else◌, nat_le, option_map, codes, slice_get, Result, Ok, Err}
use Rattle.std.specs.List.{AllByRecursion}
use Rattle.std.specs.Str.{is_utf8}
use Rattle.std.proofs.lemmas.Option.{slice_get_cases}
use Rattle.vt_facts.specs.Lines.{lines_of}
use Rattle.vt_facts.specs.Names.{is_name as is_word}
use Rattle.vt_script.specs.Script.{Fault, not_text, Numbered, written, followed, commands_of, limited, text_script, script_of}
use Rattle.std.proofs.lemmas.Bool.Decides.{nat_tests}
use Rattle.vt_facts.specs.Parts.{◌>>=◌}
use Rattle.vt_facts.proofs.BoolLemmas.{and_right}
use Rattle.vt_json.specs.Names.{is_name, continues_object_name}
use Rattle.vt_tokens.specs.Lexicon.{number_of}
use Rattle.vt_model.specs.declared.change.Change.{Change}
use Rattle.vt_model.specs.declared.change.Change.TheVariants as change
use Rattle.vt_script.specs.declared.line.Line.{Line}
use Rattle.vt_script.specs.declared.line.Line.TheVariants as line
use Rattle.vt_script.specs.declared.verbs.Verb.{Verb}
use Rattle.vt_script.specs.declared.verbs.Verb.TheVariants as verb
use Rattle.vt_script.specs.declared.verbs.Edit.{Edit}
use Rattle.vt_script.specs.declared.verbs.Edit.TheVariants as edit
use Rattle.vt_script.specs.Words.{cut, is_identifier, identifier, object_name, is_numeral, number, value, policy, something}
use Rattle.vt_script.specs.Commands.{one, two, three, edit_of, edited, change_of, verb_of, commanded, command_of}
use Rattle.vt_script.specs.Formed.{IsObjectName, IsIdentifier, IsFormedChange, IsFormed}

-- ---- parts that are there

module _ {A B : Type 0} where
  bound : (o : Option A) (f : A → Option B) (y : B) → (o >>= f) ≡ Some y → (x : A) × (o ≡ Some x) × (f x ≡ Some y)
  bound None f y e = absurd (cc e)
  bound (Some x) f y e = (x, refl, e)

  mapped : (f : A → B) (o : Option A) (y : B) → option_map f o ≡ Some y → (x : A) × (o ≡ Some x) × (f x ≡ y)
  mapped f None y e = absurd (cc e)
  mapped f (Some x) y e = (x, refl, cc e)

tested : {A : Type 0} (t : Bool) (a x : A) → (if t then Some a else None) ≡ Some x → (t ≡ true) × (a ≡ x)
tested true a x e = (refl, cc e)
tested false a x e = absurd (cc e)

-- ---- words

formed_identifier : (bytes x : List ℕ) → identifier bytes ≡ Some x → IsIdentifier x
formed_identifier bytes x e = let h = tested (is_identifier bytes) bytes x e in subst IsIdentifier h.1 h.0

formed_object_name : (bytes x : List ℕ) → object_name bytes ≡ Some x → IsObjectName x
formed_object_name bytes x e = let h = tested (is_name continues_object_name bytes) bytes x e in subst IsObjectName h.1 h.0

bounded : (most : ℕ) (bytes : List ℕ) (n : ℕ) → number most bytes ≡ Some n → n ≤ most
bounded most bytes n e =
    let h = tested (is_numeral bytes && nat_le (number_of bytes) most) (number_of bytes) n e in
    let small : nat_le (number_of bytes) most ≡ true = and_right (is_numeral bytes) (nat_le (number_of bytes) most) h.0 in
    let within : number_of bytes ≤ most = grind (arith, nat_tests) in
    subst (λ k. k ≤ most) h.1 within

some : (bytes x : List ℕ) → something bytes ≡ Some x → x ≢ []
some [] x e = λ _. cc
some (b ∷ bs) x e = λ h. cc

-- ---- one to three of them

of_one : {A Made : Type 0} (P : Made → Type 0) (a : List ℕ → Option A) (make : A → Made) (bytes : List ℕ) (y : Made) → one a make bytes ≡ Some y
    → ((x : A) (w : List ℕ) → a w ≡ Some x → P (make x)) → P y
of_one P a make bytes y e h = let m = mapped make (a bytes) y e in subst P m.2 (h m.0 bytes m.1)

of_two : {A B Made : Type 0} (P : Made → Type 0) (a : List ℕ → Option A) (b : List ℕ → Option B) (make : A → B → Made) (bytes : List ℕ) (y : Made) → two a b make bytes ≡ Some y
    → ((x : A) (z : B) (v w : List ℕ) → a v ≡ Some x → b w ≡ Some z → P (make x z)) → P y
of_two P a b make bytes y e h =
    let parts = bound (cut bytes) (λ q. a q.0 >>= λ x. one b (make x) q.1) y e in
    let first = bound (a parts.0.0) (λ x. one b (make x) parts.0.1) y parts.2 in
    of_one P b (make first.0) parts.0.1 y first.2 (λ z w k. h first.0 z parts.0.0 w first.1 k)

of_three : {A B C Made : Type 0} (P : Made → Type 0) (a : List ℕ → Option A) (b : List ℕ → Option B) (c : List ℕ → Option C) (make : A → B → C → Made) (bytes : List ℕ) (y : Made)
    → three a b c make bytes ≡ Some y → ((x : A) (z : B) (q : C) (u v w : List ℕ) → a u ≡ Some x → b v ≡ Some z → c w ≡ Some q → P (make x z q)) → P y
of_three P a b c make bytes y e h =
    let parts = bound (cut bytes) (λ q. a q.0 >>= λ x. two b c (make x) q.1) y e in
    let first = bound (a parts.0.0) (λ x. two b c (make x) parts.0.1) y parts.2 in
    of_two P b c (make first.0) parts.0.1 y first.2 (λ z q v w k l. h first.0 z q parts.0.0 v w first.1 k l)

-- ---- changes and commands

formed_edited : (e : Edit) (rest : List ℕ) (y : Change) → edited e rest ≡ Some y → IsFormedChange y
formed_edited edit.Create rest y h = of_two IsFormedChange object_name identifier (λ name class. change.Create name class None) rest y h
    (λ x z v w k l. (formed_object_name v x k, formed_identifier w z l, refl))
formed_edited edit.Delete rest y h = of_one IsFormedChange object_name change.Delete rest y h (λ x w k. formed_object_name w x k)
formed_edited edit.Set rest y h = of_three IsFormedChange object_name identifier value change.Set rest y h
    (λ x z q u v w k l m. (formed_object_name u x k, formed_identifier v z l))
formed_edited edit.Unset rest y h = of_two IsFormedChange object_name identifier change.Unset rest y h
    (λ x z v w k l. (formed_object_name v x k, formed_identifier w z l))
formed_edited edit.Link rest y h = of_three IsFormedChange object_name identifier object_name change.Link rest y h
    (λ x z q u v w k l m. (formed_object_name u x k, formed_identifier v z l, formed_object_name w q m))
formed_edited edit.Unlink rest y h = of_three IsFormedChange object_name identifier object_name change.Unlink rest y h
    (λ x z q u v w k l m. (formed_object_name u x k, formed_identifier v z l, formed_object_name w q m))
formed_edited edit.Move rest y h = of_three IsFormedChange object_name object_name identifier change.Move rest y h
    (λ x z q u v w k l m. (formed_object_name u x k, formed_object_name v z l, formed_identifier w q m))

formed_change : (rest : List ℕ) (y : Change) → change_of rest ≡ Some y → IsFormedChange y
unfolding change_of
formed_change rest y e =
    let parts = bound (cut rest) (λ q. edit_of q.0 >>= λ d. edited d q.1) y e in
    let word = bound (edit_of parts.0.0) (λ d. edited d parts.0.1) y parts.2 in
    formed_edited word.0 parts.0.1 y word.2

formed_commanded : (v : Verb) (rest : List ℕ) (y : Line) → commanded v rest ≡ Some y → IsFormed y
formed_commanded verb.Begin rest y h = of_one IsFormed object_name line.Begin rest y h (λ x w k. formed_object_name w x k)
formed_commanded verb.Commit rest y h = of_one IsFormed object_name line.Commit rest y h (λ x w k. formed_object_name w x k)
formed_commanded verb.Abort rest y h = of_one IsFormed object_name line.Abort rest y h (λ x w k. formed_object_name w x k)
formed_commanded verb.Change rest y h = of_two IsFormed object_name change_of line.Change rest y h
    (λ x z v w k l. (formed_object_name v x k, formed_change w z l))
formed_commanded verb.Fire rest y h = of_two IsFormed identifier (number 100000) line.Fire rest y h
    (λ x z v w k l. (formed_identifier v x k, bounded 100000 w z l))
formed_commanded verb.Swap rest y h = of_two IsFormed identifier policy line.Swap rest y h (λ x z v w k l. formed_identifier v x k)
formed_commanded verb.Matches rest y h = of_one IsFormed identifier line.Matches rest y h (λ x w k. formed_identifier w x k)
formed_commanded verb.Activations rest y h = of_one IsFormed identifier line.Activations rest y h (λ x w k. formed_identifier w x k)
formed_commanded verb.Group rest y h = of_three IsFormed identifier (number 15) something line.Group rest y h
    (λ x z q u v w k l m. (formed_identifier u x k, bounded 15 v z l, some w q m))

either : (t : Bool) (x y : Line) (o : Option Line) → (if t then Some x else o) ≡ Some y → (x ≡ y) ⊎ (o ≡ Some y)
either true x y o e = inl (cc e)
either false x y o e = inr e

formed_command : (bytes : List ℕ) (y : Line) → command_of bytes ≡ Some y → IsFormed y
unfolding command_of
formed_command bytes y e = by (either (is_word bytes (codes "dump")) line.Dump y (cut bytes >>= λ q. verb_of q.0 >>= λ v. commanded v q.1) e)
  where
    by : (line.Dump ≡ y) ⊎ ((cut bytes >>= λ q. verb_of q.0 >>= λ v. commanded v q.1) ≡ Some y) → IsFormed y
    by (inl same) = subst IsFormed same tt
    by (inr other) =
        let parts = bound (cut bytes) (λ q. verb_of q.0 >>= λ v. commanded v q.1) y other in
        let word = bound (verb_of parts.0.0) (λ v. commanded v parts.0.1) y parts.2 in
        formed_commanded word.0 parts.0.1 y word.2

-- ---- scripts

followed_parts : (n : ℕ) (o : Option Line) (r : Result (List Line) Fault) (lines : List Line) → followed n o r ≡ Ok lines
    → (x : Line) × (xs : List Line) × (o ≡ Some x) × (r ≡ Ok xs) × (x ∷ xs ≡ lines)
followed_parts n None r lines e = absurd (cc e)
followed_parts n (Some x) (Ok xs) lines e = (x, xs, refl, refl, cc e)
followed_parts n (Some x) (Err f) lines e = absurd (cc e)

formed_all : (ws : List Numbered) (lines : List Line) → commands_of ws ≡ Ok lines → AllByRecursion IsFormed lines × (length lines ≡ length ws)
formed_all [] lines e = let same : [] ≡ lines = cc e in subst (λ l. AllByRecursion IsFormed l × (length l ≡ 0)) same (tt, refl)
formed_all (w ∷ ws) lines e =
    let parts = followed_parts w.number (command_of w.bytes) (commands_of ws) lines e in
    let rest = formed_all ws parts.1 parts.3 in
    subst (λ l. AllByRecursion IsFormed l × (length l ≡ length (w ∷ ws))) parts.4
    ((formed_command w.bytes parts.0 parts.2, rest.0), omega (arith, rest.1))

limited_parts : (r : Result (List Line) Fault) (extra : Option Numbered) (lines : List Line) → limited r extra ≡ Ok lines → (r ≡ Ok lines) × (extra ≡ None)
limited_parts (Err f) extra lines e = absurd (cc e)
limited_parts (Ok xs) (Some w) lines e = absurd (cc e)
limited_parts (Ok xs) None lines e = (e, refl)

few : (ws : List Numbered) (n : ℕ) → slice_get ws n ≡ None → length ws ≤ n
few ws n e = by (slice_get_cases ws n).1
  where
    by : ((x : Numbered) × (n < length ws) × (slice_get ws n ≡ Some x) × (get_or ws n x ≡ x)) ⊎ ((length ws ≤ n) × (slice_get ws n ≡ None)) → length ws ≤ n
    by (inl there) = absurd (cc (e, there.2))
    by (inr past) = past.0

spelled : (t : Bool) (r : Result (List Line) Fault) (f : Fault) (lines : List Line) → (if t then r else Err f) ≡ Ok lines → r ≡ Ok lines
spelled true r f lines e = e
spelled false r f lines e = absurd (cc e)

pub formed_script : (bytes : List ℕ) (lines : List Line) → script_of bytes ≡ Ok lines → AllByRecursion IsFormed lines × (length lines ≤ 100000)
unfolding script_of
formed_script bytes lines e =
    let ws = written 1 (lines_of bytes) in
    let parts = limited_parts (commands_of ws) (slice_get ws 100000) lines (spelled (is_utf8 bytes) (text_script ws) (not_text 1) lines e) in
    let all = formed_all ws lines parts.0 in
    (all.0, omega (arith, all.1, few ws 100000 parts.1))
