-- Tables of programs that have one small pattern, as the tests name them.
use Rattle.std.proofs.Common.{◌≡◌, ◌↔◌, ◌∙◌, ℕ, zero, suc, ◌+◌, ◌≤◌, pos, length, true, false, inl, inr, subst, List, [], ◌∷◌, Some, slice_get, unwrap_or, All, None, ap, refl, sym, arith}
use Rattle.std.proofs.lemmas.Bool.{true≢false, false≢true, cases_Bool, or_cases}
use Rattle.std.proofs.lemmas.List.Elements.{All-cons, All-nil, All-head, All-contains}
use Rattle.std.proofs.lemmas.Option.{same_Some, none-some}
use Rattle.std.specs.List.Sorted.{IsStrictlySortedBy}
use Rattle.std.specs.Ordering.{eq_by_cmp}
use Rattle.vt_base.specs.Inside.OrderLaws.{IsTotalOrder-tuple_cmp}
use Rattle.vt_base.specs.Order.{tuple_cmp}
use Rattle.vt_base.specs.Rows.{Ascends, has_row}
use Rattle.vt_base.proofs.OrderLemmas.{exact-tuple_cmp, eq_by_cmp-Decides}
use Rattle.vt_base.proofs.RowsLemmas.{ascends-none}
use Rattle.vt_base.specs.declared.numbers.PatternId.{PatternId}
use Rattle.vt_base.specs.declared.value.Value.{Value}
use Rattle.vt_base.specs.declared.value.Value.TheVariants.{Int}
use Rattle.vt_model.specs.Metamodel.{Metamodel}
use Rattle.vt_model.specs.Model.{Model}
use Rattle.vt_query.specs.Holding.{Holds, table_of}
use Rattle.vt_query.specs.Terms.{agrees}
use Rattle.vt_query.specs.Tables.{Matches, IsMatch, IsTableOf, StandFor}
use Rattle.vt_query.specs.declared.program.Constraint.{Constraint}
use Rattle.vt_query.specs.declared.program.Constraint.TheVariants.{Find, Neg}
use Rattle.vt_query.specs.declared.program.Body.{Body}
use Rattle.vt_query.specs.declared.program.Pattern.{Pattern}
use Rattle.vt_query.specs.declared.program.Program.{Program}

-- a body without variables
abbrev pub closed_body : List Constraint → Body
closed_body cs = record { vars = 0; constraints = cs }

-- a pattern of one body, without parameters and variables
abbrev pub closed_pattern : List Constraint → Pattern
closed_pattern cs = record { name = []; shown = true; params = []; bodies = closed_body cs ∷ [] }

-- the program that has it alone
abbrev pub closed : List Constraint → Program
closed cs = record { patterns = closed_pattern cs ∷ [] }

-- the number of the pattern
abbrev pub first : PatternId
first = record { 0 = 0 }

-- a list of length 0 is empty
none_of_length : (values : List Value) → length values ≡ 0 → values ≡ []
none_of_length [] e = refl
none_of_length (v ∷ values) e = absurd (omega arith)

-- the row () alone ascends
Ascends-lone : Ascends ([] ∷ [])
unfolding IsStrictlySortedBy
Ascends-lone = (tt, tt)

module _ (meta : Metamodel) (g : Model) (cs : List Constraint) where
  -- ---- what matches

  -- a match is the row (), and the constraints hold
  matched_so : (tables : List (List (List Value))) (row : List Value) → IsMatch meta g tables (closed_pattern cs) row → (row ≡ []) × All (Holds meta g tables []) cs
  matched_so tables row m =
      let same : closed_body cs ≡ m.body = All-contains (λ b. closed_body cs ≡ b) (closed_body cs ∷ []) m.body (All-cons (λ b. closed_body cs ≡ b) (closed_body cs) [] refl (All-nil (λ b. closed_body cs ≡ b))) m.of in
      let matches : Matches meta g tables 0 row (closed_body cs) = subst (λ b. Matches meta g tables 0 row b) (sym same) m.matches in
      (sym matches.begins, subst (λ values. All (Holds meta g tables values) cs) (none_of_length matches.values matches.count) matches.all)

  -- where they hold the row () is a match
  match_of : (tables : List (List (List Value))) → All (Holds meta g tables []) cs → IsMatch meta g tables (closed_pattern cs) []
  match_of tables h = record {
    body = closed_body cs;
    of = (0, omega arith, refl);
    matches = record { values = []; count = refl; begins = refl; all = h };
  }

  -- ---- what stands for the program

  -- the pattern's table is that of the only place at which a pattern stands
  at_place : (table : List (List Value)) → IsTableOf meta g (table ∷ []) (closed_pattern cs) table → (n : ℕ) (pattern : Pattern) → slice_get (closed_pattern cs ∷ []) n ≡ Some pattern
      → IsTableOf meta g (table ∷ []) pattern (unwrap_or (slice_get (table ∷ []) n) [])
  at_place table t zero pattern at = subst (λ p. IsTableOf meta g (table ∷ []) p table) (same_Some _ _ at) t
  at_place table t (suc n) pattern at = absurd (none-some pattern at)

  -- the list that has the pattern's table alone
  stand_for : (table : List (List Value)) → IsTableOf meta g (table ∷ []) (closed_pattern cs) table → StandFor meta g (closed cs) (table ∷ [])
  stand_for table t = record { count = refl; each = λ p pattern at. at_place table t p.0 pattern at }

  -- the row () alone stands, and it alone matches
  rows-one : All (Holds meta g (([] ∷ []) ∷ []) []) cs → (row : List Value) → (has_row ([] ∷ []) row ≡ true) ↔ IsMatch meta g (([] ∷ []) ∷ []) (closed_pattern cs) row
  rows-one h [] = (λ stands. match_of (([] ∷ []) ∷ []) h, λ m. refl)
  rows-one h (v ∷ row) = (λ stands. absurd (false≢true stands), λ m. let e : (v ∷ row) ≡ [] = (matched_so (([] ∷ []) ∷ []) (v ∷ row) m).0 in cc)

  -- the row (), where the constraints hold beside it
  pub StandFor-one : All (Holds meta g (([] ∷ []) ∷ []) []) cs → StandFor meta g (closed cs) (([] ∷ []) ∷ [])
  StandFor-one h = stand_for ([] ∷ []) (record { ascends = Ascends-lone; rows = rows-one h })

  -- no row, where they don't hold beside none
  pub StandFor-none : (All (Holds meta g ([] ∷ []) []) cs → ⊥) → StandFor meta g (closed cs) ([] ∷ [])
  StandFor-none never = stand_for [] (record {
    ascends = ascends-none tuple_cmp;
    rows = λ row. (λ stands. absurd (false≢true stands), λ m. absurd (never (matched_so ([] ∷ []) row m).1));
  })

-- ---- a pattern that calls itself

-- matched exactly where it is, it may have no row
pub StandFor-found_none : (meta : Metamodel) (g : Model) → StandFor meta g (closed (Find first [] ∷ [])) ([] ∷ [])
StandFor-found_none meta g = StandFor-none meta g (Find first [] ∷ []) (λ h. false≢true (All-head (Holds meta g ([] ∷ []) []) (Find first []) [] h).2)

-- or the row ()
pub StandFor-found_one : (meta : Metamodel) (g : Model) → StandFor meta g (closed (Find first [] ∷ [])) (([] ∷ []) ∷ [])
StandFor-found_one meta g =
    StandFor-one meta g (Find first [] ∷ []) (All-cons (Holds meta g (([] ∷ []) ∷ []) []) (Find first []) [] ([], refl, refl) (All-nil (Holds meta g (([] ∷ []) ∷ []) [])))

-- no row of a table without the row () agrees with no arguments
no_row_agrees : (table : List (List Value)) → has_row table [] ≡ false → (row : List Value) → has_row table row ≡ true → agrees [] [] row ≡ false
no_row_agrees table absent [] stands = absurd (false≢true (sym absent ∙ stands))
no_row_agrees table absent (v ∷ row) stands = refl

-- matched exactly where it isn't, it can neither have the row () nor lack it
pub StandFor-denied : (meta : Metamodel) (g : Model) (tables : List (List (List Value))) → StandFor meta g (closed (Neg first [] ∷ [])) tables → ⊥
StandFor-denied meta g tables s =
    let cs : List Constraint = Neg first [] ∷ [] in
    let t : IsTableOf meta g tables (closed_pattern cs) (table_of tables first) = s.each first (closed_pattern cs) refl in
    elim (cases_Bool (has_row (table_of tables first) [])) [
      | inl stands ↦ true≢false (All-head (Holds meta g tables []) (Neg first []) [] (matched_so meta g cs tables [] ((t.rows []).0 stands)).1 [] stands)
      | inr absent ↦ false≢true (sym absent ∙ (t.rows []).1 (match_of meta g cs tables (All-cons (Holds meta g tables []) (Neg first []) [] (no_row_agrees (table_of tables first) absent) (All-nil (Holds meta g tables [])))))
    ]

-- ---- a pattern with a parameter that stands in no constraint

-- a pattern with one variable, its parameter
abbrev pub free_pattern : Pattern
free_pattern = record { name = []; shown = true; params = record { name = []; ty = None } ∷ []; bodies = record { vars = 1; constraints = [] } ∷ [] }

-- each value is a match
each_matches : (meta : Metamodel) (g : Model) (tables : List (List (List Value))) (v : Value) → IsMatch meta g tables free_pattern (v ∷ [])
each_matches meta g tables v = record {
  body = record { vars = 1; constraints = [] };
  of = (0, omega arith, refl);
  matches = record { values = v ∷ []; count = refl; begins = refl; all = All-nil (Holds meta g tables (v ∷ [])) };
}

-- the number that a row is
number : List Value → ℕ
number (Int (pos n) ∷ []) = n
number row = 0

-- the sum of these numbers
bound : List (List Value) → ℕ
bound [] = 0
bound (row ∷ table) = number row + bound table

-- a number that is a row is at most the bound
has_row-bound : (table : List (List Value)) (n : ℕ) → has_row table (Int (pos n) ∷ []) ≡ true → n ≤ bound table
unfolding number bound
has_row-bound [] n e = absurd (false≢true e)
has_row-bound (row ∷ table) n e =
    elim (or_cases (eq_by_cmp tuple_cmp (Int (pos n) ∷ []) row) (has_row table (Int (pos n) ∷ [])) e) [
      | inl same ↦ let e : n ≡ number row = ap number ((eq_by_cmp-Decides IsTotalOrder-tuple_cmp exact-tuple_cmp (Int (pos n) ∷ []) row).0 same) in omega arith
      | inr later ↦ omega (arith, has_row-bound table n later)
    ]

-- its table would have every value
pub StandFor-free : (meta : Metamodel) (g : Model) (tables : List (List (List Value))) → StandFor meta g (record { patterns = free_pattern ∷ [] }) tables → ⊥
StandFor-free meta g tables s =
    let n : ℕ = suc (bound (table_of tables first)) in
    let stands : has_row (table_of tables first) (Int (pos n) ∷ []) ≡ true = ((s.each first free_pattern refl).rows (Int (pos n) ∷ [])).1 (each_matches meta g tables (Int (pos n))) in
    absurd (omega (arith, has_row-bound (table_of tables first) n stands))
