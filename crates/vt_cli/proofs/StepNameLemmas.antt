-- What the rows of a run name has a name: those of the model now, and those that a step took away.
use Rattle.std.proofs.Common.{◌≡◌, ◌⊎◌, inl, inr, ℕ, zero, suc, Bool, true, List, [], ◌∷◌, ◌++◌, Option, Some, None, option_map, find, refl, sym, subst, ◌∙◌, arith}
use Rattle.std.specs.Prelude.{Contains, ◌==◌, ◌&&◌, IsSome, slice_get, position, option_and_then}
use Rattle.std.specs.Option.{option_or}
use Rattle.std.proofs.lemmas.Bool.{eq-eqb}
use Rattle.std.proofs.lemmas.Bool.Decides.{nat_tests}
use Rattle.std.proofs.lemmas.List.Elements.{All-contains, All-from_recursion, recursion_from_All}
use Rattle.std.proofs.lemmas.List.Folds.{find-append}
use Rattle.vt_facts.proofs.MemberLemmas.{Contains-behind, Contains-map, Contains-from_map, Contains-find, find-some, All-from_contains}
use Rattle.vt_base.specs.Rows.{has_row}
use Rattle.vt_base.specs.Names.{EnumNames, ObjectName, object_name, IsNamed, AreNamed}
use Rattle.vt_base.specs.declared.numbers.ObjId.{ObjId}
use Rattle.vt_base.specs.declared.value.Value.{Value}
use Rattle.vt_base.specs.declared.value.Value.TheVariants.{Bool as Flag, Int, Text, Enum, Obj}
use Rattle.vt_facts.specs.Names.{is_name}
use Rattle.vt_model.specs.Model.{Model, object_names}
use Rattle.vt_model.specs.Kept.{IsKnown, Keeps}
use Rattle.vt_model.specs.declared.model.Object.{Object}
use Rattle.vt_graph.specs.Asked.{all_names}
use Rattle.vt_query.specs.declared.program.Pattern.{Pattern}
use Rattle.vt_query.specs.declared.program.Program.{Program}
use Rattle.vt_history.specs.declared.report.PatternEvents.{PatternEvents}
use Rattle.vt_session.specs.Session.{table_in}
use Rattle.vt_cli.specs.Inside.Marks.{happened, event_rows}
use Rattle.vt_cli.specs.Inside.Printable.{AllNamed, AllTablesNamed, AllEventsNamed}
use Rattle.vt_cli.proofs.NamedLemmas.{each_weaker}
use Rattle.vt_cli.proofs.EventLemmas.{Each, has-contains, contains-has, has-event_rows, happened_within}

-- ---- objects

-- a name that stands among names is found
named_there : (names : List ObjectName) (o : ObjId) (name : List ℕ) → Contains names (record { object = o; name = name }) → IsSome (object_name names o)
named_there names o name there =
    let found = find-some (λ (n : ObjectName). n.object.0 == o.0) names (record { object = o; name = name }) there (eq-eqb o.0 o.0 refl) in
    subst (λ s. IsSome (option_map (λ (n : ObjectName). n.name) s)) (sym found.1) refl

-- a number that has a name is that of a live object
live_named : (g : Model) (o : ObjId) (found : Option ObjectName) → find (λ n. n.object.0 == o.0) (object_names g) ≡ found
    → IsSome (option_map (λ (n : ObjectName). n.name) found) → (x : Object) × Contains g.live x × (x.number ≡ o)
live_named g o None is some = absurd (let none : ⊥ = cc in none)
live_named g o (Some n) is some =
    let there = Contains-find (λ (n : ObjectName). n.object.0 == o.0) (object_names g) n is in
    let from = Contains-from_map (λ (x : Object). record { object = x.number; name = x.name }) g.live n there.0 in
    (from.0, from.1, same_number from.0.number o (subst (λ (m : ObjectName). (m.object.0 == o.0) ≡ true) (sym from.2) there.1))
  where
    same_number : (x y : ObjId) → (x.0 == y.0) ≡ true → x ≡ y
    same_number x y e = let same : x.0 ≡ y.0 = grind (arith, nat_tests) in λ i. record { 0 = same i }

known_named : (g : Model) (o : ObjId) (name : List ℕ) → IsKnown g o name → IsSome (object_name (all_names g) o)
known_named g o name (inl live) =
    let first = named_there (object_names g) o name (Contains-map (λ (x : Object). record { object = x.number; name = x.name }) g.live _ live.1) in
    subst (λ s. IsSome (option_map (λ (n : ObjectName). n.name) s)) (sym (find-append (λ (n : ObjectName). n.object.0 == o.0) (object_names g) _))
    (still (find (λ (n : ObjectName). n.object.0 == o.0) (object_names g)) _ first)
  where
    still : (r s : Option ObjectName) → IsSome (option_map (λ (n : ObjectName). n.name) r) → IsSome (option_map (λ (n : ObjectName). n.name) (option_or r s))
    still (Some x) s there = there
    still None s there = absurd (let none : ⊥ = cc in none)
known_named g o name (inr gone) = named_there (all_names g) o name (among (object_names g) _ _ (Contains-map _ g.gone _ gone))
  where
    among : (xs ys : List ObjectName) (n : ObjectName) → Contains ys n → Contains (xs ++ ys) n
    among [] ys n there = there
    among (x ∷ xs) ys n there = Contains-behind x n (xs ++ ys) (among xs ys n there)

-- what had a name among the live objects has one after a step
kept_named : (enums : List EnumNames) (g after : Model) → Keeps g after → (v : Value) → IsNamed enums (object_names g) v → IsNamed enums (all_names after) v
kept_named enums g after keeps (Flag b) named = named
kept_named enums g after keeps (Int n) named = named
kept_named enums g after keeps (Text s) named = named
kept_named enums g after keeps (Enum e l) named = named
kept_named enums g after keeps (Obj o) named =
    let x = live_named g o (find (λ n. n.object.0 == o.0) (object_names g)) refl named in
    known_named after o x.0.name (subst (λ p. IsKnown after p x.0.name) x.2 (keeps.names x.0.number x.0.name (inl (x.0.class, x.1))))

pub kept_tables_named : (enums : List EnumNames) (g after : Model) → Keeps g after → (tables : List (List (List Value)))
    → AllTablesNamed enums (object_names g) tables → AllTablesNamed enums (all_names after) tables
kept_tables_named enums g after keeps tables named =
    each_weaker (AllNamed enums (object_names g)) (AllNamed enums (all_names after))
    (each_weaker (AreNamed enums (object_names g)) (AreNamed enums (all_names after))
    (each_weaker (IsNamed enums (object_names g)) (IsNamed enums (all_names after)) (kept_named enums g after keeps))) tables named

-- ---- tables

module _ (enums : List EnumNames) (objects : List ObjectName) where
  row_named : (rows : List (List Value)) (row : List Value) → AllNamed enums objects rows → has_row rows row ≡ true → AreNamed enums objects row
  row_named rows row named there =
      All-contains (AreNamed enums objects) rows row (All-from_recursion (AreNamed enums objects) rows named) (has-contains rows row there)

  -- ---- events

  -- what happened to a pattern is in its tables
  event_named : (old new : List (List Value)) (e : PatternEvents) (row : List Value) → AllNamed enums objects old → AllNamed enums objects new
      → ((r : List Value) → has_row (happened e) r ≡ true → (has_row old r ≡ true) ⊎ (has_row new r ≡ true))
      → Contains (happened e) row → AreNamed enums objects row
  event_named old new e row olds news within there = elim (within row (contains-has (happened e) row there)) [
    | inl stood ↦ row_named old row olds stood
    | inr stands ↦ row_named new row news stands
  ]

  pub events_named : (before after : Model) (olds news : List (List (List Value))) (events : List PatternEvents)
      → AllTablesNamed enums objects olds → AllTablesNamed enums objects news → Each before after olds news events → AllEventsNamed enums objects events
  events_named before after olds news [] a b each = tt
  events_named before after [] [] (e ∷ events) a b each = absurd each
  events_named before after [] (new ∷ news) (e ∷ events) a b each = absurd each
  events_named before after (old ∷ olds) [] (e ∷ events) a b each = absurd each
  events_named before after (old ∷ olds) (new ∷ news) (e ∷ events) a b each = (
    recursion_from_All (AreNamed enums objects) (happened e)
        (All-from_contains (AreNamed enums objects) (happened e) (λ row there. event_named old new e row a.0 b.0 (happened_within before after old new e each.0) there)),
    events_named before after olds news events a.1 b.1 each.1,
  )

  -- what the set of what happened names
  pub event_rows_named : (e : PatternEvents) (rows : List (List Value)) → rows ≡ event_rows e → AllNamed enums objects (happened e) → AllNamed enums objects rows
  event_rows_named e rows is named = subst (AllNamed enums objects) (sym is)
      (recursion_from_All (AreNamed enums objects) (event_rows e)
      (All-from_contains (AreNamed enums objects) (event_rows e) (λ row there. row_named (happened e) row named (sym (has-event_rows e row) ∙ contains-has (event_rows e) row there))))

  -- ---- the table of a pattern that is asked for

  found_named : (tables : List (List (List Value))) (n : ℕ) (rows : List (List Value)) → AllTablesNamed enums objects tables → slice_get tables n ≡ Some rows → AllNamed enums objects rows
  found_named [] n rows named e = absurd (let none : ⊥ = cc in none)
  found_named (table ∷ tables) zero rows named e = subst (AllNamed enums objects) (same table rows e) named.0
    where
      same : (x y : List (List Value)) → Some x ≡ Some y → x ≡ y
      same x y e = cc
  found_named (table ∷ tables) (suc n) rows named e = found_named tables n rows named.1 e

  pub asked_named : (program : Program) (tables : List (List (List Value))) (name : List ℕ) (rows : List (List Value))
      → AllTablesNamed enums objects tables → table_in program tables name ≡ Some rows → AllNamed enums objects rows
  asked_named program tables name rows named e = at (position (λ (p : Pattern). p.shown && is_name p.name name) program.patterns) e
    where
      at : (place : Option ℕ) → option_and_then (slice_get tables) place ≡ Some rows → AllNamed enums objects rows
      at None e = absurd (let none : ⊥ = cc in none)
      at (Some n) e = found_named tables n rows named e
