-- The rows of tables that name objects which have names hold live objects alone.
use Rattle.std.proofs.Common.{◌≡◌, ℕ, zero, suc, Bool, true, false, ◌||◌, ◌==◌, List, [], ◌∷◌, map, Some, refl, sym, subst, cond}
use Rattle.std.specs.Prelude.{find, slice_get, unwrap_or, option_map, Contains, IsSome}
use Rattle.std.specs.List.{AllByRecursion}
use Rattle.std.specs.Ordering.{eq_by_cmp}
use Rattle.std.proofs.lemmas.Bool.{false≢true}
use Rattle.std.proofs.lemmas.List.Elements.{All-contains, All-from_recursion}
use Rattle.vt_facts.proofs.MemberLemmas.{Contains-head, Contains-behind}
use Rattle.vt_facts.proofs.NumberLemmas.{equal_numbers}
use Rattle.vt_base.specs.Order.{tuple_cmp}
use Rattle.vt_base.specs.Rows.{has_row}
use Rattle.vt_base.specs.Names.{EnumNames, ObjectName, IsNamed, AreNamed}
use Rattle.vt_base.specs.Inside.OrderLaws.{IsTotalOrder-tuple_cmp}
use Rattle.vt_base.specs.declared.numbers.ObjId.{ObjId}
use Rattle.vt_base.specs.declared.numbers.ClassId.{ClassId}
use Rattle.vt_base.specs.declared.value.Value.{Value}
use Rattle.vt_base.specs.declared.value.Value.TheVariants as value
use Rattle.vt_base.proofs.OrderLemmas.{exact-tuple_cmp, eq_by_cmp-Decides}
use Rattle.vt_model.specs.Model.{Model, object_names}
use Rattle.vt_model.specs.Fits.{IsLive}
use Rattle.vt_model.specs.declared.model.Object.{Object}
use Rattle.vt_query.specs.Holding.{table_of}
use Rattle.vt_session.specs.Inside.Next.{AllHoldLive}

-- an object whose name is found is live
found_lives : (o : ObjId) (live : List Object) → IsSome (option_map (λ (n : ObjectName). n.name) (find (λ (n : ObjectName). n.object.0 == o.0) (map (λ (x : Object). record { object = x.number; name = x.name }) live)))
    → (c : ClassId) × IsLive live o c
found_lives o [] found = absurd (false≢true found)
found_lives o (x ∷ live) found = by (found_lives o live) (x.number.0 == o.0) refl found
  where
    behind : ((c : ClassId) × IsLive live o c) → (c : ClassId) × IsLive (x ∷ live) o c
    behind rest = (rest.0, record { name = rest.1.name; there = Contains-behind x (record { number = o; name = rest.1.name; class = rest.0 }) live rest.1.there })

    by : (IsSome (option_map (λ (n : ObjectName). n.name) (find (λ (n : ObjectName). n.object.0 == o.0) (map (λ (y : Object). record { object = y.number; name = y.name }) live))) → (c : ClassId) × IsLive live o c)
        → (is : Bool) → (x.number.0 == o.0) ≡ is
        → IsSome (option_map (λ (n : ObjectName). n.name) (cond is (Some (record { object = x.number; name = x.name })) (find (λ (n : ObjectName). n.object.0 == o.0) (map (λ (y : Object). record { object = y.number; name = y.name }) live))))
        → (c : ClassId) × IsLive (x ∷ live) o c
    by rest true is there =
        let same : x.number.0 ≡ o.0 = equal_numbers x.number.0 o.0 is in
        let it : x ≡ record { number = o; name = x.name; class = x.class } = λ i. record { number = record { 0 = same i }; name = x.name; class = x.class } in
        (x.class, record { name = x.name; there = subst (Contains (x ∷ live)) it (Contains-head x live) })
    by rest false is there = behind (rest there)

-- what is true of all tables is true of each, and of the empty one where there is none
at_table : (Q : List Value → Type 0) (tables : List (List (List Value))) (n : ℕ) → AllByRecursion (AllByRecursion Q) tables → AllByRecursion Q (unwrap_or (slice_get tables n) [])
at_table Q [] n all = tt
at_table Q (table ∷ tables) zero all = all.0
at_table Q (table ∷ tables) (suc n) all = at_table Q tables n all.1

at_row : (Q : List Value → Type 0) (rows : List (List Value)) (row : List Value) → AllByRecursion Q rows → has_row rows row ≡ true → Q row
at_row Q [] row all there = absurd (false≢true there)
at_row Q (r ∷ rows) row all there = by (at_row Q rows row all.1) (eq_by_cmp tuple_cmp row r) refl there
  where
    by : (has_row rows row ≡ true → Q row) → (is : Bool) → eq_by_cmp tuple_cmp row r ≡ is → (is || has_row rows row) ≡ true → Q row
    by rest true is found = subst Q (sym ((eq_by_cmp-Decides IsTotalOrder-tuple_cmp exact-tuple_cmp row r).0 is)) all.0
    by rest false is found = rest found

pub all_hold_live : (enums : List EnumNames) (g : Model) (tables : List (List (List Value))) → AllByRecursion (AllByRecursion (AreNamed enums (object_names g))) tables → AllHoldLive g tables
all_hold_live enums g tables named p row there o among =
    let names = at_row (AreNamed enums (object_names g)) (table_of tables p) row (at_table (AreNamed enums (object_names g)) tables p.0 named) there in
    found_lives o g.live (All-contains (IsNamed enums (object_names g)) row (value.Obj o) (All-from_recursion (IsNamed enums (object_names g)) row names) among)
