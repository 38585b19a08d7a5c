-- What has a name among some objects has one among these and more.
use Rattle.std.proofs.Common.{List, [], ◌∷◌, ◌++◌, ◌==◌, Option, Some, None, option_map, find, subst, sym}
use Rattle.std.specs.Prelude.{IsSome}
use Rattle.std.specs.List.{AllByRecursion}
use Rattle.std.specs.Option.{option_or}
use Rattle.std.proofs.lemmas.List.Folds.{find-append}
use Rattle.vt_base.specs.Names.{EnumNames, ObjectName, IsNamed, AreNamed}
use Rattle.vt_base.specs.declared.value.Value.{Value}
use Rattle.vt_base.specs.declared.value.Value.TheVariants.{Bool, Int, Text, Enum, Obj}
use Rattle.vt_cli.specs.Inside.Printable.{AllNamed, AllTablesNamed}

still_some : {X Y : Type 0} (f : X → Y) (r s : Option X) → IsSome (option_map f r) → IsSome (option_map f (option_or r s))
still_some f (Some x) s there = there
still_some f None s there = absurd (let none : ⊥ = cc in none)

pub each_weaker : {X : Type 0} (P Q : X → Type 0) → ((x : X) → P x → Q x) → (xs : List X) → AllByRecursion P xs → AllByRecursion Q xs
each_weaker P Q weaker [] each = tt
each_weaker P Q weaker (x ∷ xs) each = (weaker x each.0, each_weaker P Q weaker xs each.1)

module _ (enums : List EnumNames) (front back : List ObjectName) where
  value_named : (v : Value) → IsNamed enums front v → IsNamed enums (front ++ back) v
  value_named (Bool b) named = named
  value_named (Int n) named = named
  value_named (Text s) named = named
  value_named (Enum e l) named = named
  value_named (Obj o) named =
      subst (λ found. IsSome (option_map (λ n. n.name) found)) (sym (find-append (λ n. n.object.0 == o.0) front back))
      (still_some (λ n. n.name) (find (λ n. n.object.0 == o.0) front) (find (λ n. n.object.0 == o.0) back) named)

  pub tables_named : (tables : List (List (List Value))) → AllTablesNamed enums front tables → AllTablesNamed enums (front ++ back) tables
  tables_named tables named =
      each_weaker (AllNamed enums front) (AllNamed enums (front ++ back))
      (each_weaker (AreNamed enums front) (AreNamed enums (front ++ back))
      (each_weaker (IsNamed enums front) (IsNamed enums (front ++ back)) value_named)) tables named
