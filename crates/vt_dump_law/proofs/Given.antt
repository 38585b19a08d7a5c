-- A value, as its text gives it to the attribute that has it.
use Rattle.std.proofs.Common.{◌≡◌, ℕ, [], length, refl, ap, subst, sym, ◌∙◌, true, false}
use Rattle.std.specs.Prelude.{nat_lt, position, slice_get, Option, Some, None, option_map, option_and_then, unwrap_or}
use Rattle.std.specs.Option.{option_map_or}
use Rattle.std.proofs.lemmas.Bool.{ltb-true}
use Rattle.vt_base.specs.declared.value.Value.{Value}
use Rattle.vt_base.specs.declared.value.Value.TheVariants as value
use Rattle.vt_base.specs.declared.value.Kind.{Kind}
use Rattle.vt_base.specs.declared.value.Kind.TheVariants as kind
use Rattle.vt_model.specs.Metamodel.{Metamodel}
use Rattle.vt_facts.specs.Names.{is_name, is_distinct}
use Rattle.vt_model.specs.Assigning.{is_literal, literal_named, has_kind, value_given}
use Rattle.vt_model.specs.Fits.{HasKind}
use Rattle.vt_model.specs.Sound.{IsAttributeKind}
use Rattle.vt_model.specs.declared.metamodel.EnumInfo.{EnumInfo}
use Rattle.vt_model.specs.declared.change.Given.{Given}
use Rattle.vt_model.specs.declared.change.Given.TheVariants as given
use Rattle.vt_model.proofs.Valid.Names.{times-is_distinct, is_name-itself}
use Rattle.vt_model.proofs.SearchLemmas.{slice_get-below, position-only}
use Rattle.vt_model_json.specs.Dump.{literal_name}

-- what is given for a value: a literal by its name, and nothing for an object
abbrev pub given_of : Metamodel → Value → Option Given
given_of meta (value.Bool b) = Some (given.Bool b)
given_of meta (value.Int n) = Some (given.Int n)
given_of meta (value.Text s) = Some (given.Text s)
given_of meta (value.Enum e l) = Some (given.Text (literal_name meta e l))
given_of meta (value.Obj o) = None

-- the literals of each enum differ
abbrev pub HasLiteralNames : Metamodel → Type 0
HasLiteralNames meta = (e : ℕ) (enum : EnumInfo) → slice_get meta.enums e ≡ Some enum → is_distinct enum.literals ≡ true

-- what is given is of the attribute's kind, and gives the value back
pub record IsGiven (meta : Metamodel) (k : Kind) (v : Value) : Type 0 where
  pub given : Given
  pub is : given_of meta v ≡ Some given
  pub fits : has_kind meta given k ≡ true
  pub back : value_given meta given k ≡ Some v

module _ (meta : Metamodel) (literals : HasLiteralNames meta) where
  -- the name of a literal finds it
  pub literal_named-literal_name : (e l : ℕ) → is_literal meta e l ≡ true → literal_named meta e (literal_name meta e l) ≡ Some l
  literal_named-literal_name e l is = by (slice_get meta.enums e) refl is
    where
      by : (r : Option EnumInfo) → slice_get meta.enums e ≡ r → option_map_or (λ enum. nat_lt l (length enum.literals)) r false ≡ true
          → option_and_then (λ enum. position (λ literal. is_name literal (unwrap_or (option_and_then (λ (x : EnumInfo). slice_get x.literals l) r) [])) enum.literals) r ≡ Some l
      by None at is = cc
      by (Some enum) at is =
          let item = slice_get-below enum.literals l (ltb-true l (length enum.literals) is) in
          let name : unwrap_or (slice_get enum.literals l) [] ≡ item.0 = ap (λ o. unwrap_or o []) item.1 in
          ap (λ n. position (λ literal. is_name literal n) enum.literals) name
          ∙ position-only (λ literal. is_name literal item.0) enum.literals l item.0 (times-is_distinct enum.literals (literals e enum at) item.0) item.1 (is_name-itself item.0)

  -- each value that fits an attribute is given so
  pub IsGiven-HasKind : (k : Kind) (v : Value) → IsAttributeKind meta k → HasKind meta k v → IsGiven meta k v
  IsGiven-HasKind k (value.Bool b) sound has = subst (λ k. IsGiven meta k (value.Bool b)) (sym has) (record { given = given.Bool b; is = refl; fits = refl; back = refl })
  IsGiven-HasKind k (value.Int n) sound has = subst (λ k. IsGiven meta k (value.Int n)) (sym has) (record { given = given.Int n; is = refl; fits = refl; back = refl })
  IsGiven-HasKind k (value.Text s) sound has = subst (λ k. IsGiven meta k (value.Text s)) (sym has) (record { given = given.Text s; is = refl; fits = refl; back = refl })
  IsGiven-HasKind k (value.Enum e l) sound has =
      subst (λ k. IsGiven meta k (value.Enum e l)) (sym has.0)
      (record { given = given.Text (literal_name meta e l); is = refl; fits = refl; back = ap (option_map (λ l. value.Enum e l)) (literal_named-literal_name e l has.1) })
  IsGiven-HasKind k (value.Obj o) sound has = let none : IsAttributeKind meta kind.Obj = subst (IsAttributeKind meta) has sound in absurd none
