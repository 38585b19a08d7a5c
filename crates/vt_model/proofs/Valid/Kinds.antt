-- The values that attributes get have their attributes' kinds.
use Rattle.std.proofs.Common.{◌≡◌, ℕ, pos, refl, subst, arith, true, false}
use Rattle.std.specs.Prelude.{◌==◌, Option, Some, None, option_map}
use Rattle.std.proofs.lemmas.Bool.{and_parts}
use Rattle.vt_base.specs.declared.value.Value.{Value}
use Rattle.vt_base.specs.declared.value.Value.TheVariants as value
use Rattle.vt_base.specs.declared.value.Kind.{Kind}
use Rattle.vt_base.specs.declared.value.Kind.TheVariants as kind
use Rattle.vt_model.specs.Metamodel.{Metamodel}
use Rattle.vt_model.specs.Creating.{default_value}
use Rattle.vt_model.specs.Assigning.{is_literal, literal_named, has_kind, value_given}
use Rattle.vt_model.specs.Fits.{HasKind}
use Rattle.vt_model.specs.Sound.{IsAttributeKind}
use Rattle.vt_model.specs.Storable.{IsStorable, IsGivable}
use Rattle.vt_model.specs.declared.change.Given.{Given}
use Rattle.vt_model.specs.declared.change.Given.TheVariants as given
use Rattle.vt_model.proofs.Valid.Found.{is_literal-literal_named}

-- a default has its kind
pub HasKind-default_value : (meta : Metamodel) (k : Kind) (v : Value) → IsAttributeKind meta k → default_value k ≡ Some v → HasKind meta k v
HasKind-default_value meta kind.Int v sound e = let is : value.Int (pos 0) ≡ v = cc in subst (HasKind meta kind.Int) is refl
HasKind-default_value meta kind.Bool v sound e = let is : value.Bool false ≡ v = cc in subst (HasKind meta kind.Bool) is refl
HasKind-default_value meta kind.Text v sound e = cc
HasKind-default_value meta (kind.Enum n) v sound e = let is : value.Enum n 0 ≡ v = cc in subst (HasKind meta (kind.Enum n)) is (refl, sound)
HasKind-default_value meta kind.Obj v sound e = cc

-- and can be held
pub IsStorable-default_value : (k : Kind) (v : Value) → default_value k ≡ Some v → IsStorable v
IsStorable-default_value kind.Int v e = let is : value.Int (pos 0) ≡ v = cc in subst IsStorable is (omega arith)
IsStorable-default_value kind.Bool v e = let is : value.Bool false ≡ v = cc in subst IsStorable is tt
IsStorable-default_value kind.Text v e = cc
IsStorable-default_value (kind.Enum n) v e = let is : value.Enum n 0 ≡ v = cc in subst IsStorable is tt
IsStorable-default_value kind.Obj v e = cc

-- what can be given gives a value that can be held
pub IsStorable-value_given : (meta : Metamodel) (w : Given) (k : Kind) (v : Value) → IsGivable w → value_given meta w k ≡ Some v → IsStorable v
IsStorable-value_given meta (given.Int n) kind.Int v can e = let is : value.Int n ≡ v = cc in subst IsStorable is can
IsStorable-value_given meta (given.Bool b) kind.Bool v can e = let is : value.Bool b ≡ v = cc in subst IsStorable is tt
IsStorable-value_given meta (given.Text s) kind.Text v can e = let is : value.Text s ≡ v = cc in subst IsStorable is can
IsStorable-value_given meta (given.Text s) (kind.Enum n) v can e = by (literal_named meta n s) e
  where
    by : (r : Option ℕ) → option_map (λ l. value.Enum n l) r ≡ Some v → IsStorable v
    by None e = cc
    by (Some l) e = let is : value.Enum n l ≡ v = cc in subst IsStorable is tt
IsStorable-value_given meta (given.Literal d l) (kind.Enum n) v can e = let is : value.Enum n l ≡ v = cc in subst IsStorable is tt
IsStorable-value_given meta w k v can e = cc

-- a value that is given has its kind
pub HasKind-value_given : (meta : Metamodel) (w : Given) (k : Kind) (v : Value) → has_kind meta w k ≡ true → value_given meta w k ≡ Some v → HasKind meta k v
HasKind-value_given meta (given.Int n) kind.Int v has e = let is : value.Int n ≡ v = cc in subst (HasKind meta kind.Int) is refl
HasKind-value_given meta (given.Bool b) kind.Bool v has e = let is : value.Bool b ≡ v = cc in subst (HasKind meta kind.Bool) is refl
HasKind-value_given meta (given.Text s) kind.Text v has e = let is : value.Text s ≡ v = cc in subst (HasKind meta kind.Text) is refl
HasKind-value_given meta (given.Text s) (kind.Enum n) v has e = by (literal_named meta n s) refl e
  where
    by : (r : Option ℕ) → literal_named meta n s ≡ r → option_map (λ l. value.Enum n l) r ≡ Some v → HasKind meta (kind.Enum n) v
    by None found e = cc
    by (Some l) found e = let is : value.Enum n l ≡ v = cc in subst (HasKind meta (kind.Enum n)) is (refl, is_literal-literal_named meta n s l found)
HasKind-value_given meta (given.Literal d l) (kind.Enum n) v has e =
    let is : value.Enum n l ≡ v = cc in
    subst (HasKind meta (kind.Enum n)) is (refl, (and_parts (d == n) (is_literal meta n l) has).1)
HasKind-value_given meta w k v has e = cc
