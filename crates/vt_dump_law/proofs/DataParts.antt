-- Parts of a model's data that are read back from their text: members by key, names and values.
use Rattle.std.proofs.Common.{◌≡◌, ℕ, zero, suc, List, [], ◌∷◌, refl, subst, arith, IsUtf8}
use Rattle.std.specs.Prelude.{◌≤◌, pos, negsuc, All, Contains, slice_get, Option, Some, None, option_map, option_and_then, unwrap_or}
use Rattle.std.specs.List.{AllByRecursion}
use Rattle.std.specs.List.Sorted.{IsStrictlySortedBy}
use Rattle.std.specs.Cmp.Lexicographic.{slice_cmp}
use Rattle.std.specs.Ordering.{nat_cmp}
use Rattle.std.specs.declared.cmp.Ordering.{Ordering}
use Rattle.std.specs.declared.cmp.Ordering.TheVariants.{Less}
use Rattle.std.proofs.lemmas.List.Elements.{All-head, All-tail}
use Rattle.std.proofs.lemmas.Str.{IsUtf8-nil}
use Rattle.serde_json.specs.Data.{Data, depth, items_depth, members_depth}
use Rattle.vt_base.specs.declared.numbers.ClassId.{ClassId}
use Rattle.vt_base.specs.declared.numbers.AttrId.{AttrId}
use Rattle.vt_base.specs.declared.value.Value.{Value}
use Rattle.vt_base.specs.declared.value.Value.TheVariants as value
use Rattle.vt_json.specs.Shape.{keys_of}
use Rattle.vt_model.specs.Metamodel.{Metamodel}
use Rattle.vt_model.specs.declared.metamodel.EnumInfo.{EnumInfo}
use Rattle.vt_model.specs.declared.metamodel.ClassInfo.{ClassInfo}
use Rattle.vt_model.specs.declared.metamodel.AttrInfo.{AttrInfo}
use Rattle.vt_model.specs.declared.metamodel.RefInfo.{RefInfo}
use Rattle.vt_facts.proofs.MemberLemmas.{Contains-head, Contains-behind}
use Rattle.vt_model_json.specs.Dump.{class_name, attribute_name, literal_name, value_data, texts}
use Rattle.vt_model.specs.Storable.{IsStorable}
use Rattle.vt_dump_law.proofs.Links.{reference_name}
use Rattle.vt_dump_law.proofs.Spelled.{by_key, spelled}
use Rattle.vt_dump_law.proofs.Readable.{KeysRise, IsReadable, AreReadable, MembersAreReadable}
use Rattle.vt_dump_law.proofs.MetaNames.{IsNamed}

-- ---- lists

-- what holds of all holds at a place
All-slice_get : {X : Type 0} (P : X → Type 0) (xs : List X) (i : ℕ) (x : X) → All P xs → slice_get xs i ≡ Some x → P x
All-slice_get P [] i x all e = cc
All-slice_get P (y ∷ xs) zero x all e = let is : y ≡ x = cc in subst P is (All-head P y xs all)
All-slice_get P (y ∷ xs) (suc i) x all e = All-slice_get P xs i x (All-tail P y xs all) e

-- no items rise
pub none-rise : {K : Type 0} (R : K → K → Ordering) → IsStrictlySortedBy R []
unfolding IsStrictlySortedBy
none-rise R = tt

-- ---- members by key

module _ {K : Type 0} (key : K → List ℕ) (shown : K → Data) where
  below-spelled : (k : List ℕ) (xs : List K) → AllByRecursion (λ y. slice_cmp nat_cmp k (key y) ≡ Less) xs → AllByRecursion (λ l. slice_cmp nat_cmp k l ≡ Less) (keys_of (spelled key shown xs))
  below-spelled k [] below = tt
  below-spelled k (x ∷ xs) below = (below.0, below-spelled k xs below.1)

  -- their keys rise
  pub KeysRise-spelled : (xs : List K) → IsStrictlySortedBy (by_key key) xs → KeysRise (spelled key shown xs)
  unfolding IsStrictlySortedBy
  KeysRise-spelled [] rise = tt
  KeysRise-spelled (x ∷ xs) rise = (below-spelled (key x) xs rise.0, KeysRise-spelled xs rise.1)

  -- where each key and what stands under it can be read, all can
  pub MembersAreReadable-spelled : (xs : List K) → ((x : K) → Contains xs x → IsUtf8 (key x) × IsReadable (shown x)) → MembersAreReadable (spelled key shown xs)
  MembersAreReadable-spelled [] each = tt
  MembersAreReadable-spelled (x ∷ xs) each =
      let here = each x (Contains-head x xs) in
      (here.0, here.1, MembersAreReadable-spelled xs (λ y there. each y (Contains-behind x y xs there)))

  -- they nest as deep as the deepest
  pub members_depth-spelled : (m : ℕ) (xs : List K) → ((x : K) → depth (shown x) ≤ m) → members_depth (spelled key shown xs) ≤ m
  members_depth-spelled m [] each = omega arith
  members_depth-spelled m (x ∷ xs) each = omega (arith, each x, members_depth-spelled m xs each)

-- ---- names

module _ (meta : Metamodel) (named : IsNamed meta) where
  -- the name of a class is text
  pub class_name-utf8 : (c : ClassId) → IsUtf8 (class_name meta c)
  class_name-utf8 c = by (slice_get meta.classes c.0) refl
    where
      by : (i : Option ClassInfo) → slice_get meta.classes c.0 ≡ i → IsUtf8 (unwrap_or (option_map (λ info. info.name) i) [])
      by None at = IsUtf8-nil
      by (Some info) at = All-slice_get (λ (i : ClassInfo). IsUtf8 i.name) meta.classes c.0 info named.classes at

  -- so is the name of an attribute
  pub attribute_name-utf8 : (a : AttrId) → IsUtf8 (attribute_name meta a)
  attribute_name-utf8 a = by (slice_get meta.attributes a.0) refl
    where
      by : (i : Option AttrInfo) → slice_get meta.attributes a.0 ≡ i → IsUtf8 (unwrap_or (option_map (λ info. info.name) i) [])
      by None at = IsUtf8-nil
      by (Some info) at = All-slice_get (λ (i : AttrInfo). IsUtf8 i.name) meta.attributes a.0 info named.attributes at

  -- of a reference
  pub reference_name-utf8 : (r : ℕ) → IsUtf8 (reference_name meta r)
  reference_name-utf8 r = by (slice_get meta.references r) refl
    where
      by : (i : Option RefInfo) → slice_get meta.references r ≡ i → IsUtf8 (unwrap_or (option_map (λ info. info.name) i) [])
      by None at = IsUtf8-nil
      by (Some info) at = All-slice_get (λ (i : RefInfo). IsUtf8 i.name) meta.references r info named.references at

  -- and of a literal
  pub literal_name-utf8 : (e l : ℕ) → IsUtf8 (literal_name meta e l)
  literal_name-utf8 e l = by (slice_get meta.enums e) refl
    where
      within : (literals : List (List ℕ)) → All IsUtf8 literals → (n : Option (List ℕ)) → slice_get literals l ≡ n → IsUtf8 (unwrap_or n [])
      within literals all None at = IsUtf8-nil
      within literals all (Some name) at = All-slice_get IsUtf8 literals l name all at

      by : (i : Option EnumInfo) → slice_get meta.enums e ≡ i → IsUtf8 (unwrap_or (option_and_then (λ enum. slice_get enum.literals l) i) [])
      by None at = IsUtf8-nil
      by (Some enum) at = within enum.literals (All-slice_get (λ (i : EnumInfo). All IsUtf8 i.literals) meta.enums e enum named.literals at) (slice_get enum.literals l) refl

  -- ---- values

  -- a value that can be written is read back
  pub IsReadable-value_data : (v : Value) → IsStorable v → IsReadable (value_data meta v)
  IsReadable-value_data (value.Bool b) fits = tt
  IsReadable-value_data (value.Int (pos n)) fits = omega (arith, fits)
  IsReadable-value_data (value.Int (negsuc n)) fits = fits
  IsReadable-value_data (value.Text s) fits = fits
  IsReadable-value_data (value.Enum e l) fits = literal_name-utf8 e l
  IsReadable-value_data (value.Obj o) fits = tt

  -- it nests nothing
  pub depth-value_data : (v : Value) → depth (value_data meta v) ≤ 0
  depth-value_data (value.Bool b) = omega arith
  depth-value_data (value.Int n) = omega arith
  depth-value_data (value.Text s) = omega arith
  depth-value_data (value.Enum e l) = omega arith
  depth-value_data (value.Obj o) = omega arith

-- ---- targets

-- names that are text are read back
pub AreReadable-texts : (names : List (List ℕ)) → ((n : List ℕ) → Contains names n → IsUtf8 n) → AreReadable (texts names)
AreReadable-texts [] each = tt
AreReadable-texts (n ∷ names) each = (each n (Contains-head n names), AreReadable-texts names (λ m there. each m (Contains-behind n m names there)))

-- they nest nothing
pub items_depth-texts : (names : List (List ℕ)) → items_depth (texts names) ≤ 0
items_depth-texts [] = omega arith
items_depth-texts (n ∷ names) = omega (arith, items_depth-texts names)
