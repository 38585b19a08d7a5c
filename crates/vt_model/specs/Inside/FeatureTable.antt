-- The features of each class by the numbers of their names.
use Rattle.std.specs.Prelude.{◌≡◌, ℕ, ◌+◌, ◌&&◌, ◌==◌, List, [], ◌∷◌, ◌++◌, map, length, find, slice_get, unwrap_or, nat_eq, nat_lt, Bool, if◌then◌else◌, Option, Some, None, option_map, option_and_then}
use Rattle.indexmap.specs.IndexMap.{IndexMap, get}
use Rattle.vt_base.specs.declared.numbers.ClassId.{ClassId}
use Rattle.vt_model.specs.Metamodel.{Metamodel, as_metamodel, feature}
use Rattle.vt_model.specs.Places.{place_in, FindsIn}
use Rattle.vt_model.specs.Inside.Tables.{is_marked, FindsEnumInfo, FindsClassInfo, MarksAbove}
use Rattle.vt_model.specs.declared.places.Places.{Places}
use Rattle.vt_model.specs.declared.metamodel.Lists.{Lists}
use Rattle.vt_model.specs.declared.metamodel.AttrInfo.{AttrInfo}
use Rattle.vt_model.specs.declared.metamodel.RefInfo.{RefInfo}
use Rattle.vt_model.specs.declared.metamodel.Feature.{Feature}
use Rattle.vt_model.specs.declared.metamodel.Feature.TheVariants.{Attr, Ref}
use Rattle.vt_model.specs.declared.features.Entry.{Entry}
use Rattle.vt_model.specs.declared.features.Features.{Features}

-- the names of all features, attributes first
abbrev pub all_names : List AttrInfo → List RefInfo → List (List ℕ)
all_names attributes references = map (λ a. a.name) attributes ++ map (λ r. r.name) references

-- the number of a name is its first place
abbrev pub name_number : Places → List ℕ → ℕ
name_number names name = unwrap_or (place_in names name) 0

-- the attributes from the n-th on
abbrev pub attribute_entries : Places → ℕ → List AttrInfo → List Entry
attribute_entries names n [] = []
attribute_entries names n (a ∷ attributes) = record { number = name_number names a.name; class = a.class; feature = Attr (record { 0 = n }) } ∷ attribute_entries names (n + 1) attributes

-- the references from the n-th on
abbrev pub reference_entries : Places → ℕ → List RefInfo → List Entry
reference_entries names n [] = []
reference_entries names n (r ∷ references) = record { number = name_number names r.name; class = r.class; feature = Ref (record { 0 = n }) } ∷ reference_entries names (n + 1) references

abbrev pub all_entries : Places → List AttrInfo → List RefInfo → List Entry
all_entries names attributes references = attribute_entries names 0 attributes ++ reference_entries names 0 references

-- a feature of the class, with a name of this number
abbrev pub is_entry_of : List (List Bool) → ℕ → ℕ → Entry → Bool
is_entry_of above class number e = is_marked above class e.class.0 && e.number == number

-- the first such feature
abbrev pub first_entry : List (List Bool) → ℕ → ℕ → List Entry → Option Feature
first_entry above class number entries = option_map (λ e. e.feature) (find (is_entry_of above class number) entries)

-- a feature is put where none has the number of its name
abbrev pub feature_if : Bool → Feature → Option Feature
feature_if b f = if b then Some f else None

-- what is kept for a class and the number of a name
abbrev pub kept_at : {S : Type 0} → List (IndexMap ℕ Feature S) → ℕ → ℕ → Option Feature
kept_at rows class number = option_and_then (λ row. get nat_eq row number) (slice_get rows class)

-- a row for each of so many classes
abbrev pub KeepsFirst : {S : Type 0} → List Entry → List (List Bool) → ℕ → List (IndexMap ℕ Feature S) → Type 0
KeepsFirst entries above count rows = (class number : ℕ) → kept_at rows class number ≡ (if nat_lt class count then first_entry above class number entries else None)

-- the feature of a name that a class has
abbrev pub feature_in : Features → ℕ → List ℕ → Option Feature
feature_in f class name = option_and_then (kept_at f.rows class) (place_in f.names name)

-- finds each feature by its class and its name
abbrev pub FindsFeatures : Metamodel → Features → Type 0
FindsFeatures meta f = (c : ClassId) (name : List ℕ) → feature_in f c.0 name ≡ feature meta c name

-- the features of a metamodel with these attributes and references
pub record AreFeatures (attributes : List AttrInfo) (references : List RefInfo) (above : List (List Bool)) (count : ℕ) (f : Features) : Type 0 where
  pub names : FindsIn (all_names attributes references) f.names
  pub rows : KeepsFirst (all_entries f.names attributes references) above count f.rows

-- the tables hold what the definitions say of the lists
abbrev pub AreTablesOf : Lists → Places → Places → List (List Bool) → Features → Type 0
AreTablesOf lists enums classes above features =
    FindsEnumInfo lists.enums enums
    × FindsClassInfo lists.classes classes
    × MarksAbove lists.supers (length lists.classes) above
    × FindsFeatures (as_metamodel lists) features
