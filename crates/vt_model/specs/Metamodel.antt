-- A metamodel: enums, classes, attributes and references, each numbered by its place in its list.
use Rattle.std.specs.Prelude.{◌≡◌, ℕ, zero, suc, ◌&&◌, ◌||◌, ◌==◌, List, [], ◌∷◌, ◌++◌, map, filter, length, Contains, slice_get, Bool, nat_eq, position, Option, None, Some, option_map, unwrap_or}
use Rattle.std.specs.List.{list_any}
use Rattle.std.specs.Cmp.Lexicographic.{pointwise}
use Rattle.vt_base.specs.Names.{EnumNames}
use Rattle.vt_base.specs.declared.numbers.ClassId.{ClassId}
use Rattle.vt_model.specs.declared.metamodel.EnumInfo.{EnumInfo}
use Rattle.vt_model.specs.declared.metamodel.ClassInfo.{ClassInfo}
use Rattle.vt_model.specs.declared.metamodel.AttrInfo.{AttrInfo}
use Rattle.vt_model.specs.declared.metamodel.RefInfo.{RefInfo}
use Rattle.vt_model.specs.declared.metamodel.Lists.{Lists}
use Rattle.vt_model.specs.declared.metamodel.Feature.{Feature}
use Rattle.vt_model.specs.declared.metamodel.Feature.TheVariants.{Attr, Ref}

-- in the order of the document that declares them; each class has a list of supertypes
pub record Metamodel : Type 0 where
  pub uri : List ℕ
  pub enums : List EnumInfo
  pub classes : List ClassInfo
  pub supers : List (List ClassId)
  pub attributes : List AttrInfo
  pub references : List RefInfo

-- the metamodel with some lists
abbrev pub as_metamodel : Lists → Metamodel
as_metamodel lists = record {
  uri = lists.uri;
  enums = lists.enums;
  classes = lists.classes;
  supers = lists.supers;
  attributes = lists.attributes;
  references = lists.references;
}

-- ---- classes above a class

-- what a class names as its supertypes
abbrev pub supers_of : List (List ClassId) → ClassId → List ClassId
supers_of supers c = unwrap_or (slice_get supers c.0) []

-- from the first class each of the list is a supertype of the one before it, and the last is the other class
abbrev pub IsPath : List (List ClassId) → ClassId → List ClassId → ClassId → Type 0
IsPath supers c [] d = c ≡ d
IsPath supers c (e ∷ path) d = Contains (supers_of supers c) e × IsPath supers e path d

-- a class is itself, and each class to which a path of supertypes leads
abbrev pub Isa : Metamodel → ClassId → ClassId → Type 0
Isa meta c d = (path : List ClassId) × IsPath meta.supers c path d

-- whether a path of at most so many steps leads to a class
abbrev pub is_within : List (List ClassId) → ℕ → ClassId → ClassId → Bool
is_within supers zero c d = c.0 == d.0
is_within supers (suc n) c d = c.0 == d.0 || list_any (λ e. is_within supers n e d) (supers_of supers c)

-- the same as a test: no path has to be longer than there are classes
abbrev pub isa : Metamodel → ClassId → ClassId → Bool
isa meta c d = is_within meta.supers (length meta.classes) c d

-- ---- features

-- a class has the features that it declares and those that the classes above it declare
abbrev pub attributes_of : Metamodel → ClassId → List AttrInfo
attributes_of meta c = filter (λ a. isa meta c a.class) meta.attributes

abbrev pub references_of : Metamodel → ClassId → List RefInfo
references_of meta c = filter (λ r. isa meta c r.class) meta.references

-- the names of all features that a class has, each declaration once
abbrev pub feature_names : Metamodel → ClassId → List (List ℕ)
feature_names meta c = map (λ a. a.name) (attributes_of meta c) ++ map (λ r. r.name) (references_of meta c)

-- ---- by name

abbrev pub class_named : Metamodel → List ℕ → Option ClassId
class_named meta name = option_map (λ n. record { 0 = n }) (position (λ c. pointwise nat_eq c.name name) meta.classes)

abbrev pub enum_named : Metamodel → List ℕ → Option ℕ
enum_named meta name = position (λ e. pointwise nat_eq e.name name) meta.enums

-- an attribute of this name that the class has
abbrev pub is_attribute_of : Metamodel → ClassId → List ℕ → AttrInfo → Bool
is_attribute_of meta c name a = isa meta c a.class && pointwise nat_eq a.name name

-- a reference of this name that the class has
abbrev pub is_reference_of : Metamodel → ClassId → List ℕ → RefInfo → Bool
is_reference_of meta c name r = isa meta c r.class && pointwise nat_eq r.name name

-- the attribute, or else the reference
abbrev pub or_reference : Option ℕ → Option ℕ → Option Feature
or_reference (Some a) reference = Some (Attr (record { 0 = a }))
or_reference None reference = option_map (λ r. Ref (record { 0 = r })) reference

-- the feature of this name that a class has
abbrev pub feature : Metamodel → ClassId → List ℕ → Option Feature
feature meta c name = or_reference (position (is_attribute_of meta c name) meta.attributes) (position (is_reference_of meta c name) meta.references)

-- the names of the enums and of their literals
abbrev pub enum_names : Metamodel → List EnumNames
enum_names meta = map (λ e. record { name = e.name; literals = e.literals }) meta.enums
