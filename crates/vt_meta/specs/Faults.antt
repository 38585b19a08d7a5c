-- The first fault of a metamodel document that has its shape.
use Rattle.std.specs.Prelude.{ℕ, ◌+◌, ◌&&◌, ◌||◌, List, [], ◌∷◌, length, take, find, sum_by, Contains, Bool, false, not, nat_lt, is_none, is_some, if◌then◌else◌, Option, Some, None, option_map}
use Rattle.std.specs.List.{list_any}
use Rattle.std.specs.Option.{option_map_or}
use Rattle.vt_base.specs.declared.numbers.ClassId.{ClassId}
use Rattle.vt_model.specs.Metamodel.{supers_of, IsPath, is_within, feature_names}
use Rattle.vt_meta.specs.Declarations.{is_kind_name, item_names, declared_names, class_place, kind_named, supers_in, opposite_in, answers}
use Rattle.vt_facts.specs.Names.{is_name, is_distinct}
use Rattle.vt_meta.specs.Built.{metamodel_of}
use Rattle.vt_meta.specs.declared.document.EnumDocument.{EnumDocument}
use Rattle.vt_meta.specs.declared.document.ClassDocument.{ClassDocument}
use Rattle.vt_meta.specs.declared.document.ReferenceDocument.{ReferenceDocument}
use Rattle.vt_meta.specs.declared.document.MetamodelDocument.{MetamodelDocument}

-- a fault, and the place where it stands: the item, or the count that is too great
pub data Fault : Type 0 where
  not_json : ℕ → Fault
  bad_shape : ℕ → Fault
  duplicate_name : ℕ → Fault
  unknown_type : ℕ → Fault
  super_cycle : ℕ → Fault
  bad_opposite : ℕ → Fault
  bad_containment : ℕ → Fault
  feature_clash : ℕ → Fault
  too_many : ℕ → Fault

-- ---- places

-- the first of some things, numbered from the n-th, for whose number and self a test holds
abbrev pub first_place : {A : Type 0} → (ℕ → A → Bool) → ℕ → List A → Option ℕ
first_place test n [] = None
first_place test n (x ∷ xs) = if test n x then Some n else first_place test (n + 1) xs

-- the first of two places that are there
abbrev pub or_else : Option ℕ → Option ℕ → Option ℕ
or_else (Some n) other = Some n
or_else None other = other

-- ---- the faults

-- the name is an earlier item's or a kind's
abbrev pub is_taken : MetamodelDocument → ℕ → List ℕ → Bool
is_taken document n name = is_kind_name name || list_any (λ other. is_name other name) (take n (item_names document))

-- or an enum has two equal literals
abbrev pub is_bad_enum : MetamodelDocument → ℕ → EnumDocument → Bool
is_bad_enum document n e = is_taken document n e.name || not (is_distinct e.literals)

-- or a class declares two features of one name
abbrev pub is_bad_class : MetamodelDocument → ℕ → ClassDocument → Bool
is_bad_class document n c = is_taken document n c.name || not (is_distinct (declared_names c))

abbrev pub duplicate_place : MetamodelDocument → Option ℕ
duplicate_place document = or_else
    (first_place (is_bad_enum document) 0 document.enums)
    (first_place (is_bad_class document) (length document.enums) document.classes)

-- a supertype or target that is no class, or an attribute kind that is none
abbrev pub has_unknown_type : MetamodelDocument → ClassDocument → Bool
has_unknown_type document c =
    list_any (λ s. is_none (class_place document s)) c.supers
    || list_any (λ a. is_none (kind_named document a.kind)) c.attributes
    || list_any (λ r. is_none (class_place document r.target)) c.references

-- one of the class's supertypes is the class or below it
abbrev pub is_above_itself : MetamodelDocument → ClassId → Bool
is_above_itself document c = list_any (λ s. is_within (supers_in document) (length document.classes) s c) (supers_of (supers_in document) c)

-- the same as a fact: a path of supertypes leads from the class back to it
pub record IsOnCycle (document : MetamodelDocument) (c : ClassId) : Type 0 where
  pub above : ClassId
  pub first : Contains (supers_of (supers_in document) c) above
  pub path : List ClassId
  pub back : IsPath (supers_in document) above path c

-- the opposite that a reference names isn't there, or doesn't answer
abbrev pub lacks_opposite : MetamodelDocument → ClassDocument → ReferenceDocument → Bool
lacks_opposite document c r = is_some r.opposite && not (option_map_or (answers c r) (opposite_in document r) false)

-- a containment whose opposite is a containment or many
abbrev pub is_bad_containment : MetamodelDocument → ReferenceDocument → Bool
is_bad_containment document r = r.containment && option_map_or (λ s. s.containment || s.many) (opposite_in document r) false

-- the class has two different features of one name
abbrev pub has_clash : MetamodelDocument → ClassId → Bool
has_clash document c = not (is_distinct (feature_names (metamodel_of document) c))

-- ---- limits

-- a count above its limit
abbrev pub above : ℕ → ℕ → Option ℕ
above limit count = if nat_lt limit count then Some count else None

abbrev pub feature_count : ClassDocument → ℕ
feature_count c = length c.attributes + length c.references

-- classes, then enums, then the literals of each enum, then attributes and references together
abbrev pub too_great : MetamodelDocument → Option ℕ
too_great document =
    or_else (above 1024 (length document.classes))
    (or_else (above 1024 (length document.enums))
    (or_else (option_map (λ e. length e.literals) (find (λ e. nat_lt 1024 (length e.literals)) document.enums))
    (above 4096 (sum_by feature_count document.classes))))

-- ---- the first fault

-- at a class: its place behind the enums
abbrev pub at_class : MetamodelDocument → (ℕ → ClassDocument → Bool) → Option ℕ
at_class document test = option_map (λ n. length document.enums + n) (first_place test 0 document.classes)

-- the first that is there
abbrev pub first_of : List (Option Fault) → Option Fault
first_of [] = None
first_of (Some fault ∷ faults) = Some fault
first_of (None ∷ faults) = first_of faults

-- faults are tried in this order, each over the whole document
unfoldable pub first_fault : MetamodelDocument → Option Fault
first_fault document = first_of
    (option_map duplicate_name (duplicate_place document)
    ∷ option_map unknown_type (at_class document (λ n c. has_unknown_type document c))
    ∷ option_map super_cycle (at_class document (λ n c. is_above_itself document (record { 0 = n })))
    ∷ option_map bad_opposite (at_class document (λ n c. list_any (lacks_opposite document c) c.references))
    ∷ option_map bad_containment (at_class document (λ n c. list_any (is_bad_containment document) c.references))
    ∷ option_map feature_clash (at_class document (λ n c. has_clash document (record { 0 = n })))
    ∷ option_map too_many (too_great document)
    ∷ [])
