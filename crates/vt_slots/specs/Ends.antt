-- The ends of an object on one side: for each reference the objects at the other end of its links.
use Rattle.std.specs.Prelude.{◌≡◌, ℕ, ◌<◌, ◌≤◌, ◌≢◌, ◌==◌, not, List, [], find, filter, length, All, Option, option_map, unwrap_or}
use Rattle.std.specs.List.Sorted.{IsStrictlySortedBy}
use Rattle.std.specs.BTreeSet.{insert_key}
use Rattle.std.specs.declared.cmp.Ordering.{Ordering}
use Rattle.std.specs.Ordering.{nat_cmp}
use Rattle.vt_base.specs.declared.numbers.ObjId.{ObjId}
use Rattle.vt_base.specs.declared.numbers.RefId.{RefId}

-- the objects at the other end of the links of a reference, and how many it holds before it needs memory
pub record EndList : Type 0 where
  pub reference : RefId
  pub objects : List ObjId
  pub capacity : ℕ

-- objects by number
abbrev pub number_order : ObjId → ObjId → Ordering
number_order a b = nat_cmp a.0 b.0

-- no object comes twice
abbrev pub ObjectsRise : List ObjId → Type 0
ObjectsRise objects = IsStrictlySortedBy number_order objects

-- lists by the number of their reference
abbrev pub reference_order : EndList → EndList → Ordering
reference_order a b = nat_cmp a.reference.0 b.reference.0

-- the references rise, so none has two lists
abbrev pub ReferencesRise : List EndList → Type 0
ReferencesRise lists = IsStrictlySortedBy reference_order lists

-- the list of a reference
abbrev pub list_of : List EndList → RefId → Option EndList
list_of lists r = find (λ l. l.reference.0 == r.0) lists

-- the objects at the other end of the links of a reference
abbrev pub objects_of : List EndList → RefId → List ObjId
objects_of lists r = unwrap_or (option_map (λ l. l.objects) (list_of lists r)) []

-- how many objects are held for a reference before it needs memory
abbrev pub capacity_of : List EndList → RefId → ℕ
capacity_of lists r = unwrap_or (option_map (λ l. l.capacity) (list_of lists r)) 0

-- one more object of the reference needs no memory
abbrev pub HasSpace : List EndList → RefId → Type 0
HasSpace lists r = length (objects_of lists r) < capacity_of lists r

-- references rise, so do the objects of each, and there is room for them
pub record HaveShape (lists : List EndList) : Type 0 where
  pub references_rise : ReferencesRise lists
  pub objects_rise : All (λ l. ObjectsRise l.objects) lists
  pub fits : All (λ l. length l.objects ≤ l.capacity) lists

-- ---- what a change does

-- the object stands for the reference too, and all else stands as before
pub record AddsEnd (old new : List EndList) (r : RefId) (o : ObjId) : Type 0 where
  pub there : objects_of new r ≡ insert_key number_order (objects_of old r) o
  pub others : (s : RefId) → s.0 ≢ r.0 → objects_of new s ≡ objects_of old s

-- the object stands for the reference no more, and all else stands as before
pub record DropsEnd (old new : List EndList) (r : RefId) (o : ObjId) : Type 0 where
  pub there : objects_of new r ≡ filter (λ x. not (x.0 == o.0)) (objects_of old r)
  pub others : (s : RefId) → s.0 ≢ r.0 → objects_of new s ≡ objects_of old s

-- for each reference the same objects
abbrev pub SameEnds : List EndList → List EndList → Type 0
SameEnds old new = (s : RefId) → objects_of new s ≡ objects_of old s

-- for no reference less room
abbrev pub KeepsRoom : List EndList → List EndList → Type 0
KeepsRoom old new = (s : RefId) → capacity_of old s ≤ capacity_of new s

-- for each reference the same room
abbrev pub SameRoom : List EndList → List EndList → Type 0
SameRoom old new = (s : RefId) → capacity_of new s ≡ capacity_of old s
