-- Deltas: how all rows of a base came from what they were before.
use Rattle.std.specs.Prelude.{◌≡◌, ◌<◌, ℕ, List, length, Option, Some, None, slice_get}
use Rattle.vt_base.specs.Rows.{Ascends}
use Rattle.vt_base.specs.Base.{BaseRows, Counts}
use Rattle.vt_base.specs.declared.numbers.ClassId.{ClassId}
use Rattle.vt_base.specs.declared.numbers.AttrId.{AttrId}
use Rattle.vt_base.specs.declared.numbers.RefId.{RefId}
use Rattle.vt_base.specs.declared.value.Value.{Value}
use Rattle.vt_delta.specs.declared.delta.Delta.{Delta}
use Rattle.vt_delta.specs.declared.delta.BaseDelta.{BaseDelta}
pub use Rattle.vt_delta.specs.Changes.{Change, without, net, applied, Fits, no_change, after_coming, after_going, change_of, changes_of, turned_at}

-- the rows of each class, attribute and reference ascend
pub record AllAscend (base : BaseRows) : Type 0 where
  pub classes : (c : ClassId) → Ascends (base.of_class c)
  pub attributes : (a : AttrId) → Ascends (base.of_attribute a)
  pub references : (r : RefId) → Ascends (base.of_reference r)

-- the delta at each number is of the rows that have this number
abbrev pub AreEach : (ℕ → Delta → Type 0) → List Delta → Type 0
AreEach Is deltas = (n : ℕ) (delta : Delta) → slice_get deltas n ≡ Some delta → Is n delta

-- there is a delta for each class, each attribute and each reference
pub record HasCounts (counts : Counts) (difference : BaseDelta) : Type 0 where
  pub classes : length difference.classes ≡ counts.classes
  pub attributes : length difference.attributes ≡ counts.attributes
  pub references : length difference.references ≡ counts.references

-- each delta is the net one
pub record IsNet (before after : BaseRows) (difference : BaseDelta) : Type 0 where
  pub counts : HasCounts before.counts difference
  pub classes : AreEach (λ c delta. change_of delta ≡ net (before.of_class (record { 0 = c })) (after.of_class (record { 0 = c }))) difference.classes
  pub attributes : AreEach (λ a delta. change_of delta ≡ net (before.of_attribute (record { 0 = a })) (after.of_attribute (record { 0 = a }))) difference.attributes
  pub references : AreEach (λ r delta. change_of delta ≡ net (before.of_reference (record { 0 = r })) (after.of_reference (record { 0 = r }))) difference.references

-- each delta fits
pub record FitsBase (base : BaseRows) (difference : BaseDelta) : Type 0 where
  pub counts : HasCounts base.counts difference
  pub classes : AreEach (λ c delta. Fits (base.of_class (record { 0 = c })) (change_of delta)) difference.classes
  pub attributes : AreEach (λ a delta. Fits (base.of_attribute (record { 0 = a })) (change_of delta)) difference.attributes
  pub references : AreEach (λ r delta. Fits (base.of_reference (record { 0 = r })) (change_of delta)) difference.references

-- the delta of a number is applied, and where there is none the rows stay
abbrev pub applied_at : Option Delta → List (List Value) → List (List Value)
applied_at None rows = rows
applied_at (Some delta) rows = applied (change_of delta) rows

-- each delta is applied
abbrev pub applied_base : BaseDelta → BaseRows → BaseRows
applied_base difference base = record {
  counts = base.counts;
  of_class = λ c. applied_at (slice_get difference.classes c.0) (base.of_class c);
  of_attribute = λ a. applied_at (slice_get difference.attributes a.0) (base.of_attribute a);
  of_reference = λ r. applied_at (slice_get difference.references r.0) (base.of_reference r);
}

-- two bases have the same rows at each number that names something
pub record SameRows (base other : BaseRows) : Type 0 where
  pub classes : (c : ClassId) → c.0 < base.counts.classes → base.of_class c ≡ other.of_class c
  pub attributes : (a : AttrId) → a.0 < base.counts.attributes → base.of_attribute a ≡ other.of_attribute a
  pub references : (r : RefId) → r.0 < base.counts.references → base.of_reference r ≡ other.of_reference r
