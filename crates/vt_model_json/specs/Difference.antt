-- The difference of a model from the empty one: what it has was added, and nothing was removed.
use Rattle.std.specs.Prelude.{◌≡◌, ℕ, List, [], length, Some, slice_get}
use Rattle.vt_base.specs.Base.{BaseRows}
use Rattle.vt_delta.specs.declared.delta.BaseDelta.{BaseDelta}
use Rattle.vt_delta.specs.declared.delta.Delta.{Delta}
use Rattle.vt_base.specs.declared.value.Value.{Value}

-- exactly these rows were added
pub record IsAllAdded (rows : List (List Value)) (delta : Delta) : Type 0 where
  pub added : delta.added.items ≡ rows
  pub removed : delta.removed.items ≡ []

-- the delta at each number adds the rows that have this number
abbrev pub AreAllAdded : (ℕ → List (List Value)) → List Delta → Type 0
AreAllAdded rows deltas = (n : ℕ) (delta : Delta) → slice_get deltas n ≡ Some delta → IsAllAdded (rows n) delta

-- there is a delta for each class, each attribute and each reference, and all their rows were added
pub record IsFromEmpty (base : BaseRows) (difference : BaseDelta) : Type 0 where
  pub class_count : length difference.classes ≡ base.counts.classes
  pub attribute_count : length difference.attributes ≡ base.counts.attributes
  pub reference_count : length difference.references ≡ base.counts.references
  pub classes : AreAllAdded (λ c. base.of_class (record { 0 = c })) difference.classes
  pub attributes : AreAllAdded (λ a. base.of_attribute (record { 0 = a })) difference.attributes
  pub references : AreAllAdded (λ r. base.of_reference (record { 0 = r })) difference.references
