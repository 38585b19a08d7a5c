-- How the net change of a model's rows is kept, while edits are made one after the other.
use Rattle.std.specs.Prelude.{◌≡◌, ℕ, ◌<◌, ◌==◌, pos, List, [], ◌∷◌, map, filter, fold, length, slice_index_or, All}
use Rattle.vt_delta.specs.Changes.{Change, change_of, changes_of, no_change, net, after_coming, after_going}
use Rattle.vt_delta.specs.Deltas.{HasCounts}
use Rattle.vt_delta.specs.declared.delta.Delta.{Delta}
use Rattle.vt_base.specs.declared.value.Value.{Value}
use Rattle.vt_base.specs.declared.value.Value.TheVariants.{Obj, Int}
use Rattle.vt_model.specs.Metamodel.{Metamodel, isa}
use Rattle.vt_model.specs.Model.{Model}
use Rattle.vt_model.specs.Base.{counts_of}
use Rattle.vt_model.specs.declared.model.Object.{Object}
use Rattle.vt_model.specs.declared.model.AttributeValue.{AttributeValue}
use Rattle.vt_model.specs.declared.model.Link.{Link}
use Rattle.vt_store.specs.Edits.{Edit}
use Rattle.vt_change.specs.declared.telling.Way.{Way}
use Rattle.vt_change.specs.declared.telling.Way.TheVariants.{Coming, Going}
use Rattle.vt_change.specs.declared.telling.Told.{Told}

-- ---- the rows of objects, values and links

-- those of a class and of the classes below it, by its number
abbrev pub object_rows : Metamodel → List Object → ℕ → List (List Value)
object_rows meta objects c = map (λ o. Obj o.number ∷ []) (filter (λ o. isa meta o.class (record { 0 = c })) objects)

-- those of an attribute
abbrev pub value_rows : List AttributeValue → ℕ → List (List Value)
value_rows values a = map (λ t. Obj t.object ∷ t.value ∷ []) (filter (λ t. t.attribute.0 == a) values)

-- those of a reference
abbrev pub link_rows : List Link → ℕ → List (List Value)
link_rows links r = map (λ l. Obj l.source ∷ Obj l.target ∷ []) (filter (λ l. l.reference.0 == r) links)

-- all values, each behind its object and its attribute
abbrev pub whole_rows : List AttributeValue → List (List Value)
whole_rows values = map (λ t. Obj t.object ∷ Int (pos t.attribute.0) ∷ t.value ∷ []) values

-- ---- rows that come or go

-- a row came or went
abbrev pub moved : Way → Change → List Value → Change
moved Coming change row = after_coming change row
moved Going change row = after_going change row

-- rows went, one after the other, and then others came
abbrev pub turned : List (List Value) → List (List Value) → Change → Change
turned gone came change = fold (moved Coming) (fold (moved Going) change gone) came

-- the change at a number
abbrev pub change_at : List Delta → ℕ → Change
change_at deltas n = slice_index_or (changes_of deltas) n no_change

-- at each number these rows came, or went
pub record Moves (way : Way) (rows : ℕ → List (List Value)) (old new : List Delta) : Type 0 where
  pub count : length new ≡ length old
  pub each : (n : ℕ) → n < length old → change_at new n ≡ fold (moved way) (change_at old n) (rows n)

-- at each number these rows went, and then those came
pub record Turns (gone came : ℕ → List (List Value)) (old new : List Delta) : Type 0 where
  pub count : length new ≡ length old
  pub each : (n : ℕ) → n < length old → change_at new n ≡ turned (gone n) (came n) (change_at old n)

-- ---- edits

-- there is a delta for each class, and for each attribute and reference that an edit names
pub record HasPlaces (meta : Metamodel) (edit : Edit) (told : Told) : Type 0 where
  pub classes : length told.delta.classes ≡ length meta.classes
  pub values_added : All (λ t. t.attribute.0 < length told.delta.attributes) edit.values.added
  pub values_removed : All (λ t. t.attribute.0 < length told.delta.attributes) edit.values.removed
  pub links_added : All (λ l. l.reference.0 < length told.delta.references) edit.links.added
  pub links_removed : All (λ l. l.reference.0 < length told.delta.references) edit.links.removed

-- what went in an edit went, and what came in it came
pub record Tells (meta : Metamodel) (edit : Edit) (old new : Told) : Type 0 where
  pub classes : Turns (object_rows meta edit.live.removed) (object_rows meta edit.live.added) old.delta.classes new.delta.classes
  pub attributes : Turns (value_rows edit.values.removed) (value_rows edit.values.added) old.delta.attributes new.delta.attributes
  pub references : Turns (link_rows edit.links.removed) (link_rows edit.links.added) old.delta.references new.delta.references
  pub values : change_of new.values ≡ turned (whole_rows edit.values.removed) (whole_rows edit.values.added) (change_of old.values)

-- ---- net changes

-- at each number the change is the net one
abbrev pub AreNet : (ℕ → List (List Value)) → (ℕ → List (List Value)) → List Delta → Type 0
AreNet before after deltas = (n : ℕ) → n < length deltas → change_at deltas n ≡ net (before n) (after n)

-- what was told is the net change from the one model to the other
pub record IsTold (meta : Metamodel) (before after : Model) (told : Told) : Type 0 where
  pub counts : HasCounts (counts_of meta) told.delta
  pub classes : AreNet (object_rows meta before.live) (object_rows meta after.live) told.delta.classes
  pub attributes : AreNet (value_rows before.values) (value_rows after.values) told.delta.attributes
  pub references : AreNet (link_rows before.links) (link_rows after.links) told.delta.references
  pub values : change_of told.values ≡ net (whole_rows before.values) (whole_rows after.values)
