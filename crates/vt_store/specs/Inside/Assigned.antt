-- What a value that is given or taken changes.
use Rattle.std.specs.Prelude.{ℕ, List, [], ◌∷◌, Bool, true, false, fold, if◌then◌else◌, Option, None, Some}
use Rattle.std.specs.Ordering.{eq_by_cmp}
use Rattle.vt_base.specs.Order.{value_cmp}
use Rattle.vt_base.specs.declared.numbers.ObjId.{ObjId}
use Rattle.vt_base.specs.declared.numbers.AttrId.{AttrId}
use Rattle.vt_base.specs.declared.value.Value.{Value}
use Rattle.vt_model.specs.Model.{Model}
use Rattle.vt_model.specs.Assigning.{without_value, with_value}
use Rattle.vt_model.specs.declared.model.AttributeValue.{AttributeValue}
use Rattle.vt_store.specs.Edits.{ListChange, Edit}
use Rattle.vt_store.specs.Inside.Displaced.{no_change}

-- ---- one attribute of one object

-- no value on both sides, or the same one
abbrev pub same_given : Option Value → Option Value → Bool
same_given None None = true
same_given (Some v) (Some w) = eq_by_cmp value_cmp v w
same_given v w = false

-- the value that an object has, where it has one
abbrev pub held_value : ObjId → AttrId → Option Value → List AttributeValue
held_value o a None = []
held_value o a (Some v) = record { object = o; attribute = a; value = v } ∷ []

-- the new value comes and the old one goes, unless they are the same
abbrev pub value_change : ObjId → AttrId → Option Value → Option Value → ListChange AttributeValue
value_change o a old new = if same_given old new then no_change else record { added = held_value o a new; removed = held_value o a old }

-- an edit of values alone
abbrev pub values_edit : ℕ → ListChange AttributeValue → Edit
values_edit next values = record { next = next; live = no_change; gone = no_change; values = values; links = no_change }

-- ---- several values, one after the other

-- the model without each value of a list
abbrev pub without_values : Model → List AttributeValue → Model
without_values g values = fold (λ h t. without_value h t.object t.attribute) g values

-- the model with each value of a list
abbrev pub with_values : Model → List AttributeValue → Model
with_values g values = fold (λ h t. with_value h t.object t.attribute t.value) g values
