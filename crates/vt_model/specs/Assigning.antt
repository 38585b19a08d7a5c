-- What Set and Unset do: an attribute of an object gets a value, or loses it.
use Rattle.std.specs.Prelude.{ℕ, ◌&&◌, ◌==◌, List, Bool, true, false, not, filter, nat_lt, length, position, slice_get, Option, Some, None, option_map, option_and_then}
use Rattle.std.specs.Option.{option_map_or}
use Rattle.std.specs.BTreeSet.{insert_key}
use Rattle.std.specs.declared.cmp.Ordering.{Ordering}
use Rattle.std.specs.Ordering.{nat_cmp, ordering_then}
use Rattle.vt_base.specs.declared.numbers.ObjId.{ObjId}
use Rattle.vt_base.specs.declared.numbers.AttrId.{AttrId}
use Rattle.vt_base.specs.declared.value.Value.{Value}
use Rattle.vt_base.specs.declared.value.Value.TheVariants as value
use Rattle.vt_base.specs.declared.value.Kind.{Kind}
use Rattle.vt_base.specs.declared.value.Kind.TheVariants as kind
use Rattle.vt_model.specs.Metamodel.{Metamodel}
use Rattle.vt_facts.specs.Names.{is_name}
use Rattle.vt_model.specs.Model.{Model}
use Rattle.vt_model.specs.declared.metamodel.Feature.{Feature}
use Rattle.vt_model.specs.declared.metamodel.Feature.TheVariants.{Attr, Ref}
use Rattle.vt_model.specs.declared.model.AttributeValue.{AttributeValue}
use Rattle.vt_model.specs.declared.change.Given.{Given}
use Rattle.vt_model.specs.declared.change.Given.TheVariants as given

-- ---- what is asked for

abbrev pub attribute_of : Option Feature → Option AttrId
attribute_of None = None
attribute_of (Some (Attr a)) = Some a
attribute_of (Some (Ref r)) = None

-- the kind of the attribute that a feature is
abbrev pub kind_asked : Metamodel → Option Feature → Option Kind
kind_asked meta f = option_map (λ info. info.kind) (option_and_then (λ a. slice_get meta.attributes a.0) (attribute_of f))

-- the enum has a literal of this number
abbrev pub is_literal : Metamodel → ℕ → ℕ → Bool
is_literal meta e l = option_map_or (λ enum. nat_lt l (length enum.literals)) (slice_get meta.enums e) false

-- the literal of an enum that a text names
abbrev pub literal_named : Metamodel → ℕ → List ℕ → Option ℕ
literal_named meta e name = option_and_then (λ enum. position (λ literal. is_name literal name) enum.literals) (slice_get meta.enums e)

-- a given value is of an attribute's kind; a text may be meant to name a literal
abbrev pub has_kind : Metamodel → Given → Kind → Bool
has_kind meta (given.Int n) kind.Int = true
has_kind meta (given.Bool b) kind.Bool = true
has_kind meta (given.Text s) kind.Text = true
has_kind meta (given.Text s) (kind.Enum e) = true
has_kind meta (given.Literal d l) (kind.Enum e) = d == e && is_literal meta e l
has_kind meta v k = false

-- the value that an attribute of the kind gets, none where a text names no literal of the enum
abbrev pub value_given : Metamodel → Given → Kind → Option Value
value_given meta (given.Int n) kind.Int = Some (value.Int n)
value_given meta (given.Bool b) kind.Bool = Some (value.Bool b)
value_given meta (given.Text s) kind.Text = Some (value.Text s)
value_given meta (given.Text s) (kind.Enum e) = option_map (λ l. value.Enum e l) (literal_named meta e s)
value_given meta (given.Literal d l) (kind.Enum e) = Some (value.Enum e l)
value_given meta v k = None

-- ---- the values of a model

-- values by object, then by attribute
abbrev pub value_order : AttributeValue → AttributeValue → Ordering
value_order t u = ordering_then (nat_cmp t.object.0 u.object.0) (nat_cmp t.attribute.0 u.attribute.0)

abbrev pub is_value_of : ObjId → AttrId → AttributeValue → Bool
is_value_of o a t = t.object.0 == o.0 && t.attribute.0 == a.0

-- the values of an object
abbrev pub values_of : Model → ObjId → List AttributeValue
values_of g o = filter (λ t. t.object.0 == o.0) g.values

abbrev pub without_value : Model → ObjId → AttrId → Model
without_value g o a = record g { values = filter (λ t. not (is_value_of o a t)) g.values }

-- the new value stands in place of the old one, where there was one
abbrev pub with_value : Model → ObjId → AttrId → Value → Model
with_value g o a v = record g {
  values =
      insert_key value_order (filter (λ t. not (is_value_of o a t)) g.values) (record { object = o; attribute = a; value = v });
}

-- an attribute without a default has no value
abbrev pub with_default_value : Model → ObjId → AttrId → Option Value → Model
with_default_value g o a None = without_value g o a
with_default_value g o a (Some v) = with_value g o a v
