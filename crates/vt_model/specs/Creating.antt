-- What Create does: a new object, with a number, a name and its attributes at their defaults.
use Rattle.std.specs.Prelude.{ℕ, ◌+◌, max, ◌&&◌, ◌||◌, ◌==◌, pos, List, [], ◌∷◌, ◌++◌, Bool, false, not, is_some, decimal, slice_get, if◌then◌else◌, Option, Some, None}
use Rattle.std.specs.Option.{option_map_or}
use Rattle.vt_base.specs.declared.numbers.ObjId.{ObjId}
use Rattle.vt_base.specs.declared.numbers.ClassId.{ClassId}
use Rattle.vt_base.specs.declared.value.Value.{Value}
use Rattle.vt_base.specs.declared.value.Value.TheVariants as value
use Rattle.vt_base.specs.declared.value.Kind.{Kind}
use Rattle.vt_base.specs.declared.value.Kind.TheVariants as kind
use Rattle.vt_model.specs.Metamodel.{Metamodel, isa}
use Rattle.vt_facts.specs.Names.{is_name}
use Rattle.vt_model.specs.Model.{Model, object_named, gone_named}
use Rattle.vt_model.specs.declared.metamodel.AttrInfo.{AttrInfo}
use Rattle.vt_model.specs.declared.model.AttributeValue.{AttributeValue}

abbrev pub is_abstract : Metamodel → Option ClassId → Bool
is_abstract meta None = false
is_abstract meta (Some c) = option_map_or (λ info. info.is_abstract) (slice_get meta.classes c.0) false

-- a live or a deleted object has the name
abbrev pub is_taken : Model → List ℕ → Bool
is_taken g name = is_some (object_named g name) || is_some (gone_named g name)

-- the number that a new object gets: the next number, or a greater one that was asked for
abbrev pub new_number : Model → Option ℕ → ℕ
new_number g None = g.next
new_number g (Some number) = max number g.next

abbrev pub begins_with_underscore : List ℕ → Bool
begins_with_underscore [] = false
begins_with_underscore (b ∷ bs) = b == 95

-- a name that begins with `_` is kept for the object with that number: `_7` for number 7
abbrev pub is_reserved : List ℕ → ℕ → Bool
is_reserved name number = begins_with_underscore name && not (is_name name (95 ∷ decimal number))

-- a string has none
abbrev pub default_value : Kind → Option Value
default_value kind.Int = Some (value.Int (pos 0))
default_value kind.Bool = Some (value.Bool false)
default_value kind.Text = None
default_value (kind.Enum e) = Some (value.Enum e 0)
default_value kind.Obj = None

abbrev pub with_default : ObjId → ℕ → Option Value → List AttributeValue → List AttributeValue
with_default o a None rest = rest
with_default o a (Some v) rest = record { object = o; attribute = record { 0 = a }; value = v } ∷ rest

-- of the attributes from the a-th on, those that the class has, at their defaults
abbrev pub defaults_from : Metamodel → ClassId → ObjId → ℕ → List AttrInfo → List AttributeValue
defaults_from meta c o a [] = []
defaults_from meta c o a (info ∷ infos) = if isa meta c info.class
    then with_default o a (default_value info.kind) (defaults_from meta c o (a + 1) infos)
    else defaults_from meta c o (a + 1) infos

abbrev pub created : Metamodel → Model → List ℕ → ClassId → ℕ → Model
created meta g name c number = record g {
  next = number + 1;
  live = g.live ++ record { number = record { 0 = number }; name = name; class = c } ∷ [];
  values = g.values ++ defaults_from meta c (record { 0 = number }) 0 meta.attributes;
}
