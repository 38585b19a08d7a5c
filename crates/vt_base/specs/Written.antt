-- The texts of a value and of a tuple.
use Rattle.std.specs.Prelude.{◌≡◌, ℕ, List, [], ◌++◌, take, codes, true, false, Option, Some, None, unwrap_or}
use Rattle.std.specs.List.{join_by}
use Rattle.std.specs.Fmt.{signed_decimal}
use Rattle.serde_json.specs.Data.{string}
use Rattle.serde_json.specs.Written.{compact_text}
use Rattle.vt_base.specs.Names.{EnumNames, ObjectName, literal_names, object_name}
use Rattle.vt_base.specs.declared.value.Value.{Value}
use Rattle.vt_base.specs.declared.value.Value.TheVariants.{Bool, Int, Text, Enum, Obj}

-- `Enum::LITERAL`
abbrev pub literal_text : Option (List ℕ × List ℕ) → List ℕ
literal_text None = []
literal_text (Some names) = names.0 ++ codes "::" ++ names.1

-- a text stands as JSON writes a string, and an object stands by its name
abbrev pub value_text : List EnumNames → List ObjectName → Value → List ℕ
value_text enums objects (Bool true) = codes "true"
value_text enums objects (Bool false) = codes "false"
value_text enums objects (Int n) = signed_decimal n
value_text enums objects (Text s) = compact_text (string s)
value_text enums objects (Enum e l) = literal_text (literal_names enums e l)
value_text enums objects (Obj o) = unwrap_or (object_name objects o) []

-- `(v1, v2)`, and `()` of no values
abbrev pub tuple_text : List EnumNames → List ObjectName → List Value → List ℕ
tuple_text enums objects values = codes "(" ++ join_by (value_text enums objects) (codes ", ") values ++ codes ")"

-- a list grew by the front of a text
pub record AppendsFront (old new text : List ℕ) : Type 0 where
  pub count : ℕ
  pub grown : new ≡ old ++ take count text
