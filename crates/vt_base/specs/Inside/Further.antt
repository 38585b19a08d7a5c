-- The text of the values of a tuple after the first.
use Rattle.std.specs.Prelude.{ℕ, List, [], ◌∷◌, ◌++◌, codes}
use Rattle.vt_base.specs.Names.{EnumNames, ObjectName}
use Rattle.vt_base.specs.Written.{value_text}
use Rattle.vt_base.specs.declared.value.Value.{Value}

-- each value after a comma and a space
abbrev pub further_text : List EnumNames → List ObjectName → List Value → List ℕ
further_text enums objects [] = []
further_text enums objects (v ∷ vs) = (codes ", " ++ value_text enums objects v) ++ further_text enums objects vs
