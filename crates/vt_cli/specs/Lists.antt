-- The text of match lists.
use Rattle.std.specs.Prelude.{ℕ, List, [], ◌∷◌, ◌++◌, flat_map, length, codes, decimal, if◌then◌else◌}
use Rattle.vt_base.specs.Names.{EnumNames, ObjectName}
use Rattle.vt_base.specs.Written.{tuple_text}
use Rattle.vt_base.specs.declared.value.Value.{Value}
use Rattle.vt_query.specs.declared.program.Pattern.{Pattern}

-- two spaces, and a match
abbrev pub match_line : List EnumNames → List ObjectName → List Value → List ℕ
match_line enums objects row = codes "  " ++ tuple_text enums objects row ++ codes "\n"

-- a pattern's name and how many matches it has, then the matches, each on a line
abbrev pub match_list : List EnumNames → List ObjectName → Pattern → List (List Value) → List ℕ
match_list enums objects p table =
    codes "pattern " ++ p.name ++ codes " " ++ decimal (length table) ++ codes "\n" ++ flat_map (match_line enums objects) table

-- a private pattern isn't printed
abbrev pub shown_list : List EnumNames → List ObjectName → Pattern → List (List Value) → List ℕ
shown_list enums objects p table = if p.shown then match_list enums objects p table else []

-- the lists of the patterns in their order
abbrev pub match_lists : List EnumNames → List ObjectName → List Pattern → List (List (List Value)) → List ℕ
match_lists enums objects (p ∷ patterns) (table ∷ tables) = shown_list enums objects p table ++ match_lists enums objects patterns tables
match_lists enums objects patterns tables = []
