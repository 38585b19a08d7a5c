-- Rows whose values have names.
use Rattle.std.specs.Prelude.{List}
use Rattle.std.specs.List.{AllByRecursion}
use Rattle.vt_base.specs.Names.{EnumNames, ObjectName, AreNamed}
use Rattle.vt_base.specs.declared.value.Value.{Value}
use Rattle.vt_history.specs.declared.report.PatternEvents.{PatternEvents}
use Rattle.vt_cli.specs.Inside.Marks.{happened}

-- what the rows of a table name has a name
abbrev pub AllNamed : List EnumNames → List ObjectName → List (List Value) → Type 0
AllNamed enums objects rows = AllByRecursion (AreNamed enums objects) rows

-- and what those of each table name
abbrev pub AllTablesNamed : List EnumNames → List ObjectName → List (List (List Value)) → Type 0
AllTablesNamed enums objects tables = AllByRecursion (AllNamed enums objects) tables

-- and what the tuples name that something happened to
abbrev pub AllEventsNamed : List EnumNames → List ObjectName → List PatternEvents → Type 0
AllEventsNamed enums objects events = AllByRecursion (λ e. AllNamed enums objects (happened e)) events
