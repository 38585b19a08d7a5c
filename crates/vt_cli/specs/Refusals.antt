-- The outcome of a file that is refused: its fault's code, name and place.
use Rattle.std.specs.Prelude.{ℕ, ◌+◌, List, [], codes, Option, Some, None, Result, Ok, Err}
use Rattle.vt_model.specs.Metamodel.{Metamodel}
use Rattle.vt_model.specs.Model.{Model}
use Rattle.vt_meta.specs.Faults as metamodel
use Rattle.vt_model.specs.declared.change.Refusal.{Refusal}
use Rattle.vt_model.specs.declared.change.Refusal.TheVariants.{UnknownObject, Gone, UnknownClass, AbstractClass, NameTaken, ReservedName, UnknownFeature, WrongKind, WrongValue, WrongTarget, ContainmentCycle, TooManyObjects}
use Rattle.vt_model_json.specs.Loading as model
use Rattle.vt_script.specs.Script as script
use Rattle.vt_script.specs.declared.line.Line.{Line}
use Rattle.vt_vql.specs.declared.fault.QueryFault.{QueryFault}
use Rattle.vt_vql.specs.declared.fault.QueryFault.TheVariants as query
use Rattle.vt_cli.specs.Lines.{input_line}
use Rattle.vt_cli.specs.Unbuilt.{unbuilt}
use Rattle.vt_cli.specs.declared.ending.Role.{Role}
use Rattle.vt_cli.specs.declared.ending.Role.TheVariants as role
use Rattle.vt_cli.specs.declared.ending.Ending.TheVariants.{BadInput}
use Rattle.vt_cli.specs.declared.ending.Outcome.{Outcome}

abbrev pub refused : Role → ℕ → List ℕ → ℕ → Outcome
refused role code name place = record { ending = BadInput role code place; text = input_line role name place }

-- ---- metamodels

abbrev pub meta_fault : metamodel.Fault → Outcome
meta_fault (metamodel.not_json place) = refused role.Metamodel 1 (codes "NotJson") place
meta_fault (metamodel.bad_shape place) = refused role.Metamodel 2 (codes "BadShape") place
meta_fault (metamodel.duplicate_name place) = refused role.Metamodel 3 (codes "DuplicateName") place
meta_fault (metamodel.unknown_type place) = refused role.Metamodel 4 (codes "UnknownType") place
meta_fault (metamodel.super_cycle place) = refused role.Metamodel 5 (codes "SuperCycle") place
meta_fault (metamodel.bad_opposite place) = refused role.Metamodel 6 (codes "BadOpposite") place
meta_fault (metamodel.bad_containment place) = refused role.Metamodel 7 (codes "BadContainment") place
meta_fault (metamodel.feature_clash place) = refused role.Metamodel 8 (codes "FeatureClash") place
meta_fault (metamodel.too_many place) = refused role.Metamodel 9 (codes "TooMany") place

-- a metamodel, or the outcome of its first fault
abbrev pub refused_meta : Result Metamodel metamodel.Fault → Result Metamodel Outcome
refused_meta (Ok meta) = Ok meta
refused_meta (Err fault) = Err (meta_fault fault)

-- ---- models

-- the number of a refusal is its place in the order in which refusals are tried
abbrev pub refusal_number : Refusal → ℕ
refusal_number UnknownObject = 1
refusal_number Gone = 2
refusal_number UnknownClass = 3
refusal_number AbstractClass = 4
refusal_number NameTaken = 5
refusal_number ReservedName = 6
refusal_number UnknownFeature = 7
refusal_number WrongKind = 8
refusal_number WrongValue = 9
refusal_number WrongTarget = 10
refusal_number ContainmentCycle = 11
refusal_number TooManyObjects = 12

abbrev pub refusal_name : Refusal → List ℕ
refusal_name UnknownObject = codes "UnknownObject"
refusal_name Gone = codes "Gone"
refusal_name UnknownClass = codes "UnknownClass"
refusal_name AbstractClass = codes "AbstractClass"
refusal_name NameTaken = codes "NameTaken"
refusal_name ReservedName = codes "ReservedName"
refusal_name UnknownFeature = codes "UnknownFeature"
refusal_name WrongKind = codes "WrongKind"
refusal_name WrongValue = codes "WrongValue"
refusal_name WrongTarget = codes "WrongTarget"
refusal_name ContainmentCycle = codes "ContainmentCycle"
refusal_name TooManyObjects = codes "TooManyObjects"

-- a change that the model refuses is told by its place among the document's changes
abbrev pub model_fault : model.Fault → Outcome
model_fault model.not_json = refused role.Model 1 (codes "NotJson") 0
model_fault model.bad_shape = refused role.Model 2 (codes "BadShape") 0
model_fault (model.item at why) = refused role.Model (100 + refusal_number why) (refusal_name why) at

-- a model, or the outcome of its document's first fault
abbrev pub refused_model : Result Model model.Fault → Result Model Outcome
refused_model (Ok g) = Ok g
refused_model (Err fault) = Err (model_fault fault)

-- ---- queries

-- want of memory is no fault of a file
abbrev pub refused_queries : QueryFault → Option Outcome
refused_queries (query.NotText place) = Some (refused role.Queries 1 (codes "NotText") place)
refused_queries (query.BadToken line) = Some (refused role.Queries 2 (codes "BadToken") line)
refused_queries (query.NotBuilt place) = Some (refused role.Queries 90 (codes "NotBuilt") place)
refused_queries query.NoMemory = None

-- ---- rules

-- no rule is read yet: a file with a byte in it is refused
abbrev pub refused_rules : List ℕ → Result (Unit {0}) Outcome
refused_rules [] = Ok tt
refused_rules bytes = Err (refused role.Rules 90 (codes "NotBuilt") 0)

-- ---- scripts

abbrev pub script_fault : script.Fault → Outcome
script_fault (script.not_text line) = refused role.Script 1 (codes "NotText") line
script_fault (script.syntax_at line) = refused role.Script 2 (codes "Syntax") line
script_fault (script.too_many line) = refused role.Script 3 (codes "TooMany") line

-- a command that isn't built yet, by its number
abbrev pub unbuilt_command : ℕ → Outcome
unbuilt_command n = refused role.Script 90 (codes "NotBuilt") n

abbrev pub built_of : List Line → Option ℕ → Result (List Line) Outcome
built_of lines None = Ok lines
built_of lines (Some n) = Err (unbuilt_command n)

-- the commands of a script, or the outcome of its first fault
abbrev pub refused_script : Result (List Line) script.Fault → Result (List Line) Outcome
refused_script (Err fault) = Err (script_fault fault)
refused_script (Ok lines) = built_of lines (unbuilt lines)
