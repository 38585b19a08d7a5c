-- The metamodel that bytes spell, or why they spell none.
use Rattle.std.specs.Prelude.{◌≡◌, ℕ, List, Option, Some, None, Result, Ok, Err}
use Rattle.serde_json.specs.Data.{Data}
use Rattle.vt_json.specs.Json.{json_of}
use Rattle.vt_model.specs.Metamodel.{Metamodel}
use Rattle.vt_meta.specs.Document.{document_shape}
use Rattle.vt_meta.specs.Built.{metamodel_of}
use Rattle.vt_meta.specs.Faults.{Fault, not_json, bad_shape, duplicate_name, unknown_type, super_cycle, bad_opposite, bad_containment, feature_clash, too_many, first_fault}
use Rattle.vt_meta.specs.declared.document.MetamodelDocument.{MetamodelDocument}
use Rattle.vt_meta.specs.declared.fault.MetaFault.{MetaFault}
use Rattle.vt_meta.specs.declared.fault.MetaFault.TheVariants.{NotJson, BadShape, DuplicateName, UnknownType, SuperCycle, BadOpposite, BadContainment, FeatureClash, TooMany, NoMemory}

-- a document without a fault makes its metamodel
abbrev pub unless_faulty : Option Fault → Metamodel → Result Metamodel Fault
unless_faulty (Some fault) meta = Err fault
unless_faulty None meta = Ok meta

abbrev pub judged : Option MetamodelDocument → Result Metamodel Fault
judged None = Err (bad_shape 0)
judged (Some document) = unless_faulty (first_fault document) (metamodel_of document)

abbrev pub shaped : Option Data → Result Metamodel Fault
shaped None = Err (not_json 0)
shaped (Some d) = judged (document_shape d)

-- the metamodel that bytes spell, or the first fault
unfoldable pub meta_of : List ℕ → Result Metamodel Fault
meta_of bytes = shaped (json_of bytes)

-- a call answers the fault that there is; want of memory may stand for any answer
abbrev pub IsFaultOf : MetaFault → Result Metamodel Fault → Type 0
IsFaultOf (NotJson place) due = due ≡ Err (not_json place)
IsFaultOf (BadShape place) due = due ≡ Err (bad_shape place)
IsFaultOf (DuplicateName place) due = due ≡ Err (duplicate_name place)
IsFaultOf (UnknownType place) due = due ≡ Err (unknown_type place)
IsFaultOf (SuperCycle place) due = due ≡ Err (super_cycle place)
IsFaultOf (BadOpposite place) due = due ≡ Err (bad_opposite place)
IsFaultOf (BadContainment place) due = due ≡ Err (bad_containment place)
IsFaultOf (FeatureClash place) due = due ≡ Err (feature_clash place)
IsFaultOf (TooMany place) due = due ≡ Err (too_many place)
IsFaultOf NoMemory due = Unit {0}
