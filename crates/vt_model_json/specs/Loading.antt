-- The model that a document makes: the transaction of its changes on the empty model.
use Rattle.std.specs.Prelude.{◌≡◌, ℕ, ◌+◌, List, [], ◌∷◌, ◌++◌, map, flat_map, Option, Some, None, Result, Ok, Err}
use Rattle.serde_json.specs.Data.{Data}
use Rattle.vt_json.specs.Json.{json_of}
use Rattle.vt_model.specs.Metamodel.{Metamodel}
use Rattle.vt_model.specs.Model.{Model, empty_model}
use Rattle.vt_model.specs.Transaction.{Stop, transaction}
use Rattle.vt_model.specs.declared.change.Given.{Given}
use Rattle.vt_model.specs.declared.change.Change.{Change}
use Rattle.vt_model.specs.declared.change.Change.TheVariants.{Create, Set, Unset, Link}
use Rattle.vt_model.specs.declared.change.Refusal.{Refusal}
use Rattle.vt_model_json.specs.ModelDocument.{number_at, document_shape}
use Rattle.vt_model_json.specs.declared.document.ObjectDocument.{ObjectDocument}
use Rattle.vt_model_json.specs.declared.document.ModelDocument.{ModelDocument}
use Rattle.vt_model_json.specs.declared.loading.ModelFault.{ModelFault}
use Rattle.vt_model_json.specs.declared.loading.ModelFault.TheVariants.{NotJson, BadShape, Item, NoMemory}

-- ---- the changes of a document

-- each object with its number
abbrev pub creations : ℕ → List ObjectDocument → List Change
creations above [] = []
creations above (o ∷ os) = Create o.name o.class (Some (number_at above o)) ∷ creations (number_at above o + 1) os

-- a value that is given is set, and null gives the default back
abbrev pub assignment : List ℕ → List ℕ → Option Given → Change
assignment name attribute None = Unset name attribute
assignment name attribute (Some value) = Set name attribute value

-- an object's attributes, in rising order of key
abbrev pub assignments : ObjectDocument → List Change
assignments o = map (λ e. assignment o.name e.0 e.1.given) o.attributes

-- an object's links, in rising order of key, and each key's targets in list order
abbrev pub linkings : ObjectDocument → List Change
linkings o = flat_map (λ e. map (λ target. Link o.name e.0 target) e.1) o.links

-- all objects first, then all attributes, then all links
abbrev pub changes_of : ModelDocument → List Change
changes_of document = creations 0 document.objects ++ flat_map assignments document.objects ++ flat_map linkings document.objects

-- ---- the first fault

-- why a document makes no model: a change of its list is refused, which has this place, for this reason
pub data Fault : Type 0 where
  not_json : Fault
  bad_shape : Fault
  item : ℕ → Refusal → Fault

-- at last the document's next number is set
abbrev pub finished : ℕ → Result Model Stop → Result Model Fault
finished next (Err stop) = Err (item stop.at stop.why)
finished next (Ok g) = Ok (record g { next = next })

-- a document without its shape is refused before any change is tried
abbrev pub judged : Metamodel → Option ModelDocument → Result Model Fault
judged meta None = Err bad_shape
judged meta (Some document) = finished document.next (transaction meta empty_model (changes_of document))

-- bytes that are no JSON have no shape to ask for
abbrev pub shaped : Metamodel → Option Data → Result Model Fault
shaped meta None = Err not_json
shaped meta (Some d) = judged meta (document_shape d)

-- the model that bytes spell over a metamodel, or the first fault
unfoldable pub loaded : Metamodel → List ℕ → Result Model Fault
loaded meta bytes = shaped meta (json_of bytes)

-- a call answers the fault that there is; want of memory may stand for any answer
abbrev pub IsFaultOf : ModelFault → Result Model Fault → Type 0
IsFaultOf NotJson due = due ≡ Err not_json
IsFaultOf BadShape due = due ≡ Err bad_shape
IsFaultOf (Item index why) due = due ≡ Err (item index why)
IsFaultOf NoMemory due = Unit {0}
