-- The dump of a valid model loads to it.
use Rattle.std.proofs.Common.{◌≡◌, ℕ, List, [], ap, ◌∙◌}
use Rattle.std.specs.Prelude.{Some, Ok}
use Rattle.vt_json.specs.Json.{json_of}
use Rattle.vt_model.specs.Metamodel.{Metamodel}
use Rattle.vt_model.specs.Model.{Model}
use Rattle.vt_meta.specs.Reading.{meta_of}
use Rattle.vt_model.specs.Valid.{IsValid}
use Rattle.vt_model_json.specs.Dump.{model_data, dump}
use Rattle.vt_model_json.specs.Loading.{finished, judged, shaped, loaded}
use Rattle.vt_dump_law.specs.ObjectNames.{HasObjectNames}
use Rattle.vt_dump_law.proofs.ReadBack.{json_of-compact_text}
use Rattle.vt_dump_law.proofs.DataParts.{literal_name-utf8}
use Rattle.vt_dump_law.proofs.DataText.{IsReadable-model_data, depth-model_data}
use Rattle.vt_dump_law.proofs.Shape.{document_shape-model_data}
use Rattle.vt_dump_law.proofs.Changes.{transaction-live}
use Rattle.vt_dump_law.proofs.MetaNames.{IsNamed, IsNamed-meta_of}

-- the text of the data is read back as the data
pub json_of-dump : (meta : Metamodel) (g : Model) → IsNamed meta → IsValid meta g → HasObjectNames g → json_of (dump meta g) ≡ Some (model_data meta g)
json_of-dump meta g named valid names =
    json_of-compact_text (model_data meta g) (IsReadable-model_data meta named g valid names) (depth-model_data meta named g valid names)

-- the data has the shape of a document, whose changes make the model; then its next number is set
pub loaded-dump : (bytes : List ℕ) (meta : Metamodel) (g : Model) → meta_of bytes ≡ Ok meta → IsValid meta g → HasObjectNames g → loaded meta (dump meta g) ≡ Ok (record g { gone = [] })
unfolding loaded
loaded-dump bytes meta g read valid names =
    let named = IsNamed-meta_of bytes meta read in
    let made = transaction-live meta named.sound named.class_names named.literal_names (literal_name-utf8 meta named) g valid in
    ap (shaped meta) (json_of-dump meta g named valid names)
    ∙ ap (judged meta) (document_shape-model_data meta named.sound g valid names)
    ∙ ap (finished g.next) made.1
    ∙ (λ i. Ok (record { next = g.next; live = made.2 i; gone = made.3 i; values = made.4 i; links = made.5 i }))
