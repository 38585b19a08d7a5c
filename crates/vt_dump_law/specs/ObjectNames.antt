-- What a valid model needs besides for its dump to load to it.
use Rattle.std.specs.Prelude.{◌≡◌, true, All}
use Rattle.vt_json.specs.Names.{is_name, continues_object_name}
use Rattle.vt_model.specs.Model.{Model}

-- each live object's name has the form of an object's name
abbrev pub HasObjectNames : Model → Type 0
HasObjectNames g = All (λ o. is_name continues_object_name o.name ≡ true) g.live
