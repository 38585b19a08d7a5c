-- The names by which a dump shows objects.
use Rattle.std.specs.Prelude.{ℕ, List, [], map, unwrap_or}
use Rattle.vt_base.specs.declared.numbers.ObjId.{ObjId}
use Rattle.vt_model.specs.Model.{Model}
use Rattle.vt_graph.specs.Asked.{name_at}

-- the name of an object, live or deleted; the empty one of an object that never was
abbrev pub shown_name : Model → ObjId → List ℕ
shown_name g o = unwrap_or (name_at g o) []

abbrev pub shown_names : Model → List ObjId → List (List ℕ)
shown_names g objects = map (shown_name g) objects
