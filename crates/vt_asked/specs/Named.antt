-- The live objects that a change names.
use Rattle.std.specs.Prelude.{◌≡◌, ℕ, List, Some}
use Rattle.vt_model.specs.Model.{Model, object_named}
use Rattle.vt_asked.specs.declared.naming.Named.{Named}

-- the name is that of a live object with this number and class
abbrev pub IsNamed : Model → List ℕ → Named → Type 0
IsNamed g name o = object_named g name ≡ Some (record { number = o.number; name = name; class = o.class })
