-- Parts of the metamodel that a document makes.
use Rattle.std.specs.Prelude.{ℕ, ◌&&◌, ◌==◌, List, map, position, Bool, Option, option_map}
use Rattle.vt_base.specs.declared.numbers.ClassId.{ClassId}
use Rattle.vt_base.specs.declared.numbers.RefId.{RefId}
use Rattle.vt_facts.specs.Names.{is_name}
use Rattle.vt_meta.specs.Built.{Declared, references_from}
use Rattle.vt_meta.specs.declared.building.Declaration.{Declaration}
use Rattle.vt_meta.specs.declared.document.ReferenceDocument.{ReferenceDocument}
use Rattle.vt_meta.specs.declared.document.ClassDocument.{ClassDocument}

-- a reference by its class and its name
abbrev pub declaration : Declared ReferenceDocument → Declaration
declaration d = record { class = d.class; name = d.feature.name }

-- those of the classes from the n-th on
abbrev pub declarations_from : ℕ → List ClassDocument → List Declaration
declarations_from n classes = map declaration (references_from n classes)

abbrev pub is_declaration : ClassId → List ℕ → Declaration → Bool
is_declaration class name d = d.class.0 == class.0 && is_name d.name name

-- the number of the reference of a name that a class declares
abbrev pub number_in : List Declaration → ClassId → List ℕ → Option RefId
number_in declarations class name = option_map (λ n. record { 0 = n }) (position (is_declaration class name) declarations)
