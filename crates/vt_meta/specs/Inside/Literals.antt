-- What the shape of a document says of its enums.
use Rattle.std.specs.Prelude.{◌≡◌, ◌<◌, ℕ, length, slice_get, Some}
use Rattle.vt_meta.specs.declared.document.EnumDocument.{EnumDocument}
use Rattle.vt_meta.specs.declared.document.MetamodelDocument.{MetamodelDocument}

-- each enum of the document has a literal
abbrev pub HasLiterals : MetamodelDocument → Type 0
HasLiterals document = (i : ℕ) (x : EnumDocument) → slice_get document.enums i ≡ Some x → 0 < length x.literals
