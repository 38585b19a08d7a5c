-- Model documents: the keys of each object, with their defaults.
use Rattle.std.specs.Prelude.{ℕ, ◌+◌, ◌&&◌, List, [], ◌∷◌, codes, Bool, true, nat_le, if◌then◌else◌, Option, Some, None, option_map, unwrap_or}
use Rattle.serde_json.specs.Data.{Data, null, boolean, number, string, array, object}
use Rattle.serde_json.specs.Find.{as_str, as_i64}
use Rattle.vt_json.specs.Shape.{has_only, required, defaulted, optional, list_of, entries_of, whole_number}
use Rattle.vt_facts.specs.Parts.{◌>>=◌}
use Rattle.vt_json.specs.Names.{object_name}
use Rattle.vt_meta.specs.Document.{has_format_one}
use Rattle.vt_model.specs.declared.change.Given.{Given}
use Rattle.vt_model.specs.declared.change.Given.TheVariants as given
use Rattle.vt_model_json.specs.declared.document.Entry.{Entry}
use Rattle.vt_model_json.specs.declared.document.ObjectDocument.{ObjectDocument}
use Rattle.vt_model_json.specs.declared.document.ModelDocument.{ModelDocument}

-- ---- objects

-- what null stands for
abbrev pub unset : Entry
unset = record { given = None }

-- what any other value stands for
abbrev pub given_value : Given → Entry
given_value v = record { given = Some v }

-- null, a boolean, a whole number or a text
abbrev pub entry_shape : Data → Option Entry
entry_shape null = Some unset
entry_shape (boolean b) = Some (given_value (given.Bool b))
entry_shape (number n) = option_map (λ z. given_value (given.Int z)) (as_i64 n)
entry_shape (string s) = Some (given_value (given.Text s))
entry_shape (array ds) = None
entry_shape (object ms) = None

-- an object has these keys, and no other
abbrev pub object_shape : Data → Option ObjectDocument
object_shape d = if has_only (codes "name" ∷ codes "class" ∷ codes "number" ∷ codes "attributes" ∷ codes "links" ∷ []) d then (do
  name ← required (codes "name") object_name d
  class ← required (codes "class") as_str d
  own ← optional (codes "number") whole_number d
  attributes ← defaulted (codes "attributes") [] (entries_of entry_shape) d
  links ← defaulted (codes "links") [] (entries_of (list_of object_name)) d
  Some (record { name = name; class = class; number = own; attributes = attributes; links = links })) else None

-- ---- numbers

-- an object's number: its own, or one above the number before
abbrev pub number_at : ℕ → ObjectDocument → ℕ
number_at above o = unwrap_or o.number above

-- the numbers rise strictly above those before, and are at most 1,048,576
abbrev pub rise : ℕ → List ObjectDocument → Bool
rise above [] = true
rise above (o ∷ os) = nat_le above (number_at above o) && nat_le (number_at above o) 1048576 && rise (number_at above o + 1) os

-- one above the last number, or 0 where there is none
abbrev pub above_all : ℕ → List ObjectDocument → ℕ
above_all above [] = above
above_all above (o ∷ os) = above_all (number_at above o + 1) os

-- the next number is above all numbers, and at most 1,048,576
abbrev pub with_next : List ObjectDocument → ℕ → Option ModelDocument
with_next objects next =
    if rise 0 objects && nat_le (above_all 0 objects) next && nat_le next 1048576
    then Some (record { next = next; objects = objects })
    else None

-- ---- the document

-- a document has these keys, and no other
abbrev pub document_shape : Data → Option ModelDocument
document_shape d = if has_only (codes "format" ∷ codes "next" ∷ codes "objects" ∷ []) d && has_format_one d then (do
  next ← optional (codes "next") whole_number d
  objects ← required (codes "objects") (list_of object_shape) d
  with_next objects (unwrap_or next (above_all 0 objects))) else None
