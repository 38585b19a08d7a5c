-- The numbers of a document that has its shape.
use Rattle.std.proofs.Common.{◌≡◌, ℕ, ◌≤◌, List, [], ◌∷◌, codes, Bool, true, false, Option, Some, None, refl, subst}
use Rattle.std.specs.Prelude.{◌&&◌, nat_le, if◌then◌else◌, unwrap_or}
use Rattle.std.proofs.lemmas.Bool.{leb-true}
use Rattle.serde_json.specs.Data.{Data}
use Rattle.vt_json.specs.Shape.{has_only, optional, required, list_of, whole_number}
use Rattle.vt_facts.specs.Parts.{◌>>=◌}
use Rattle.vt_meta.specs.Document.{has_format_one}
use Rattle.vt_model_json.specs.ModelDocument.{rise, above_all, with_next, object_shape, document_shape}
use Rattle.vt_model_json.specs.declared.document.ObjectDocument.{ObjectDocument}
use Rattle.vt_model_json.specs.declared.document.ModelDocument.{ModelDocument}

-- both tests hold: the first
pub left : (a b : Bool) → (a && b) ≡ true → a ≡ true
left true b both = refl
left false b both = both

-- and the second
pub right : (a b : Bool) → (a && b) ≡ true → b ≡ true
right true b both = both
right false b both = cc

-- ---- what comes out of a step

after_step : {A B : Type 0} (P : B → Type 0) (o : Option A) (rest : A → Option B) (b : B)
    → ((a : A) → rest a ≡ Some b → P b) → (o >>= rest) ≡ Some b → P b
after_step P None rest b each out = absurd (let none : ⊥ = cc in none)
after_step P (Some a) rest b each out = each a out

after_test : {B : Type 0} (P : B → Type 0) (test : Bool) (o : Option B) (b : B)
    → (test ≡ true → o ≡ Some b → P b) → (if test then o else None) ≡ Some b → P b
after_test P false o b each out = absurd (let none : ⊥ = cc in none)
after_test P true o b each out = each refl out

-- ---- document_shape

-- its numbers rise, its next number is above them, and is at most the most
pub record IsNumbered (document : ModelDocument) : Type 0 where
  pub rises : rise 0 document.objects ≡ true
  pub covers : above_all 0 document.objects ≤ document.next
  pub few : document.next ≤ 1048576

numbered : (objects : List ObjectDocument) (next : ℕ) (document : ModelDocument) → with_next objects next ≡ Some document → IsNumbered document
numbered objects next document out = after_test IsNumbered (rise 0 objects && nat_le (above_all 0 objects) next && nat_le next 1048576) (Some (record { next = next; objects = objects })) document
    (λ passed is.
    let same : record { next = next; objects = objects } ≡ document = cc in
    subst IsNumbered same (record { rises = left _ _ (left _ _ passed); covers = leb-true _ _ (right _ _ (left _ _ passed)); few = leb-true _ _ (right _ _ passed) })) out

document_numbered : (d : Data) (document : ModelDocument) → document_shape d ≡ Some document → IsNumbered document
document_numbered d document out =
    let next_given : Option (Option ℕ) = optional (codes "next") whole_number d in
    let objects_given : Option (List ObjectDocument) = required (codes "objects") (list_of object_shape) d in
    let with_objects : Option ℕ → List ObjectDocument → Option ModelDocument = λ next objects. with_next objects (unwrap_or next (above_all 0 objects)) in
    let with_given : Option ℕ → Option ModelDocument = λ next. objects_given >>= with_objects next in
    after_test IsNumbered (has_only (codes "format" ∷ codes "next" ∷ codes "objects" ∷ []) d && has_format_one d) (next_given >>= with_given) document
    (λ passed from_next. after_step IsNumbered next_given with_given document
    (λ next from_objects. after_step IsNumbered objects_given (with_objects next) document
    (λ objects from_numbers. numbered objects (unwrap_or next (above_all 0 objects)) document from_numbers) from_objects) from_next) out

pub document_rises : (d : Data) (document : ModelDocument) → document_shape d ≡ Some document → rise 0 document.objects ≡ true
document_rises d document out = (document_numbered d document out).rises

pub document_covers : (d : Data) (document : ModelDocument) → document_shape d ≡ Some document → above_all 0 document.objects ≤ document.next
document_covers d document out = (document_numbered d document out).covers

pub document_few : (d : Data) (document : ModelDocument) → document_shape d ≡ Some document → document.next ≤ 1048576
document_few d document out = (document_numbered d document out).few
