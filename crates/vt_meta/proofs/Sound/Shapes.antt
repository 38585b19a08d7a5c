-- What a document that has its shape says: each of its enums has a literal.
use Rattle.std.proofs.Common.{◌≡◌, ℕ, zero, suc, List, [], ◌∷◌, length, refl, sym, subst, ◌∙◌, arith, Bool, true, false}
use Rattle.std.specs.Prelude.{◌<◌, ◌&&◌, codes, slice_get, Option, Some, None, option_map, option_and_then, if◌then◌else◌}
use Rattle.std.proofs.lemmas.Option.{same_Some}
use Rattle.serde_json.specs.Data.{Data, Items, no_items, item}
use Rattle.serde_json.specs.Find.{get, as_array, as_str}
use Rattle.vt_json.specs.Shape.{has_only, required, defaulted, or_default, list_of, items_in}
use Rattle.vt_json.specs.Names.{identifier}
use Rattle.vt_meta.specs.Document.{some_of, enum_shape, class_shape, document_shape, has_format_one}
use Rattle.vt_meta.specs.Inside.Literals.{HasLiterals}
use Rattle.vt_meta.specs.declared.document.EnumDocument.{EnumDocument}
use Rattle.vt_meta.specs.declared.document.ClassDocument.{ClassDocument}
use Rattle.vt_meta.specs.declared.document.MetamodelDocument.{MetamodelDocument}
use Rattle.vt_facts.specs.Parts.{◌>>=◌}

-- ---- lists of one shape

-- each item of the list has the shape
pub slice_get-items_in : {A : Type 0} (shape : Data → Option A) (items : Items) (xs : List A) (i : ℕ) (x : A)
    → items_in shape items ≡ Some xs → slice_get xs i ≡ Some x → (d : Data) × (shape d ≡ Some x)
slice_get-items_in shape no_items xs i x e at = let is : [] ≡ xs = same_Some [] xs e in let none : slice_get [] i ≡ Some x = subst (λ l. slice_get l i ≡ Some x) (sym is) at in cc
slice_get-items_in {A} shape (item d ds) xs i x e at = by (λ ys. slice_get-items_in shape ds ys) (shape d) refl (items_in shape ds) refl e i at
  where
    by : ((ys : List A) (i : ℕ) (x : A) → items_in shape ds ≡ Some ys → slice_get ys i ≡ Some x → (d : Data) × (shape d ≡ Some x))
        → (first : Option A) → shape d ≡ first → (rest : Option (List A)) → items_in shape ds ≡ rest
        → option_and_then (λ y. option_map (λ ys. y ∷ ys) rest) first ≡ Some xs → (i : ℕ) → slice_get xs i ≡ Some x → (d : Data) × (shape d ≡ Some x)
    by later None of_first rest of_rest e i at = cc
    by later (Some y) of_first None of_rest e i at = cc
    by later (Some y) of_first (Some ys) of_rest e zero at =
        let here : slice_get (y ∷ ys) 0 ≡ Some x = subst (λ l. slice_get l 0 ≡ Some x) (sym (same_Some (y ∷ ys) xs e)) at in
        (d, of_first ∙ here)
    by later (Some y) of_first (Some ys) of_rest e (suc j) at =
        let there : slice_get (y ∷ ys) (suc j) ≡ Some x = subst (λ l. slice_get l (suc j) ≡ Some x) (sym (same_Some (y ∷ ys) xs e)) at in
        later ys j x of_rest there

-- the same of a list that may be left out
pub slice_get-default_list : {A : Type 0} (shape : Data → Option A) (under : Option Data) (xs : List A) (i : ℕ) (x : A)
    → or_default [] (list_of shape) under ≡ Some xs → slice_get xs i ≡ Some x → (d : Data) × (shape d ≡ Some x)
slice_get-default_list shape None xs i x e at = let none : slice_get [] i ≡ Some x = subst (λ l. slice_get l i ≡ Some x) (sym (same_Some [] xs e)) at in cc
slice_get-default_list {A} shape (Some d) xs i x e at = by (as_array d) e
  where
    by : (items : Option Items) → option_and_then (items_in shape) items ≡ Some xs → (d : Data) × (shape d ≡ Some x)
    by None e = cc
    by (Some items) e = slice_get-items_in shape items xs i x e at

-- ---- enums

-- an enum has a literal
pub length-enum_shape : (d : Data) (x : EnumDocument) → enum_shape d ≡ Some x → 0 < length x.literals
length-enum_shape d x e =
    by (has_only (codes "name" ∷ codes "literals" ∷ []) d) (required (codes "name") identifier d) (required (codes "literals") (list_of identifier) d) e
  where
    by : (b : Bool) (n : Option (List ℕ)) (l : Option (List (List ℕ)))
        → (if b then (n >>= (λ name. l >>= (λ names. some_of names >>= (λ literals. Some (record { name = name; literals = literals }))))) else None) ≡ Some x → 0 < length x.literals
    by false n l e = cc
    by true None l e = cc
    by true (Some name) None e = cc
    by true (Some name) (Some []) e = cc
    by true (Some name) (Some (l ∷ ls)) e =
        let is : record { name = name; literals = l ∷ ls } ≡ x = same_Some (record { name = name; literals = l ∷ ls }) x e in
        subst (λ (y : EnumDocument). 0 < length y.literals) is (omega arith)

-- ---- the document

-- a document that has its shape does so
pub HasLiterals-document_shape : (d : Data) (document : MetamodelDocument) → document_shape d ≡ Some document → HasLiterals document
HasLiterals-document_shape d document e i x at =
    by (has_only (codes "format" ∷ codes "uri" ∷ codes "enums" ∷ codes "classes" ∷ []) d && has_format_one d)
    (defaulted (codes "uri") [] as_str d) (defaulted (codes "enums") [] (list_of enum_shape) d) refl (required (codes "classes") (list_of class_shape) d) e
  where
    by : (b : Bool) (u : Option (List ℕ)) (es : Option (List EnumDocument)) → defaulted (codes "enums") [] (list_of enum_shape) d ≡ es → (cs : Option (List ClassDocument))
        → (if b then (u >>= (λ uri. es >>= (λ enums. cs >>= (λ classes. Some (record { uri = uri; enums = enums; classes = classes }))))) else None) ≡ Some document → 0 < length x.literals
    by false u es of_enums cs e = cc
    by true None es of_enums cs e = cc
    by true (Some uri) None of_enums cs e = cc
    by true (Some uri) (Some enums) of_enums None e = cc
    by true (Some uri) (Some enums) of_enums (Some classes) e =
        let is : record { uri = uri; enums = enums; classes = classes } ≡ document = same_Some (record { uri = uri; enums = enums; classes = classes }) document e in
        let there : slice_get enums i ≡ Some x = subst (λ (y : MetamodelDocument). slice_get y.enums i ≡ Some x) (sym is) at in
        let shaped = slice_get-default_list enum_shape (get (codes "enums") d) enums i x of_enums there in
        length-enum_shape shaped.0 x shaped.1

-- the same for the document that is read
pub literals_of_shape : (d : Data) (document : MetamodelDocument) → document_shape d ≡ Some document → HasLiterals document
literals_of_shape = HasLiterals-document_shape
