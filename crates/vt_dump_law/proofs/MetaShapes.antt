-- The names in a metamodel document that has its shape are text.
use Rattle.std.proofs.Common.{◌≡◌, ℕ, List, [], ◌∷◌, codes, refl, subst, Bool, true, false, IsUtf8}
use Rattle.std.specs.Prelude.{◌&&◌, All, Option, Some, None, option_map, option_and_then, if◌then◌else◌}
use Rattle.std.proofs.lemmas.List.Elements.{All-nil, All-cons}
use Rattle.std.proofs.lemmas.Option.{same_Some}
use Rattle.serde_json.specs.Data.{Data, Items, no_items, item}
use Rattle.serde_json.specs.Find.{get, as_array, as_str, as_bool}
use Rattle.vt_json.specs.Shape.{has_only, required, defaulted, optional, or_default, list_of, items_in}
use Rattle.vt_json.specs.Names.{is_name, continues_identifier, identifier}
use Rattle.vt_meta.specs.Document.{some_of, enum_shape, attribute_shape, reference_shape, class_shape, document_shape, has_format_one}
use Rattle.vt_meta.specs.declared.document.EnumDocument.{EnumDocument}
use Rattle.vt_meta.specs.declared.document.ClassDocument.{ClassDocument}
use Rattle.vt_meta.specs.declared.document.AttributeDocument.{AttributeDocument}
use Rattle.vt_meta.specs.declared.document.ReferenceDocument.{ReferenceDocument}
use Rattle.vt_meta.specs.declared.document.MetamodelDocument.{MetamodelDocument}
use Rattle.vt_dump_law.proofs.PlainNames.{below-identifier, IsUtf8-is_name}
use Rattle.vt_facts.specs.Parts.{◌>>=◌}

-- ---- what holds of all that has one shape

module _ {A : Type 0} (P : A → Type 0) (shape : Data → Option A) (each : (d : Data) (x : A) → shape d ≡ Some x → P x) where
  -- each item that is read
  All-items_in : (ds : Items) (xs : List A) → items_in shape ds ≡ Some xs → All P xs
  All-items_in no_items xs e = subst (All P) (same_Some [] xs e) (All-nil P)
  All-items_in (item d ds) xs e = by (All-items_in ds) (shape d) refl (items_in shape ds) refl e
    where
      by : ((ys : List A) → items_in shape ds ≡ Some ys → All P ys) → (o : Option A) → shape d ≡ o → (rest : Option (List A)) → items_in shape ds ≡ rest
          → option_and_then (λ y. option_map (λ ys. y ∷ ys) rest) o ≡ Some xs → All P xs
      by later None of rest is e = cc
      by later (Some y) of None is e = cc
      by later (Some y) of (Some ys) is e = subst (All P) (same_Some (y ∷ ys) xs e) (All-cons P y ys (each d y of) (later ys is))

  -- each of a list
  pub All-list_of : (d : Data) (xs : List A) → list_of shape d ≡ Some xs → All P xs
  All-list_of d xs e = by (as_array d) e
    where
      by : (items : Option Items) → option_and_then (items_in shape) items ≡ Some xs → All P xs
      by None e = cc
      by (Some items) e = All-items_in items xs e

-- what holds of what stands under a key
module _ {A : Type 0} (P : A → Type 0) (shape : Data → Option A) (each : (d : Data) (x : A) → shape d ≡ Some x → P x) where
  pub of-required : (key : List ℕ) (d : Data) (x : A) → required key shape d ≡ Some x → P x
  of-required key d x e = by (get key d) e
    where
      by : (under : Option Data) → option_and_then shape under ≡ Some x → P x
      by None e = cc
      by (Some u) e = each u x e

  pub of-defaulted : (key : List ℕ) (default : A) (d : Data) (x : A) → P default → defaulted key default shape d ≡ Some x → P x
  of-defaulted key default d x holds e = by (get key d) e
    where
      by : (under : Option Data) → or_default default shape under ≡ Some x → P x
      by None e = subst P (same_Some default x e) holds
      by (Some u) e = each u x e

-- ---- names

-- an identifier is text
IsUtf8-identifier : (d : Data) (name : List ℕ) → identifier d ≡ Some name → IsUtf8 name
IsUtf8-identifier d name e = by (as_str d) e
  where
    tested : (text : List ℕ) (b : Bool) → is_name continues_identifier text ≡ b → (if b then Some text else None) ≡ Some name → IsUtf8 name
    tested text true form e = subst IsUtf8 (same_Some text name e) (IsUtf8-is_name continues_identifier below-identifier text form)
    tested text false form e = cc

    by : (text : Option (List ℕ)) → (text >>= (λ text. if is_name continues_identifier text then Some text else None)) ≡ Some name → IsUtf8 name
    by None e = cc
    by (Some text) e = tested text (is_name continues_identifier text) refl e

-- the same under its key
IsUtf8-required : (key : List ℕ) (d : Data) (name : List ℕ) → required key identifier d ≡ Some name → IsUtf8 name
IsUtf8-required = of-required IsUtf8 identifier IsUtf8-identifier

-- ---- enums, attributes and references

-- an enum whose literals are text
abbrev HasNamedLiterals : EnumDocument → Type 0
HasNamedLiterals e = All IsUtf8 e.literals

-- each enum is
All-enum_shape : (d : Data) (x : EnumDocument) → enum_shape d ≡ Some x → HasNamedLiterals x
All-enum_shape d x e =
    by (has_only (codes "name" ∷ codes "literals" ∷ []) d) (required (codes "name") identifier d) (required (codes "literals") (list_of identifier) d) refl e
  where
    by : (b : Bool) (n : Option (List ℕ)) (l : Option (List (List ℕ))) → required (codes "literals") (list_of identifier) d ≡ l
        → (if b then (n >>= (λ name. l >>= (λ names. some_of names >>= (λ literals. Some (record { name = name; literals = literals }))))) else None) ≡ Some x → HasNamedLiterals x
    by false n l of e = cc
    by true None l of e = cc
    by true (Some name) None of e = cc
    by true (Some name) (Some []) of e = cc
    by true (Some name) (Some (l ∷ ls)) of e =
        subst HasNamedLiterals (same_Some (record { name = name; literals = l ∷ ls }) x e)
        (of-required (All IsUtf8) (list_of identifier) (All-list_of IsUtf8 identifier IsUtf8-identifier) (codes "literals") d (l ∷ ls) of)

-- the name of an attribute is text
IsUtf8-attribute_shape : (d : Data) (x : AttributeDocument) → attribute_shape d ≡ Some x → IsUtf8 x.name
IsUtf8-attribute_shape d x e =
    by (has_only (codes "name" ∷ codes "kind" ∷ []) d) (required (codes "name") identifier d) refl (required (codes "kind") as_str d) e
  where
    by : (b : Bool) (n : Option (List ℕ)) → required (codes "name") identifier d ≡ n → (k : Option (List ℕ))
        → (if b then (n >>= (λ name. k >>= (λ kind. Some (record { name = name; kind = kind })))) else None) ≡ Some x → IsUtf8 x.name
    by false n of k e = cc
    by true None of k e = cc
    by true (Some name) of None e = cc
    by true (Some name) of (Some kind) e = subst (λ (y : AttributeDocument). IsUtf8 y.name) (same_Some (record { name = name; kind = kind }) x e) (IsUtf8-required (codes "name") d name of)

-- and that of a reference
IsUtf8-reference_shape : (d : Data) (x : ReferenceDocument) → reference_shape d ≡ Some x → IsUtf8 x.name
IsUtf8-reference_shape d x e =
    by (has_only (codes "name" ∷ codes "target" ∷ codes "many" ∷ codes "containment" ∷ codes "opposite" ∷ []) d) (required (codes "name") identifier d) refl
    (required (codes "target") as_str d) (defaulted (codes "many") false as_bool d) (defaulted (codes "containment") false as_bool d) (optional (codes "opposite") identifier d) e
  where
    by : (b : Bool) (n : Option (List ℕ)) → required (codes "name") identifier d ≡ n → (t : Option (List ℕ)) (m c : Option Bool) (o : Option (Option (List ℕ)))
        → (if b then (n >>= (λ name. t >>= (λ target. m >>= (λ many. c >>= (λ containment. o >>= (λ opposite.
        Some (record { name = name; target = target; many = many; containment = containment; opposite = opposite }))))))) else None) ≡ Some x → IsUtf8 x.name
    by false n of t m c o e = cc
    by true None of t m c o e = cc
    by true (Some name) of None m c o e = cc
    by true (Some name) of (Some t) None c o e = cc
    by true (Some name) of (Some t) (Some m) None o e = cc
    by true (Some name) of (Some t) (Some m) (Some c) None e = cc
    by true (Some name) of (Some t) (Some m) (Some c) (Some o) e =
        subst (λ (y : ReferenceDocument). IsUtf8 y.name) (same_Some (record { name = name; target = t; many = m; containment = c; opposite = o }) x e) (IsUtf8-required (codes "name") d name of)

-- ---- classes

-- the names of a class and of what it declares are text
pub record IsNamedClass (c : ClassDocument) : Type 0 where
  pub name : IsUtf8 c.name
  pub attributes : All (λ a. IsUtf8 a.name) c.attributes
  pub references : All (λ r. IsUtf8 r.name) c.references

-- each class that has its shape
IsNamedClass-class_shape : (d : Data) (x : ClassDocument) → class_shape d ≡ Some x → IsNamedClass x
IsNamedClass-class_shape d x e =
    by (has_only (codes "name" ∷ codes "abstract" ∷ codes "supers" ∷ codes "attributes" ∷ codes "references" ∷ []) d) (required (codes "name") identifier d) refl
    (defaulted (codes "abstract") false as_bool d) (defaulted (codes "supers") [] (list_of identifier) d)
    (defaulted (codes "attributes") [] (list_of attribute_shape) d) refl (defaulted (codes "references") [] (list_of reference_shape) d) refl e
  where
    by : (b : Bool) (n : Option (List ℕ)) → required (codes "name") identifier d ≡ n → (a : Option Bool) (s : Option (List (List ℕ)))
        → (ps : Option (List AttributeDocument)) → defaulted (codes "attributes") [] (list_of attribute_shape) d ≡ ps
        → (rs : Option (List ReferenceDocument)) → defaulted (codes "references") [] (list_of reference_shape) d ≡ rs
        → (if b then (n >>= (λ name. a >>= (λ is_abstract. s >>= (λ supers. ps >>= (λ attributes. rs >>= (λ references.
        Some (record { name = name; is_abstract = is_abstract; supers = supers; attributes = attributes; references = references }))))))) else None) ≡ Some x → IsNamedClass x
    by false n of a s ps of_ps rs of_rs e = cc
    by true None of a s ps of_ps rs of_rs e = cc
    by true (Some name) of None s ps of_ps rs of_rs e = cc
    by true (Some name) of (Some a) None ps of_ps rs of_rs e = cc
    by true (Some name) of (Some a) (Some s) None of_ps rs of_rs e = cc
    by true (Some name) of (Some a) (Some s) (Some ps) of_ps None of_rs e = cc
    by true (Some name) of (Some a) (Some s) (Some ps) of_ps (Some rs) of_rs e =
        subst IsNamedClass (same_Some (record { name = name; is_abstract = a; supers = s; attributes = ps; references = rs }) x e) (record {
          name = IsUtf8-required (codes "name") d name of;
          attributes = of-defaulted (All (λ (y : AttributeDocument). IsUtf8 y.name)) (list_of attribute_shape)
              (All-list_of (λ (y : AttributeDocument). IsUtf8 y.name) attribute_shape IsUtf8-attribute_shape) (codes "attributes") [] d ps (All-nil (λ (y : AttributeDocument). IsUtf8 y.name)) of_ps;
          references = of-defaulted (All (λ (y : ReferenceDocument). IsUtf8 y.name)) (list_of reference_shape)
              (All-list_of (λ (y : ReferenceDocument). IsUtf8 y.name) reference_shape IsUtf8-reference_shape) (codes "references") [] d rs (All-nil (λ (y : ReferenceDocument). IsUtf8 y.name)) of_rs;
        })

-- ---- the document

-- all names of a document that models use are text
pub record IsNamedDocument (document : MetamodelDocument) : Type 0 where
  pub enums : All (λ e. All IsUtf8 e.literals) document.enums
  pub classes : All IsNamedClass document.classes

pub IsNamedDocument-document_shape : (d : Data) (document : MetamodelDocument) → document_shape d ≡ Some document → IsNamedDocument document
IsNamedDocument-document_shape d document e =
    by (has_only (codes "format" ∷ codes "uri" ∷ codes "enums" ∷ codes "classes" ∷ []) d && has_format_one d) (defaulted (codes "uri") [] as_str d)
    (defaulted (codes "enums") [] (list_of enum_shape) d) refl (required (codes "classes") (list_of class_shape) d) refl e
  where
    by : (b : Bool) (u : Option (List ℕ)) (es : Option (List EnumDocument)) → defaulted (codes "enums") [] (list_of enum_shape) d ≡ es
        → (cs : Option (List ClassDocument)) → required (codes "classes") (list_of class_shape) d ≡ cs
        → (if b then (u >>= (λ uri. es >>= (λ enums. cs >>= (λ classes. Some (record { uri = uri; enums = enums; classes = classes }))))) else None) ≡ Some document → IsNamedDocument document
    by false u es of_es cs of_cs e = cc
    by true None es of_es cs of_cs e = cc
    by true (Some u) None of_es cs of_cs e = cc
    by true (Some u) (Some es) of_es None of_cs e = cc
    by true (Some u) (Some es) of_es (Some cs) of_cs e =
        subst IsNamedDocument (same_Some (record { uri = u; enums = es; classes = cs }) document e) (record {
          enums = of-defaulted (All HasNamedLiterals) (list_of enum_shape) (All-list_of HasNamedLiterals enum_shape All-enum_shape) (codes "enums") [] d es (All-nil HasNamedLiterals) of_es;
          classes = of-required (All IsNamedClass) (list_of class_shape) (All-list_of IsNamedClass class_shape IsNamedClass-class_shape) (codes "classes") d cs of_cs;
        })
