-- The data of a valid model has the shape of a document, and which document it is.
use Rattle.std.proofs.Common.{◌≡◌, ℕ, ◌+◌, List, [], ◌∷◌, map, codes, refl, sym, ap, subst, ◌∙◌, arith, true}
use Rattle.std.specs.Prelude.{◌<◌, ◌≤◌, ◌^◌, ◌&&◌, ◌==◌, filter, pos, negsuc, nat_le, Contains, Option, Some, None, option_map, option_and_then, if◌then◌else◌}
use Rattle.std.specs.List.Sorted.{IsStrictlySortedBy}
use Rattle.std.proofs.lemmas.Bool.{and_from, lt-ltb, le-leb}
use Rattle.std.proofs.lemmas.List.Elements.{All-contains}
use Rattle.std.proofs.lemmas.Map.Keys.{sorted_tail}
use Rattle.serde_json.specs.Data.{Data, Items, number, unsigned, string, array, object, no_members, member}
use Rattle.vt_base.specs.declared.value.Value.{Value}
use Rattle.vt_base.specs.declared.value.Value.TheVariants as value
use Rattle.vt_json.specs.Names.{is_name, continues_object_name, object_name}
use Rattle.vt_json.specs.Shape.{items_in, list_of, entries_of, entries_in}
use Rattle.vt_model.specs.Metamodel.{Metamodel}
use Rattle.vt_model.specs.Model.{Model}
use Rattle.vt_model.specs.Sound.{IsSound}
use Rattle.vt_model.specs.Fits.{FitsAttribute, FitsReference}
use Rattle.vt_model.specs.Storable.{IsStorable}
use Rattle.vt_model.specs.Valid.{IsValid, object_order}
use Rattle.vt_model.specs.declared.model.Object.{Object}
use Rattle.vt_model.specs.declared.model.AttributeValue.{AttributeValue}
use Rattle.vt_model.specs.declared.model.Link.{Link}
use Rattle.vt_facts.proofs.MemberLemmas.{Contains-head, Contains-behind, Contains-from_filter}
use Rattle.vt_model_json.specs.ModelDocument.{entry_shape, object_shape, rise, above_all, with_next, document_shape}
use Rattle.vt_model_json.specs.Dump.{class_name, name_of, value_data, attribute_members, values_of, links_of, target_names, texts, link_members, object_data, objects_data, model_data}
use Rattle.vt_dump_law.specs.ObjectNames.{HasObjectNames}
use Rattle.vt_model_json.specs.declared.document.Entry.{Entry}
use Rattle.vt_model_json.specs.declared.document.ObjectDocument.{ObjectDocument}
use Rattle.vt_model_json.specs.declared.document.ModelDocument.{ModelDocument}
use Rattle.vt_dump_law.proofs.Lists.{Contains-map_cases, below_head}
use Rattle.vt_dump_law.proofs.Names.{name_of-live}
use Rattle.vt_dump_law.proofs.Links.{reference_name}
use Rattle.vt_dump_law.proofs.Given.{given_of}
use Rattle.vt_dump_law.proofs.Objects.{object_order-Less}
use Rattle.vt_dump_law.proofs.Spelled.{entries_in-spelled}
use Rattle.vt_dump_law.proofs.Attributes.{value_key, data_of_value, values_by_key, own-values, attribute_members-spelled, from-values_by_key}
use Rattle.vt_dump_law.proofs.References.{data_of_reference, references_by_key, link_members-spelled}

-- ---- the document

-- what is given for a value
abbrev pub entry_of : Metamodel → AttributeValue → Entry
entry_of meta t = record { given = given_of meta t.value }

-- an object's document
abbrev pub document_of : Metamodel → Model → Object → ObjectDocument
document_of meta g o = record {
  name = o.name;
  class = class_name meta o.class;
  number = Some o.number.0;
  attributes = map (λ t. (value_key meta t, entry_of meta t)) (values_by_key meta g o);
  links = map (λ r. (reference_name meta r, target_names g r (links_of g o.number))) (references_by_key meta g o);
}

-- a model's document
abbrev pub whole_document : Metamodel → Model → ModelDocument
whole_document meta g = record { next = g.next; objects = map (document_of meta g) g.live }

-- ---- values

-- each value gives its entry
pub entry_shape-value_data : (meta : Metamodel) (v : Value) → IsStorable v → entry_shape (value_data meta v) ≡ Some (record { given = given_of meta v })
entry_shape-value_data meta (value.Bool b) fits = refl
entry_shape-value_data meta (value.Int (pos n)) fits = rw (lt-ltb n (2 ^ 63) fits) refl
entry_shape-value_data meta (value.Int (negsuc n)) fits = refl
entry_shape-value_data meta (value.Text s) fits = refl
entry_shape-value_data meta (value.Enum e l) fits = refl
entry_shape-value_data meta (value.Obj o) fits = refl

-- ---- names

-- a name that has the form of one
object_name-string : (name : List ℕ) → is_name continues_object_name name ≡ true → object_name (string name) ≡ Some name
object_name-string name form = ap (λ b. if b then Some name else None) form

-- names that have it
items_in-texts : (names : List (List ℕ)) → ((n : List ℕ) → Contains names n → is_name continues_object_name n ≡ true) → items_in object_name (texts names) ≡ Some names
items_in-texts [] each = refl
items_in-texts (n ∷ names) each =
    ap (λ (o : Option (List ℕ)). option_and_then (λ x. option_map (λ xs. x ∷ xs) (items_in object_name (texts names))) o) (object_name-string n (each n (Contains-head n names)))
    ∙ ap (option_map (λ xs. n ∷ xs)) (items_in-texts names (λ m there. each m (Contains-behind n m names there)))

-- ---- an object

-- the five keys, whatever stands under them
object_shape-members : (attributes links : Data) (class name : List ℕ) (n : ℕ) (entries : List (List ℕ × Entry)) (targets : List (List ℕ × List (List ℕ)))
    → is_name continues_object_name name ≡ true → entries_of entry_shape attributes ≡ Some entries → entries_of (list_of object_name) links ≡ Some targets
    → object_shape (object
    (member (codes "attributes") attributes
    (member (codes "class") (string class)
    (member (codes "links") links
    (member (codes "name") (string name)
    (member (codes "number") (number (unsigned n)) no_members))))))
    ≡ Some (record { name = name; class = class; number = Some n; attributes = entries; links = targets })
object_shape-members attributes links class name n entries targets form are lead = rw (form, are, lead) refl

module _ (meta : Metamodel) (sound : IsSound meta) (g : Model) (valid : IsValid meta g) (names : HasObjectNames g) where
  -- each target's name has the form of a name
  pub target-form : (o : Object) (r : ℕ) (name : List ℕ) → Contains (target_names g r (links_of g o.number)) name → is_name continues_object_name name ≡ true
  target-form o r name there =
      let from = Contains-map_cases (λ (x : Link). name_of g x.target) (filter (λ link. link.reference.0 == r) (links_of g o.number)) name there in
      let own = Contains-from_filter (λ link. link.reference.0 == r) (links_of g o.number) from.0 from.1 in
      let among = Contains-from_filter (λ link. link.source.0 == o.number.0) g.links from.0 own.0 in
      let target = (All-contains (FitsReference meta g.live) g.links from.0 valid.links_fit among.0).target in
      let p : Object = record { number = from.0.target; name = target.is_live.name; class = target.own } in
      let form = All-contains (λ o. is_name continues_object_name o.name ≡ true) g.live p names target.is_live.there in
      subst (λ n. is_name continues_object_name n ≡ true) (sym (name_of-live meta g valid p target.is_live.there) ∙ from.2) form

  -- an object's data has the shape of its document
  object_shape-object_data : (o : Object) → Contains g.live o → object_shape (object_data meta g o) ≡ Some (document_of meta g o)
  object_shape-object_data o live =
      object_shape-members (object (attribute_members meta no_members (values_of g o.number))) (object (link_members g (links_of g o.number) no_members 0 meta.references))
      (class_name meta o.class) o.name o.number.0
      (map (λ t. (value_key meta t, entry_of meta t)) (values_by_key meta g o))
      (map (λ r. (reference_name meta r, target_names g r (links_of g o.number))) (references_by_key meta g o))
      (All-contains (λ o. is_name continues_object_name o.name ≡ true) g.live o names live)
      (ap (entries_in entry_shape) (attribute_members-spelled meta sound g valid o live)
      ∙ entries_in-spelled (value_key meta) (data_of_value meta) entry_shape (entry_of meta) (values_by_key meta g o)
      (λ t there. entry_shape-value_data meta t.value
      (All-contains (FitsAttribute meta g.live) g.values t valid.values_fit (own-values meta sound g valid o live t (from-values_by_key meta sound g valid o live t there)).0).storable))
      (ap (entries_in (list_of object_name)) (link_members-spelled meta sound g valid o live)
      ∙ entries_in-spelled (reference_name meta) (data_of_reference g (links_of g o.number)) (list_of object_name) (λ r. target_names g r (links_of g o.number)) (references_by_key meta g o)
      (λ r there. items_in-texts (target_names g r (links_of g o.number)) (target-form o r)))

  -- ---- all objects

  -- each object has its document
  items_in-objects_data : (os : List Object) → ((o : Object) → Contains os o → Contains g.live o) → items_in object_shape (objects_data meta g os) ≡ Some (map (document_of meta g) os)
  items_in-objects_data [] each = refl
  items_in-objects_data (o ∷ os) each =
      ap (λ (s : Option ObjectDocument). option_and_then (λ x. option_map (λ xs. x ∷ xs) (items_in object_shape (objects_data meta g os))) s) (object_shape-object_data o (each o (Contains-head o os)))
      ∙ ap (option_map (λ xs. document_of meta g o ∷ xs)) (items_in-objects_data os (λ p there. each p (Contains-behind o p os there)))

  -- ---- numbers

  -- numbers rise from below the first of them
  rise-live : (above : ℕ) (os : List Object) → IsStrictlySortedBy object_order os → ((o : Object) → Contains os o → above ≤ o.number.0) → ((o : Object) → Contains os o → o.number.0 < g.next)
      → rise above (map (document_of meta g) os) ≡ true
  rise-live above [] sorted from below = refl
  rise-live above (o ∷ os) sorted from below =
      let here = below o (Contains-head o os) in
      and_from (nat_le above o.number.0 && nat_le o.number.0 1048576) (rise (o.number.0 + 1) (map (document_of meta g) os))
      (and_from (nat_le above o.number.0) (nat_le o.number.0 1048576) (le-leb above o.number.0 (from o (Contains-head o os))) (le-leb o.number.0 1048576 (omega (arith, here, valid.next_in_range))))
      (rise-live (o.number.0 + 1) os (sorted_tail object_order o os sorted)
      (λ p there. let less = object_order-Less o p (below_head object_order o os sorted p there) in omega (arith, less)) (λ p there. below p (Contains-behind o p os there)))

  -- the next number is above them
  above_all-live : (above : ℕ) (os : List Object) → above ≤ g.next → ((o : Object) → Contains os o → o.number.0 < g.next) → above_all above (map (document_of meta g) os) ≤ g.next
  above_all-live above [] most below = most
  above_all-live above (o ∷ os) most below =
      let here = below o (Contains-head o os) in
      above_all-live (o.number.0 + 1) os (omega (arith, here)) (λ p there. below p (Contains-behind o p os there))

  -- the numbers and the next number are as a document asks
  with_next-live : with_next (map (document_of meta g) g.live) g.next ≡ Some (whole_document meta g)
  with_next-live =
      let below : (o : Object) → Contains g.live o → o.number.0 < g.next = λ o there. All-contains (λ p. p.number.0 < g.next) g.live o valid.numbers_below there in
      let rises = rise-live 0 g.live valid.objects_rise (λ o there. omega arith) below in
      let most = le-leb (above_all 0 (map (document_of meta g) g.live)) g.next (above_all-live 0 g.live (omega arith) below) in
      ap (λ b. if b then Some (whole_document meta g) else None)
      (and_from (rise 0 (map (document_of meta g) g.live) && nat_le (above_all 0 (map (document_of meta g) g.live)) g.next) (nat_le g.next 1048576)
      (and_from (rise 0 (map (document_of meta g) g.live)) (nat_le (above_all 0 (map (document_of meta g) g.live)) g.next) rises most) (le-leb g.next 1048576 valid.next_in_range))

  -- ---- the document

  -- the three keys, whatever the objects are
  document_shape-members : (objects : Items) (documents : List ObjectDocument) (next : ℕ) (document : ModelDocument)
      → items_in object_shape objects ≡ Some documents → with_next documents next ≡ Some document
      → document_shape (object (member (codes "format") (number (unsigned 1)) (member (codes "next") (number (unsigned next)) (member (codes "objects") (array objects) no_members)))) ≡ Some document
  document_shape-members objects documents next document are is = rw are is

  pub document_shape-model_data : document_shape (model_data meta g) ≡ Some (whole_document meta g)
  unfolding model_data
  document_shape-model_data =
      document_shape-members (objects_data meta g g.live) (map (document_of meta g) g.live) g.next (whole_document meta g) (items_in-objects_data g.live (λ o there. there)) with_next-live
