-- The data of a valid model that can be written is read back from its text.
use Rattle.std.proofs.Common.{◌≡◌, List, [], ◌∷◌, codes, refl, sym, subst, arith, true}
use Rattle.std.specs.Prelude.{◌<◌, ◌≤◌, ◌^◌, Contains}
use Rattle.std.specs.List.Sorted.{IsStrictlySortedBy}
use Rattle.std.specs.Cmp.Lexicographic.{slice_cmp}
use Rattle.std.specs.Ordering.{nat_cmp}
use Rattle.std.proofs.lemmas.List.Elements.{All-contains}
use Rattle.json.proofs.Printed.Utf8.{IsUtf8-are_ascii}
use Rattle.serde_json.specs.Data.{object, no_members, depth, items_depth, members_depth}
use Rattle.vt_json.specs.Names.{is_name, continues_object_name}
use Rattle.vt_model.specs.Metamodel.{Metamodel}
use Rattle.vt_model.specs.Model.{Model}
use Rattle.vt_model.specs.Fits.{FitsAttribute}
use Rattle.vt_model.specs.Valid.{IsValid}
use Rattle.vt_model.specs.declared.model.Object.{Object}
use Rattle.vt_facts.proofs.MemberLemmas.{Contains-head, Contains-behind}
use Rattle.vt_model_json.specs.Dump.{attribute_members, values_of, links_of, target_names, link_members, object_data, objects_data, model_data}
use Rattle.vt_dump_law.specs.ObjectNames.{HasObjectNames}
use Rattle.vt_dump_law.proofs.Links.{reference_name}
use Rattle.vt_dump_law.proofs.Spelled.{by_key, by_key_total, IsStrictlySortedBy-placed}
use Rattle.vt_dump_law.proofs.Attributes.{value_key, data_of_value, values_by_key, own-values, attribute_members-spelled, from-values_by_key}
use Rattle.vt_dump_law.proofs.References.{data_of_reference, references_by_key, link_members-spelled, references_from-rise}
use Rattle.vt_dump_law.proofs.Shape.{target-form}
use Rattle.vt_dump_law.proofs.Readable.{IsReadable, AreReadable}
use Rattle.vt_dump_law.proofs.PlainNames.{below-object_name, IsUtf8-is_name}
use Rattle.vt_dump_law.proofs.MetaNames.{IsNamed}
use Rattle.vt_dump_law.proofs.DataParts.{none-rise, KeysRise-spelled, MembersAreReadable-spelled, members_depth-spelled, class_name-utf8, attribute_name-utf8, reference_name-utf8, IsReadable-value_data, depth-value_data, AreReadable-texts, items_depth-texts}

module _ (meta : Metamodel) (named : IsNamed meta) (g : Model) (valid : IsValid meta g) (names : HasObjectNames g) where
  -- ---- an object

  module _ (o : Object) (live : Contains g.live o) where
    -- its attributes are read back
    attributes-readable : IsReadable (object (attribute_members meta no_members (values_of g o.number)))
    attributes-readable = subst (λ ms. IsReadable (object ms)) (sym (attribute_members-spelled meta named.sound g valid o live)) (
      KeysRise-spelled (value_key meta) (data_of_value meta) (values_by_key meta g o)
          (IsStrictlySortedBy-placed (by_key (value_key meta)) (by_key_total (value_key meta)) [] (values_of g o.number) (none-rise (by_key (value_key meta)))),
      MembersAreReadable-spelled (value_key meta) (data_of_value meta) (values_by_key meta g o) (λ t there. (
        attribute_name-utf8 meta named t.attribute,
        IsReadable-value_data meta named t.value (All-contains (FitsAttribute meta g.live) g.values t valid.values_fit
            (own-values meta named.sound g valid o live t (from-values_by_key meta named.sound g valid o live t there)).0).storable,
      )),
    )

    -- and so are its links
    links-readable : IsReadable (object (link_members g (links_of g o.number) no_members 0 meta.references))
    links-readable = subst (λ ms. IsReadable (object ms)) (sym (link_members-spelled meta named.sound g valid o live)) (
      KeysRise-spelled (reference_name meta) (data_of_reference g (links_of g o.number)) (references_by_key meta g o)
          (references_from-rise meta named.sound g valid o live [] 0 meta.references (none-rise (by_key (reference_name meta)))),
      MembersAreReadable-spelled (reference_name meta) (data_of_reference g (links_of g o.number)) (references_by_key meta g o) (λ r there. (
        reference_name-utf8 meta named r,
        AreReadable-texts (target_names g r (links_of g o.number))
            (λ n among. IsUtf8-is_name continues_object_name below-object_name n (target-form meta named.sound g valid names o r n among)),
      )),
    )

    -- its keys rise
    keys-rise : IsStrictlySortedBy (slice_cmp nat_cmp) (codes "attributes" ∷ codes "class" ∷ codes "links" ∷ codes "name" ∷ codes "number" ∷ [])
    unfolding IsStrictlySortedBy
    keys-rise = ((refl, (refl, (refl, (refl, tt)))), ((refl, (refl, (refl, tt))), ((refl, (refl, tt)), ((refl, tt), (tt, tt)))))

    -- and so is the whole object
    IsReadable-object_data : IsReadable (object_data meta g o)
    IsReadable-object_data =
        let below : o.number.0 < g.next = All-contains (λ p. p.number.0 < g.next) g.live o valid.numbers_below live in
        let form = All-contains (λ o. is_name continues_object_name o.name ≡ true) g.live o names live in
        let fits : o.number.0 < 2 ^ 64 = omega (arith, below, valid.next_in_range) in (
          keys-rise,
          (
            IsUtf8-are_ascii (codes "attributes") refl,
            attributes-readable,
            (
              IsUtf8-are_ascii (codes "class") refl,
              class_name-utf8 meta named o.class,
              (
                IsUtf8-are_ascii (codes "links") refl,
                links-readable,
                (
                  IsUtf8-are_ascii (codes "name") refl,
                  IsUtf8-is_name continues_object_name below-object_name o.name form,
                  (IsUtf8-are_ascii (codes "number") refl, fits, tt),
                ),
              ),
            ),
          ),
        )

    -- it nests three deep at most
    depth-object_data : depth (object_data meta g o) ≤ 3
    depth-object_data =
        let attributes : members_depth (attribute_members meta no_members (values_of g o.number)) ≤ 0 =
        subst (λ ms. members_depth ms ≤ 0) (sym (attribute_members-spelled meta named.sound g valid o live))
        (members_depth-spelled (value_key meta) (data_of_value meta) 0 (values_by_key meta g o) (λ t. depth-value_data meta named t.value)) in
        let links : members_depth (link_members g (links_of g o.number) no_members 0 meta.references) ≤ 1 =
        subst (λ ms. members_depth ms ≤ 1) (sym (link_members-spelled meta named.sound g valid o live))
        (members_depth-spelled (reference_name meta) (data_of_reference g (links_of g o.number)) 1 (references_by_key meta g o)
        (λ r. let flat = items_depth-texts (target_names g r (links_of g o.number)) in omega (arith, flat))) in
        omega (arith, attributes, links)

  -- ---- all objects

  -- each object is read back
  AreReadable-objects_data : (os : List Object) → ((o : Object) → Contains os o → Contains g.live o) → AreReadable (objects_data meta g os)
  AreReadable-objects_data [] each = tt
  AreReadable-objects_data (o ∷ os) each = (IsReadable-object_data o (each o (Contains-head o os)), AreReadable-objects_data os (λ p there. each p (Contains-behind o p os there)))

  -- and nests three deep at most
  items_depth-objects_data : (os : List Object) → ((o : Object) → Contains os o → Contains g.live o) → items_depth (objects_data meta g os) ≤ 3
  items_depth-objects_data [] each = omega arith
  items_depth-objects_data (o ∷ os) each =
      let here = depth-object_data o (each o (Contains-head o os)) in
      let rest = items_depth-objects_data os (λ p there. each p (Contains-behind o p os there)) in
      omega (arith, here, rest)

  -- ---- the document

  -- its keys rise
  top_keys-rise : IsStrictlySortedBy (slice_cmp nat_cmp) (codes "format" ∷ codes "next" ∷ codes "objects" ∷ [])
  unfolding IsStrictlySortedBy
  top_keys-rise = ((refl, (refl, tt)), ((refl, tt), (tt, tt)))

  -- the data is read back
  pub IsReadable-model_data : IsReadable (model_data meta g)
  unfolding model_data
  IsReadable-model_data =
      let one : 1 < 2 ^ 64 = omega arith in
      let next : g.next < 2 ^ 64 = omega (arith, valid.next_in_range) in (
        top_keys-rise,
        (
          IsUtf8-are_ascii (codes "format") refl,
          one,
          (
            IsUtf8-are_ascii (codes "next") refl,
            next,
            (IsUtf8-are_ascii (codes "objects") refl, AreReadable-objects_data g.live (λ o there. there), tt),
          ),
        ),
      )

  -- and nests no deeper than may be read
  pub depth-model_data : depth (model_data meta g) ≤ 127
  unfolding model_data
  depth-model_data = let objects = items_depth-objects_data g.live (λ o there. there) in omega (arith, objects)
