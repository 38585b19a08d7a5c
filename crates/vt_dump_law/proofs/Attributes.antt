-- The attributes of an object: members of its data, and the values that they set.
use Rattle.std.proofs.Common.{◌≡◌, ℕ, List, [], ◌∷◌, refl, sym, ap, subst, ◌∙◌, true, inl, inr}
use Rattle.std.specs.Prelude.{◌==◌, Contains, Option, Some, option_map, unwrap_or}
use Rattle.std.specs.BTreeSet.{insert_key}
use Rattle.std.specs.declared.cmp.Ordering.TheVariants.{Equal}
use Rattle.std.proofs.lemmas.Bool.{eqb-true}
use Rattle.std.proofs.lemmas.List.Elements.{All-contains}
use Rattle.std.proofs.lemmas.Map.Lookups.{exact_bytes}
use Rattle.serde_json.specs.Data.{Data, no_members}
use Rattle.vt_model.specs.Metamodel.{Metamodel, isa, feature}
use Rattle.vt_model.specs.Model.{Model}
use Rattle.vt_model.specs.Assigning.{value_order}
use Rattle.vt_model.specs.Fits.{FitsAttribute}
use Rattle.vt_model.specs.Sound.{IsSound}
use Rattle.vt_model.specs.Valid.{IsValid}
use Rattle.vt_model.specs.declared.metamodel.AttrInfo.{AttrInfo}
use Rattle.vt_model.specs.declared.metamodel.Feature.{Feature}
use Rattle.vt_model.specs.declared.metamodel.Feature.TheVariants.{Attr}
use Rattle.vt_model.specs.declared.model.Object.{Object}
use Rattle.vt_model.specs.declared.model.AttributeValue.{AttributeValue}
use Rattle.vt_facts.proofs.MemberLemmas.{Contains-head, Contains-behind, Contains-nil, Contains-from_filter}
use Rattle.vt_model.proofs.Valid.Containment.{same_object}
use Rattle.vt_model_json.specs.Dump.{attribute_name, value_data, attribute_members, values_of}
use Rattle.vt_dump_law.proofs.Lists.{same_if_equal}
use Rattle.vt_dump_law.proofs.Names.{same_object_of_number, class-live, feature-attribute}
use Rattle.vt_dump_law.proofs.Values.{value_order_total, value_order-same}
use Rattle.vt_dump_law.proofs.Spelled.{placed, Contains-placed_cases, Contains-placed_new, among-insert_key, by_key, spelled, put-spelled}

-- a value's key
abbrev pub value_key : Metamodel → AttributeValue → List ℕ
value_key meta t = attribute_name meta t.attribute

-- what stands under it
abbrev pub data_of_value : Metamodel → AttributeValue → Data
data_of_value meta t = value_data meta t.value

-- the values of an object, in rising order of key
abbrev pub values_by_key : Metamodel → Model → Object → List AttributeValue
values_by_key meta g o = placed (by_key (value_key meta)) [] (values_of g o.number)

module _ (meta : Metamodel) (sound : IsSound meta) (g : Model) (valid : IsValid meta g) (o : Object) (live : Contains g.live o) where
  -- a value of the object
  abbrev IsOwn : AttributeValue → Type 0
  IsOwn t = Contains (values_of g o.number) t

  -- it is one of the model's
  pub own-values : (t : AttributeValue) → IsOwn t → Contains g.values t × (t.object ≡ o.number)
  own-values t own =
      let was = Contains-from_filter (λ u. u.object.0 == o.number.0) g.values t own in
      (was.0, same_object t.object o.number (eqb-true t.object.0 o.number.0 was.1))

  -- its key finds its attribute
  feature-own : (t : AttributeValue) → IsOwn t → feature meta o.class (value_key meta t) ≡ Some (Attr t.attribute)
  feature-own t own =
      let was = own-values t own in
      let fits = All-contains (FitsAttribute meta g.live) g.values t valid.values_fit was.0 in
      let owner : Object = record { number = t.object; name = fits.owner.is_live.name; class = fits.owner.own } in
      let is : owner ≡ o = same_object_of_number meta g valid owner o fits.owner.is_live.there live (ap (λ n. n.0) was.1) in
      let name : value_key meta t ≡ fits.info.name = ap (λ i. unwrap_or (option_map (λ (info : AttrInfo). info.name) i) []) fits.declared in
      let below : isa meta o.class fits.info.class ≡ true = subst (λ (p : Object). isa meta p.class fits.info.class ≡ true) is fits.owner.below in
      ap (feature meta o.class) name ∙ feature-attribute meta sound o.class (class-live meta g valid o live) t.attribute fits.info fits.declared below

  -- so values of one key are the same
  exact-own : (t u : AttributeValue) → IsOwn t → IsOwn u → by_key (value_key meta) t u ≡ Equal → t ≡ u
  exact-own t u first second e =
      let name : value_key meta t ≡ value_key meta u = exact_bytes (value_key meta t) (value_key meta u) e in
      let same : ◌≡◌ {A = Option Feature} (Some (Attr t.attribute)) (Some (Attr u.attribute)) = sym (feature-own t first) ∙ ap (feature meta o.class) name ∙ feature-own u second in
      let attribute : t.attribute ≡ u.attribute = cc in
      let object : t.object ≡ u.object = (own-values t first).1 ∙ sym (own-values u second).1 in
      same_if_equal value_order value_order_total g.values t u valid.values_rise (own-values t first).0 (own-values u second).0
      (value_order-same t u (ap (λ n. n.0) object) (ap (λ n. n.0) attribute))

  -- the members of the object are those of its values by key
  attribute_members-from : (acc ts : List AttributeValue) → ((t : AttributeValue) → Contains acc t → IsOwn t) → ((t : AttributeValue) → Contains ts t → IsOwn t)
      → attribute_members meta (spelled (value_key meta) (data_of_value meta) acc) ts ≡ spelled (value_key meta) (data_of_value meta) (placed (by_key (value_key meta)) acc ts)
  attribute_members-from acc [] first each = refl
  attribute_members-from acc (t ∷ ts) first each =
      let own = each t (Contains-head t ts) in
      ap (λ ms. attribute_members meta ms ts) (put-spelled (value_key meta) (data_of_value meta) t acc (λ u among e. exact-own t u own (first u among) e))
      ∙ attribute_members-from (insert_key (by_key (value_key meta)) acc t) ts (among-insert_key (by_key (value_key meta)) IsOwn exact-own acc t first own) (λ u there. each u (Contains-behind t u ts there))

  pub attribute_members-spelled : attribute_members meta no_members (values_of g o.number) ≡ spelled (value_key meta) (data_of_value meta) (values_by_key meta g o)
  attribute_members-spelled = attribute_members-from [] (values_of g o.number) (λ t there. absurd (Contains-nil t there)) (λ t there. there)

  -- the values by key are the object's
  pub from-values_by_key : (t : AttributeValue) → Contains (values_by_key meta g o) t → IsOwn t
  from-values_by_key t there = elim (Contains-placed_cases (by_key (value_key meta)) [] (values_of g o.number) t there) [ inl none ↦ absurd (Contains-nil t none) | inr own ↦ own ]

  pub Contains-values_by_key : (t : AttributeValue) → IsOwn t → Contains (values_by_key meta g o) t
  Contains-values_by_key t own =
      Contains-placed_new (by_key (value_key meta)) IsOwn exact-own [] (values_of g o.number) (λ u there. absurd (Contains-nil u there)) (λ u there. there) t own
