-- The values of a valid model are set one after the other, in any order.
use Rattle.std.proofs.Common.{◌≡◌, List, [], ◌∷◌, map, refl, sym, ap, subst, ◌∙◌, arith, Bool, true, false, not, ◌⊎◌, inl, inr}
use Rattle.std.specs.Prelude.{◌==◌, find, filter, Contains, Some, Ok, option_map, unwrap_or}
use Rattle.std.specs.BTreeSet.{insert_key}
use Rattle.std.specs.Cmp.{IsTotalOrder}
use Rattle.std.specs.declared.cmp.Ordering.TheVariants.{Equal}
use Rattle.std.proofs.lemmas.Bool.{and_parts, eqb-true, both_ways, not-true, not_from_false}
use Rattle.std.proofs.lemmas.Bool.Decides.{nat_tests}
use Rattle.std.proofs.lemmas.Cmp.{then_total, on_total, nat_cmp_total}
use Rattle.std.proofs.lemmas.List.Elements.{All-contains}
use Rattle.vt_base.specs.declared.numbers.ObjId.{ObjId}
use Rattle.vt_base.specs.declared.numbers.AttrId.{AttrId}
use Rattle.vt_model.specs.Metamodel.{Metamodel, feature}
use Rattle.vt_facts.specs.Names.{is_name}
use Rattle.vt_model.specs.Model.{Model, object_named}
use Rattle.vt_model.specs.Assigning.{kind_asked, value_order, is_value_of, with_value}
use Rattle.vt_model.specs.Effect.{effect}
use Rattle.vt_model.specs.Fits.{FitsAttribute}
use Rattle.vt_model.specs.Sound.{IsSound}
use Rattle.vt_model.specs.Valid.{IsValid}
use Rattle.vt_model.specs.declared.metamodel.AttrInfo.{AttrInfo}
use Rattle.vt_model.specs.declared.metamodel.Feature.TheVariants.{Attr}
use Rattle.vt_model.specs.declared.model.Object.{Object}
use Rattle.vt_model.specs.declared.model.AttributeValue.{AttributeValue}
use Rattle.vt_model.specs.declared.change.Change.{Change}
use Rattle.vt_facts.proofs.MemberLemmas.{Contains-head, Contains-behind, Contains-nil, Contains-cons_cases, Contains-filter, Contains-from_filter, Contains-insert_key_cases, Contains-insert_key_old}
use Rattle.vt_model_json.specs.Loading.{assignment}
use Rattle.vt_model_json.specs.Dump.{attribute_name, name_of}
use Rattle.vt_dump_law.proofs.EffectLemmas.{set_made}
use Rattle.vt_dump_law.proofs.Made.{Makes}
use Rattle.vt_dump_law.proofs.Lists.{same_if_equal, Contains-insert_key_here}
use Rattle.vt_dump_law.proofs.Names.{object_named-live, name_of-live, class-live, feature-attribute}
use Rattle.vt_dump_law.proofs.Given.{given_of, HasLiteralNames, IsGiven-HasKind}

-- ---- values of one object and attribute

-- the order is total
pub value_order_total : IsTotalOrder value_order
value_order_total = then_total (on_total (λ t. t.object.0) nat_cmp_total) (on_total (λ t. t.attribute.0) nat_cmp_total)

-- the order tells values apart by object and attribute
pub value_order-same : (t u : AttributeValue) → t.object.0 ≡ u.object.0 → t.attribute.0 ≡ u.attribute.0 → value_order t u ≡ Equal
value_order-same t u object attribute = grind (arith, nat_tests)

-- and by nothing else
value_order-Equal : (t u : AttributeValue) → value_order t u ≡ Equal → (t.object.0 ≡ u.object.0) × (t.attribute.0 ≡ u.attribute.0)
value_order-Equal t u e = grind (arith, nat_tests)

-- and so does the test
pub is_value_of-same : (o : ObjId) (a : AttrId) (t : AttributeValue) → o.0 ≡ t.object.0 → a.0 ≡ t.attribute.0 → is_value_of o a t ≡ true
is_value_of-same o a t object attribute = grind (arith, nat_tests)

pub is_value_of-parts : (o : ObjId) (a : AttrId) (t : AttributeValue) → is_value_of o a t ≡ true → (t.object.0 ≡ o.0) × (t.attribute.0 ≡ a.0)
is_value_of-parts o a t is = let both = and_parts (t.object.0 == o.0) (t.attribute.0 == a.0) is in (eqb-true t.object.0 o.0 both.0, eqb-true t.attribute.0 a.0 both.1)

-- ---- one value

-- the change that sets a value of a model
abbrev pub setting : Metamodel → Model → AttributeValue → Change
setting meta g t = assignment (name_of g t.object) (attribute_name meta t.attribute) (given_of meta t.value)

-- a model with the objects of another one, nothing deleted and no link
pub record HasObjects (g h : Model) : Type 0 where
  pub live : h.live ≡ g.live
  pub gone : h.gone ≡ []
  pub links : h.links ≡ []

-- such a model, of which some values were set
pub record ValuesMade (meta : Metamodel) (g : Model) (todo : List AttributeValue) (h : Model) : Type 0 where
  pub after : Model
  pub made : Makes meta h (map (setting meta g) todo) after
  pub has : HasObjects g after
  -- a value that is the model's stays
  pub kept : (t : AttributeValue) → Contains g.values t → Contains h.values t → Contains after.values t
  pub new : (t : AttributeValue) → Contains todo t → Contains after.values t
  -- a value that stands was set, or stood before, and none of its object and attribute was set
  pub from : (t : AttributeValue) → Contains after.values t
      → Contains todo t ⊎ (Contains h.values t × ((u : AttributeValue) → Contains todo u → is_value_of u.object u.attribute t ≡ true → ⊥))

module _ (meta : Metamodel) (sound : IsSound meta) (literals : HasLiteralNames meta) (g : Model) (valid : IsValid meta g) where
  -- a model has one value of an object and an attribute at most
  same_value : (t u : AttributeValue) → Contains g.values t → Contains g.values u → is_value_of t.object t.attribute u ≡ true → t ≡ u
  same_value t u first second is =
      let parts = is_value_of-parts t.object t.attribute u is in
      same_if_equal value_order value_order_total g.values t u valid.values_rise first second (value_order-same t u (sym parts.0) (sym parts.1))

  module _ (h : Model) (has : HasObjects g h) (t : AttributeValue) (there : Contains g.values t) where
    effect-setting : effect meta h (setting meta g t) ≡ Ok (with_value h t.object t.attribute t.value)
    effect-setting =
        let fits = All-contains (FitsAttribute meta g.live) g.values t valid.values_fit there in
        let o : Object = record { number = t.object; name = fits.owner.is_live.name; class = fits.owner.own } in
        let name : attribute_name meta t.attribute ≡ fits.info.name = ap (λ i. unwrap_or (option_map (λ (info : AttrInfo). info.name) i) []) fits.declared in
        let named : object_named h (name_of g t.object) ≡ Some o =
        ap (object_named h) (name_of-live meta g valid o fits.owner.is_live.there)
        ∙ ap (find (λ (p : Object). is_name p.name o.name)) has.live
        ∙ object_named-live meta g valid o fits.owner.is_live.there in
        let found : feature meta o.class (attribute_name meta t.attribute) ≡ Some (Attr t.attribute) =
        ap (feature meta o.class) name ∙ feature-attribute meta sound o.class (class-live meta g valid o fits.owner.is_live.there) t.attribute fits.info fits.declared fits.owner.below in
        let kind : kind_asked meta (Some (Attr t.attribute)) ≡ Some fits.info.kind = ap (option_map (λ (info : AttrInfo). info.kind)) fits.declared in
        let given = IsGiven-HasKind meta literals fits.info.kind t.value (sound.kinds t.attribute fits.info fits.declared) fits.kind in
        ap (λ w. effect meta h (assignment (name_of g t.object) (attribute_name meta t.attribute) w)) given.is
        ∙ set_made meta h (name_of g t.object) (attribute_name meta t.attribute) o (Attr t.attribute) named found fits.info.kind kind given.given t.attribute t.value refl given.fits given.back

    -- ---- the values afterwards

    abbrev others : List AttributeValue
    others = filter (λ u. not (is_value_of t.object t.attribute u)) h.values

    -- the value stands
    set-new : Contains (insert_key value_order others t) t
    set-new = Contains-insert_key_here value_order t others (λ u among e.
        let same = value_order-Equal t u e in
        absurd (both_ways (is_value_of t.object t.attribute u) (not-true (is_value_of t.object t.attribute u) (Contains-from_filter (λ u. not (is_value_of t.object t.attribute u)) h.values u among).1)
        (is_value_of-same t.object t.attribute u same.0 same.1)))

    -- a value that is the model's stays
    set-kept : (u : AttributeValue) → Contains g.values u → Contains h.values u → Contains (insert_key value_order others t) u
    set-kept u own stands = by (is_value_of t.object t.attribute u) refl
      where
        by : (b : Bool) → is_value_of t.object t.attribute u ≡ b → Contains (insert_key value_order others t) u
        by true e = subst (Contains (insert_key value_order others t)) (same_value t u there own e) set-new
        by false e = Contains-insert_key_old value_order t others u (Contains-filter (λ u. not (is_value_of t.object t.attribute u)) h.values u stands (not_from_false (is_value_of t.object t.attribute u) e))

    -- a value that stands is the new one, or stood before and is another's
    set-from : (u : AttributeValue) → Contains (insert_key value_order others t) u → (t ≡ u) ⊎ (Contains h.values u × (is_value_of t.object t.attribute u ≡ false))
    set-from u stands = elim (Contains-insert_key_cases value_order t others u stands) [
      | inl old ↦ (let was = Contains-from_filter (λ u. not (is_value_of t.object t.attribute u)) h.values u old in inr (was.0, not-true (is_value_of t.object t.attribute u) was.1))
      | inr is ↦ inl is
    ]

  -- ---- all values of a list that are the model's

  pub make_values : (todo : List AttributeValue) → ((t : AttributeValue) → Contains todo t → Contains g.values t) → (h : Model) → HasObjects g h → ValuesMade meta g todo h
  make_values [] each h has = record {
    after = h;
    made = refl;
    has = has;
    kept = λ t own stands. stands;
    new = λ t there. absurd (Contains-nil t there);
    from = λ t stands. inr (stands, λ u there is. Contains-nil u there);
  }
  make_values (t ∷ todo) each h has =
      let here = each t (Contains-head t todo) in
      let next = with_value h t.object t.attribute t.value in
      let rest = make_values todo (λ u there. each u (Contains-behind t u todo there)) next (record { live = has.live; gone = has.gone; links = has.links }) in
      record {
        after = rest.after;
        made = (next, effect-setting h has t here, rest.made);
        has = rest.has;
        kept = λ u own stands. rest.kept u own (set-kept h has t here u own stands);
        new = λ u there. elim (Contains-cons_cases t u todo there) [
          | inl is ↦ subst (Contains rest.after.values) is (rest.kept t here (set-new h has t here))
          | inr later ↦ rest.new u later
        ];
        from = λ u stands. from u (rest.from u stands);
      }
    where
      before : (u : AttributeValue) → ((v : AttributeValue) → Contains todo v → is_value_of v.object v.attribute u ≡ true → ⊥) → is_value_of t.object t.attribute u ≡ false
          → (v : AttributeValue) → Contains (t ∷ todo) v → is_value_of v.object v.attribute u ≡ true → ⊥
      before u none other v there is = elim (Contains-cons_cases t v todo there) [
        | inl same ↦ both_ways (is_value_of t.object t.attribute u) other (subst (λ (w : AttributeValue). is_value_of w.object w.attribute u ≡ true) (sym same) is)
        | inr later ↦ none v later is
      ]

      from : (u : AttributeValue)
          → Contains todo u ⊎ (Contains (with_value h t.object t.attribute t.value).values u × ((v : AttributeValue) → Contains todo v → is_value_of v.object v.attribute u ≡ true → ⊥))
          → Contains (t ∷ todo) u ⊎ (Contains h.values u × ((v : AttributeValue) → Contains (t ∷ todo) v → is_value_of v.object v.attribute u ≡ true → ⊥))
      from u (inl later) = inl (Contains-behind t u todo later)
      from u (inr old) = elim (set-from h has t (each t (Contains-head t todo)) u old.0) [
        | inl is ↦ inl (subst (Contains (t ∷ todo)) is (Contains-head t todo))
        | inr was ↦ inr (was.0, before u old.1 was.1)
      ]
