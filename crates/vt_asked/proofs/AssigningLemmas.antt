-- What Set and Unset come to once their names are looked up.
use Rattle.std.proofs.Common.{◌≡◌, ℕ, List, [], ◌∷◌, true, false, Some, None, refl, ap, not, ◌∙◌, Bool}
use Rattle.std.specs.Prelude.{Option, Ok, Err, is_none, option_map}
use Rattle.vt_base.specs.declared.numbers.AttrId.{AttrId}
use Rattle.vt_base.specs.declared.value.Value.{Value}
use Rattle.vt_base.specs.declared.value.Kind.{Kind}
use Rattle.vt_model.specs.Metamodel.{Metamodel, feature}
use Rattle.vt_model.specs.Model.{Model, never_existed, was_deleted}
use Rattle.vt_model.specs.Assigning.{attribute_of, kind_asked, has_kind, value_given, with_default_value}
use Rattle.vt_model.specs.Creating.{default_value}
use Rattle.vt_facts.specs.Firsts.{first_of}
use Rattle.vt_model.specs.Effect.{effect}
use Rattle.vt_model.specs.Valid.{IsValid}
use Rattle.vt_model.specs.declared.metamodel.Feature.{Feature}
use Rattle.vt_model.specs.declared.model.Object.{Object}
use Rattle.vt_model.specs.declared.change.Given.{Given}
use Rattle.vt_model.specs.declared.change.Change.TheVariants.{Set, Unset}
use Rattle.vt_model.specs.declared.change.Refusal.{Refusal}
use Rattle.vt_model.specs.declared.change.Refusal.TheVariants.{UnknownObject, Gone, UnknownFeature, WrongKind, WrongValue}
use Rattle.vt_model.proofs.Valid.Found.{HasAttribute-feature}
use Rattle.vt_graph.specs.Having.{HasAttribute}
use Rattle.vt_asked.specs.declared.naming.Named.{Named}
use Rattle.vt_asked.specs.Named.{IsNamed}
use Rattle.vt_facts.proofs.MemberLemmas.{Contains-find}
use Rattle.vt_asked.proofs.LiveLemmas.{live_at_there}

-- ---- refusals

-- the first that applies of some is the first of these and more
pub first_of-front : (a b : Bool) (x y why : Refusal) (rest : List (Bool × Refusal)) → first_of ((a, x) ∷ (b, y) ∷ []) ≡ Some why → first_of ((a, x) ∷ (b, y) ∷ rest) ≡ Some why
first_of-front true b x y why rest e = e
first_of-front false true x y why rest e = e
first_of-front false false x y why rest e = cc

module _ (meta : Metamodel) (g : Model) (name : List ℕ) (why : Refusal)
    (none : first_of ((never_existed g name, UnknownObject) ∷ (was_deleted g name, Gone) ∷ []) ≡ Some why) where
  -- a name of no live object
  pub set_not_live : (attr : List ℕ) (given : Given) → effect meta g (Set name attr given) ≡ Err why
  set_not_live attr given = rw (first_of-front (never_existed g name) (was_deleted g name) UnknownObject Gone why _ none) refl

  pub unset_not_live : (attr : List ℕ) → effect meta g (Unset name attr) ≡ Err why
  unset_not_live attr = rw (first_of-front (never_existed g name) (was_deleted g name) UnknownObject Gone why _ none) refl

-- ---- of a live object

module _ (meta : Metamodel) (g : Model) (name attr : List ℕ) (o : Named) (named : IsNamed g name o) where
  -- a feature that its class doesn't have
  pub set_no_feature : (given : Given) → feature meta o.class attr ≡ None → effect meta g (Set name attr given) ≡ Err UnknownFeature
  set_no_feature given none = rw (named, none) refl

  pub unset_no_feature : feature meta o.class attr ≡ None → effect meta g (Unset name attr) ≡ Err UnknownFeature
  unset_no_feature none = rw (named, none) refl

  module _ (f : Feature) (has : feature meta o.class attr ≡ Some f) where
    -- a feature that is no attribute
    pub set_no_attribute : (given : Given) → kind_asked meta (Some f) ≡ None → effect meta g (Set name attr given) ≡ Err WrongKind
    set_no_attribute given none = rw (named, has, none) refl

    pub unset_no_attribute : kind_asked meta (Some f) ≡ None → effect meta g (Unset name attr) ≡ Err WrongKind
    unset_no_attribute none = rw (named, has, none) refl

    module _ (k : Kind) (of : kind_asked meta (Some f) ≡ Some k) where
      -- a value that doesn't do
      pub set_refused : (given : Given) (reason : Refusal)
          → first_of ((not (has_kind meta given k), WrongKind) ∷ (is_none (value_given meta given k), WrongValue) ∷ []) ≡ Some reason
          → effect meta g (Set name attr given) ≡ Err reason
      set_refused given reason refused = rw (named, has, of, refused) refl

      -- one that does, and a default
      pub set_made : (given : Given) (a : AttrId) (v : Value)
          → attribute_of (Some f) ≡ Some a → has_kind meta given k ≡ true → value_given meta given k ≡ Some v
          → effect meta g (Set name attr given) ≡ Ok (with_default_value g o.number a (Some v))
      set_made given a v is fits some = rw (named, has, of, is, fits, some) refl

      pub unset_made : (a : AttrId) → attribute_of (Some f) ≡ Some a
          → effect meta g (Unset name attr) ≡ Ok (with_default_value g o.number a (default_value k))
      unset_made a is = rw (named, has, of, is) refl

    -- the object has the attribute
    pub has_attribute : IsValid meta g → (a : AttrId) → attribute_of (Some f) ≡ Some a → HasAttribute meta g o.number a
    has_attribute valid a is =
        let it = HasAttribute-feature meta o.class attr a (ap attribute_of has ∙ is) in
        let there = Contains-find _ g.live (record { number = o.number; name = name; class = o.class }) named in
        record {
          class = o.class;
          info = it.info;
          live = ap (λ (x : Option Object). option_map (λ (y : Object). y.class) x) (live_at_there meta g valid (record { number = o.number; name = name; class = o.class }) there.0);
          declared = it.declared;
          has = it.below;
        }
