-- A change that isn't refused keeps the objects' side.
use Rattle.std.proofs.Common.{◌≡◌, ℕ, List, refl, sym, ap, subst, ◌∙◌, arith, true, false}
use Rattle.std.specs.Prelude.{◌≤◌, Option, Some, None, option_map, option_and_then, Ok, unwrap_or}
use Rattle.std.specs.Option.{option_map_or}
use Rattle.std.proofs.lemmas.Option.{option_and_then_some}
use Rattle.vt_base.specs.declared.numbers.ClassId.{ClassId}
use Rattle.vt_base.specs.declared.numbers.AttrId.{AttrId}
use Rattle.vt_base.specs.declared.value.Value.{Value}
use Rattle.vt_base.specs.declared.value.Kind.{Kind}
use Rattle.vt_facts.specs.Parts.{◌>>=◌}
use Rattle.vt_model.specs.Metamodel.{Metamodel, class_named, feature}
use Rattle.vt_model.specs.Model.{Model, object_named, feature_at}
use Rattle.vt_model.specs.Creating.{is_abstract, new_number, default_value, created}
use Rattle.vt_model.specs.Assigning.{attribute_of, kind_asked, has_kind, value_given, with_value, with_default_value}
use Rattle.vt_model.specs.Linking.{linked, unlinked}
use Rattle.vt_model.specs.Deleting.{deleted}
use Rattle.vt_model.specs.Effect.{link_asked, refusal, changed, effect}
use Rattle.vt_model.specs.Fits.{HasKind, FitsAttribute}
use Rattle.vt_model.specs.Sound.{IsAttributeKind, IsSound}
use Rattle.vt_model.specs.Storable.{IsStorable, IsGivable, GivesStorable}
use Rattle.vt_model.specs.declared.model.Object.{Object}
use Rattle.vt_model.specs.declared.model.Link.{Link}
use Rattle.vt_model.specs.declared.change.Given.{Given}
use Rattle.vt_model.specs.declared.change.Change.{Change}
use Rattle.vt_model.specs.declared.change.Change.TheVariants.{Create, Delete, Set, Unset, Link as LinkChange, Unlink, Move}
use Rattle.vt_model.proofs.Valid.Sides.{ObjectSide}
use Rattle.vt_model.proofs.Valid.Found.{IsLive-object_named, IsSomeAnd-class_named, HasAttribute, HasAttribute-feature, kind_asked-declared}
use Rattle.vt_model.proofs.Valid.Kinds.{HasKind-default_value, HasKind-value_given, IsStorable-default_value, IsStorable-value_given}
use Rattle.vt_model.proofs.Valid.ObjectSide.{ObjectSide-created, ObjectSide-deleted, ObjectSide-without_value, ObjectSide-with_value, ObjectSide-linked, ObjectSide-unlinked}
use Rattle.vt_model.proofs.Valid.Passing.{PassesCreate-refusal, has_kind-refusal, refusal-effect}

-- ---- what an attribute's value has to be

-- an attribute of a named object, by the attribute's name
HasAttribute-named : (meta : Metamodel) (g : Model) (name attr : List ℕ) (o : Object) (a : AttrId)
    → object_named g name ≡ Some o → attribute_of (feature_at meta g name attr) ≡ Some a → HasAttribute meta o.class a
HasAttribute-named meta g name attr o a from found =
    HasAttribute-feature meta o.class attr a (subst (λ s. attribute_of (option_and_then (λ (o : Object). feature meta o.class attr) s) ≡ Some a) from found)

-- a value of the kind that is asked for fits
FitsAttribute-named : (meta : Metamodel) (g : Model) (name attr : List ℕ) (o : Object) (a : AttrId) (k : Kind) (v : Value)
    → object_named g name ≡ Some o → attribute_of (feature_at meta g name attr) ≡ Some a → kind_asked meta (feature_at meta g name attr) ≡ Some k → HasKind meta k v → IsStorable v
    → FitsAttribute meta g.live (record { object = o.number; attribute = a; value = v })
FitsAttribute-named meta g name attr o a k v from found asked has storable =
    let it = HasAttribute-named meta g name attr o a from found in
    let is : it.info.kind ≡ k = kind_asked-declared meta (feature_at meta g name attr) a it.info k found it.declared asked in
    record {
      info = it.info;
      declared = it.declared;
      owner = record { own = o.class; is_live = IsLive-object_named g name o from; below = it.below };
      kind = subst (λ k. HasKind meta k v) (sym is) has;
      storable = storable;
    }

-- ---- changes that aren't refused

-- a new number is the next or a greater one
pub new_number-above : (g : Model) (number : Option ℕ) → g.next ≤ new_number g number
new_number-above g None = omega arith
new_number-above g (Some n) = omega arith

module _ (meta : Metamodel) (g : Model) (sound : IsSound meta) (side : ObjectSide meta g) where
  -- a creation that passes its tests
  ObjectSide-create : (name class : List ℕ) (number : Option ℕ) → refusal meta g (Create name class number) ≡ None
      → ObjectSide meta (unwrap_or (changed meta g (Create name class number)) g)
  ObjectSide-create name class number passes = by (class_named meta class) refl
    where
      by : (r : Option ClassId) → class_named meta class ≡ r → ObjectSide meta (unwrap_or (r >>= (λ c. Some (created meta g name c (new_number g number)))) g)
      by None e = side
      by (Some c) e =
          let passed = PassesCreate-refusal meta g name class number passes in
          ObjectSide-created meta g side sound name c (new_number g number) (new_number-above g number) passed.below passed.fresh passed.free
          (IsSomeAnd-class_named meta class c e (subst (λ s. is_abstract meta s ≡ false) e passed.concrete))

  -- a deletion
  ObjectSide-delete : (name : List ℕ) → ObjectSide meta (unwrap_or (changed meta g (Delete name)) g)
  ObjectSide-delete name = by (object_named g name)
    where
      by : (r : Option Object) → ObjectSide meta (unwrap_or (r >>= (λ o. Some (deleted meta g o.number))) g)
      by None = side
      by (Some o) = ObjectSide-deleted meta g side o.number

  -- a value that passes its tests is set
  ObjectSide-set : (name attr : List ℕ) (given : Given) → IsGivable given → refusal meta g (Set name attr given) ≡ None
      → ObjectSide meta (unwrap_or (changed meta g (Set name attr given)) g)
  ObjectSide-set name attr given can passes =
      by (object_named g name) (attribute_of (feature_at meta g name attr)) (option_and_then (value_given meta given) (kind_asked meta (feature_at meta g name attr))) refl refl refl
    where
      fits : (o : Object) (a : AttrId) (v : Value) → object_named g name ≡ Some o → attribute_of (feature_at meta g name attr) ≡ Some a
          → option_and_then (value_given meta given) (kind_asked meta (feature_at meta g name attr)) ≡ Some v
          → FitsAttribute meta g.live (record { object = o.number; attribute = a; value = v })
      fits o a v from found gives =
          option_and_then_some (value_given meta given) (kind_asked meta (feature_at meta g name attr)) v gives (λ k asked value.
          FitsAttribute-named meta g name attr o a k v from found asked
          (HasKind-value_given meta given k v (subst (λ s. option_map_or (has_kind meta given) s false ≡ true) asked (has_kind-refusal meta g name attr given passes)) value)
          (IsStorable-value_given meta given k v can value))

      by : (r : Option Object) (s : Option AttrId) (w : Option Value)
          → object_named g name ≡ r → attribute_of (feature_at meta g name attr) ≡ s → option_and_then (value_given meta given) (kind_asked meta (feature_at meta g name attr)) ≡ w
          → ObjectSide meta (unwrap_or (r >>= (λ o. s >>= (λ a. w >>= (λ v. Some (with_value g o.number a v))))) g)
      by None s w from found gives = side
      by (Some o) None w from found gives = side
      by (Some o) (Some a) None from found gives = side
      by (Some o) (Some a) (Some v) from found gives = ObjectSide-with_value meta g side o.number a v (fits o a v from found gives)

  -- an attribute gets its default back, or loses its value where it has no default
  ObjectSide-unset : (name attr : List ℕ) → ObjectSide meta (unwrap_or (changed meta g (Unset name attr)) g)
  ObjectSide-unset name attr =
      by (object_named g name) (attribute_of (feature_at meta g name attr)) (kind_asked meta (feature_at meta g name attr)) refl refl refl
    where
      defaulted : (o : Object) (a : AttrId) (k : Kind) (d : Option Value) → object_named g name ≡ Some o → attribute_of (feature_at meta g name attr) ≡ Some a
          → kind_asked meta (feature_at meta g name attr) ≡ Some k → default_value k ≡ d → ObjectSide meta (with_default_value g o.number a d)
      defaulted o a k None from found asked default =
          let it = HasAttribute-named meta g name attr o a from found in
          let is : it.info.kind ≡ k = kind_asked-declared meta (feature_at meta g name attr) a it.info k found it.declared asked in
          ObjectSide-without_value meta g side o.number a it.info it.declared (ap default_value is ∙ default)
      defaulted o a k (Some v) from found asked default =
          let it = HasAttribute-named meta g name attr o a from found in
          let is : it.info.kind ≡ k = kind_asked-declared meta (feature_at meta g name attr) a it.info k found it.declared asked in
          ObjectSide-with_value meta g side o.number a v (FitsAttribute-named meta g name attr o a k v from found asked
          (HasKind-default_value meta k v (subst (IsAttributeKind meta) is (sound.kinds a it.info it.declared)) default)
          (IsStorable-default_value k v default))

      by : (r : Option Object) (s : Option AttrId) (t : Option Kind)
          → object_named g name ≡ r → attribute_of (feature_at meta g name attr) ≡ s → kind_asked meta (feature_at meta g name attr) ≡ t
          → ObjectSide meta (unwrap_or (r >>= (λ o. s >>= (λ a. t >>= (λ k. Some (with_default_value g o.number a (default_value k)))))) g)
      by None s t from found asked = side
      by (Some o) None t from found asked = side
      by (Some o) (Some a) None from found asked = side
      by (Some o) (Some a) (Some k) from found asked = defaulted o a k (default_value k) from found asked refl

  -- the link that names ask for comes or goes
  ObjectSide-by_link : (change : Link → Model) → ((link : Link) → ObjectSide meta (change link)) → (r : Option Link) → ObjectSide meta (unwrap_or (option_map change r) g)
  ObjectSide-by_link change keeps None = side
  ObjectSide-by_link change keeps (Some link) = keeps link

  -- each kind of change
  pub ObjectSide-changed : (change : Change) → GivesStorable change → refusal meta g change ≡ None → ObjectSide meta (unwrap_or (changed meta g change) g)
  ObjectSide-changed (Create name class number) gives passes = ObjectSide-create name class number passes
  ObjectSide-changed (Delete name) gives passes = ObjectSide-delete name
  ObjectSide-changed (Set name attr given) gives passes = ObjectSide-set name attr given gives passes
  ObjectSide-changed (Unset name attr) gives passes = ObjectSide-unset name attr
  ObjectSide-changed (LinkChange name reference target) gives passes = ObjectSide-by_link (linked meta g) (ObjectSide-linked meta g side) (link_asked meta g name reference target)
  ObjectSide-changed (Unlink name reference target) gives passes = ObjectSide-by_link (unlinked meta g) (ObjectSide-unlinked meta g side) (link_asked meta g name reference target)
  ObjectSide-changed (Move child parent reference) gives passes = ObjectSide-by_link (linked meta g) (ObjectSide-linked meta g side) (link_asked meta g parent reference child)

-- a change that isn't refused keeps the objects' side
pub ObjectSide-effect : (meta : Metamodel) (g after : Model) (change : Change) → IsSound meta → ObjectSide meta g → GivesStorable change → effect meta g change ≡ Ok after → ObjectSide meta after
ObjectSide-effect meta g after change sound side gives e =
    let done = refusal-effect meta g after change e in
    subst (ObjectSide meta) done.1 (ObjectSide-changed meta g sound side change gives done.0)
