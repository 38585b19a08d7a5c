-- Each change that isn't refused keeps the links' side.
use Rattle.std.proofs.Common.{◌≡◌, ℕ, List, [], ◌∷◌, refl, subst, true, false}
use Rattle.std.specs.Prelude.{◌||◌, not, is_none, Option, Some, None, option_map, option_and_then, Ok, unwrap_or}
use Rattle.std.specs.Option.{option_map_or}
use Rattle.std.proofs.lemmas.Bool.{not-false}
use Rattle.std.proofs.lemmas.List.Elements.{Contains-append_left}
use Rattle.vt_base.specs.declared.numbers.ObjId.{ObjId}
use Rattle.vt_base.specs.declared.numbers.ClassId.{ClassId}
use Rattle.vt_base.specs.declared.numbers.AttrId.{AttrId}
use Rattle.vt_base.specs.declared.value.Value.{Value}
use Rattle.vt_base.specs.declared.value.Kind.{Kind}
use Rattle.vt_facts.specs.Parts.{◌>>=◌}
use Rattle.vt_model.specs.Metamodel.{Metamodel, class_named}
use Rattle.vt_model.specs.Model.{Model, object_named, never_existed, was_deleted, feature_at}
use Rattle.vt_model.specs.Creating.{new_number, default_value, created}
use Rattle.vt_model.specs.Assigning.{attribute_of, kind_asked, value_given, with_value, with_default_value}
use Rattle.vt_model.specs.Linking.{reference_of, is_target, linked, unlinked}
use Rattle.vt_model.specs.Containing.{closes_cycle}
use Rattle.vt_model.specs.Deleting.{deleted}
use Rattle.vt_model.specs.Effect.{link_asked, contains_asked, refusal, changed, effect}
use Rattle.vt_model.specs.Sound.{IsSound}
use Rattle.vt_model.specs.Valid.{IsValid}
use Rattle.vt_model.specs.declared.change.Given.{Given}
use Rattle.vt_model.specs.declared.change.Change.{Change}
use Rattle.vt_model.specs.declared.change.Change.TheVariants.{Create, Delete, Set, Unset, Link as LinkChange, Unlink, Move}
use Rattle.vt_model.specs.declared.change.Refusal.TheVariants.{UnknownObject, Gone, UnknownFeature, WrongKind, WrongTarget, ContainmentCycle}
use Rattle.vt_model.specs.declared.model.Object.{Object}
use Rattle.vt_model.specs.declared.model.Link.{Link}
use Rattle.vt_model.proofs.Valid.Sides.{LinkSide, LinkSide-valid}
use Rattle.vt_model.proofs.Valid.FewerLinks.{LinkSide-stays}
use Rattle.vt_model.proofs.Valid.Unlinked.{LinkSide-unlinked}
use Rattle.vt_model.proofs.Valid.DeletedLinks.{LinkSide-deleted}
use Rattle.vt_model.proofs.Valid.Linked.{LinkSide-linked}
use Rattle.vt_model.proofs.Valid.LinkAsked.{IsAsked-link_asked, FitsReference-asked}
use Rattle.vt_model.proofs.Valid.Passing.{first_of-None, refusal-effect}

-- what is linked is of the class that the reference leads to, and nothing comes into itself
record PassesLink (meta : Metamodel) (g : Model) (name reference target : List ℕ) : Type 0 where
  right : is_target meta (reference_of (feature_at meta g name reference)) (object_named g target) ≡ true
  straight : option_map_or (closes_cycle meta g) (link_asked meta g name reference target) false ≡ false

-- a Link that isn't refused
PassesLink-refusal : (meta : Metamodel) (g : Model) (name reference target : List ℕ)
    → refusal meta g (LinkChange name reference target) ≡ None → PassesLink meta g name reference target
PassesLink-refusal meta g name reference target passes =
    let first = first_of-None (never_existed g name || never_existed g target) UnknownObject _ passes in
    let second = first_of-None (was_deleted g name || was_deleted g target) Gone _ first.1 in
    let third = first_of-None (is_none (feature_at meta g name reference)) UnknownFeature _ second.1 in
    let fourth = first_of-None (is_none (reference_of (feature_at meta g name reference))) WrongKind _ third.1 in
    let fifth = first_of-None (not (is_target meta (reference_of (feature_at meta g name reference)) (object_named g target))) WrongTarget _ fourth.1 in
    let sixth = first_of-None (option_map_or (closes_cycle meta g) (link_asked meta g name reference target) false) ContainmentCycle _ fifth.1 in
    record { right = not-false (is_target meta (reference_of (feature_at meta g name reference)) (object_named g target)) fifth.0; straight = sixth.0 }

-- a Move that isn't refused
PassesLink-move : (meta : Metamodel) (g : Model) (child parent reference : List ℕ)
    → refusal meta g (Move child parent reference) ≡ None → PassesLink meta g parent reference child
PassesLink-move meta g child parent reference passes =
    let first = first_of-None (never_existed g child || never_existed g parent) UnknownObject _ passes in
    let second = first_of-None (was_deleted g child || was_deleted g parent) Gone _ first.1 in
    let third = first_of-None (is_none (feature_at meta g parent reference)) UnknownFeature _ second.1 in
    let fourth = first_of-None (not (contains_asked meta g parent reference)) WrongKind _ third.1 in
    let fifth = first_of-None (not (is_target meta (reference_of (feature_at meta g parent reference)) (object_named g child))) WrongTarget _ fourth.1 in
    let sixth = first_of-None (option_map_or (closes_cycle meta g) (link_asked meta g parent reference child) false) ContainmentCycle _ fifth.1 in
    record { right = not-false (is_target meta (reference_of (feature_at meta g parent reference)) (object_named g child)) fifth.0; straight = sixth.0 }

module _ (meta : Metamodel) (sound : IsSound meta) (g : Model) (side : LinkSide meta g) where
  -- ---- the new model of each kind of change

  -- one more object
  LinkSide-created : (name : List ℕ) (c : ClassId) (number : ℕ) → LinkSide meta (created meta g name c number)
  LinkSide-created name c number = LinkSide-stays meta g (created meta g name c number) side refl
      (λ x there. Contains-append_left g.live (record { number = record { 0 = number }; name = name; class = c } ∷ []) x there)

  -- another value
  LinkSide-with_value : (o : ObjId) (a : AttrId) (v : Value) → LinkSide meta (with_value g o a v)
  LinkSide-with_value o a v = LinkSide-stays meta g (with_value g o a v) side refl (λ x there. there)

  -- a default, or none
  LinkSide-with_default_value : (o : ObjId) (a : AttrId) (v : Option Value) → LinkSide meta (with_default_value g o a v)
  LinkSide-with_default_value o a None = LinkSide-stays meta g (with_default_value g o a None) side refl (λ x there. there)
  LinkSide-with_default_value o a (Some v) = LinkSide-with_value o a v

  -- ---- the model after each kind of change

  -- Create adds an object and no link
  LinkSide-create : (name class : List ℕ) (number : Option ℕ) → LinkSide meta (unwrap_or (changed meta g (Create name class number)) g)
  LinkSide-create name class number = by (class_named meta class)
    where
      by : (c : Option ClassId) → LinkSide meta (unwrap_or (c >>= (λ c. Some (created meta g name c (new_number g number)))) g)
      by None = side
      by (Some c) = LinkSide-created name c (new_number g number)

  -- Delete takes every link that touches what goes
  LinkSide-delete : (name : List ℕ) → LinkSide meta (unwrap_or (changed meta g (Delete name)) g)
  LinkSide-delete name = by (object_named g name)
    where
      by : (o : Option Object) → LinkSide meta (unwrap_or (o >>= (λ o. Some (deleted meta g o.number))) g)
      by None = side
      by (Some o) = LinkSide-deleted meta g o.number sound side

  -- Set touches no link
  LinkSide-set : (name attr : List ℕ) (given : Given) → LinkSide meta (unwrap_or (changed meta g (Set name attr given)) g)
  LinkSide-set name attr given = by (object_named g name) (attribute_of (feature_at meta g name attr)) (option_and_then (value_given meta given) (kind_asked meta (feature_at meta g name attr)))
    where
      by : (o : Option Object) (a : Option AttrId) (v : Option Value) → LinkSide meta (unwrap_or (o >>= (λ o. a >>= (λ a. v >>= (λ v. Some (with_value g o.number a v))))) g)
      by None a v = side
      by (Some o) None v = side
      by (Some o) (Some a) None = side
      by (Some o) (Some a) (Some v) = LinkSide-with_value o.number a v

  -- and nor does Unset
  LinkSide-unset : (name attr : List ℕ) → LinkSide meta (unwrap_or (changed meta g (Unset name attr)) g)
  LinkSide-unset name attr = by (object_named g name) (attribute_of (feature_at meta g name attr)) (kind_asked meta (feature_at meta g name attr))
    where
      by : (o : Option Object) (a : Option AttrId) (k : Option Kind) → LinkSide meta (unwrap_or (o >>= (λ o. a >>= (λ a. k >>= (λ k. Some (with_default_value g o.number a (default_value k)))))) g)
      by None a k = side
      by (Some o) None k = side
      by (Some o) (Some a) None = side
      by (Some o) (Some a) (Some k) = LinkSide-with_default_value o.number a (default_value k)

  -- Link and Move ask for a link
  LinkSide-asked : (name reference target : List ℕ) → PassesLink meta g name reference target
      → LinkSide meta (unwrap_or (option_map (linked meta g) (link_asked meta g name reference target)) g)
  LinkSide-asked name reference target passes = by (link_asked meta g name reference target) refl passes.straight
    where
      by : (link : Option Link) → link_asked meta g name reference target ≡ link → option_map_or (closes_cycle meta g) link false ≡ false
          → LinkSide meta (unwrap_or (option_map (linked meta g) link) g)
      by None asked straight = side
      by (Some link) asked straight = LinkSide-linked meta sound g link side
          (FitsReference-asked meta g name reference target link (IsAsked-link_asked meta g name reference target link asked) passes.right) straight

  -- Unlink takes a link with its opposite
  LinkSide-unlink : (name reference target : List ℕ) → LinkSide meta (unwrap_or (changed meta g (Unlink name reference target)) g)
  LinkSide-unlink name reference target = by (link_asked meta g name reference target)
    where
      by : (link : Option Link) → LinkSide meta (unwrap_or (option_map (unlinked meta g) link) g)
      by None = side
      by (Some link) = LinkSide-unlinked meta sound g side link

  -- each kind of change
  LinkSide-changed : (change : Change) → refusal meta g change ≡ None → LinkSide meta (unwrap_or (changed meta g change) g)
  LinkSide-changed (Create name class number) passes = LinkSide-create name class number
  LinkSide-changed (Delete name) passes = LinkSide-delete name
  LinkSide-changed (Set name attr given) passes = LinkSide-set name attr given
  LinkSide-changed (Unset name attr) passes = LinkSide-unset name attr
  LinkSide-changed (LinkChange name reference target) passes = LinkSide-asked name reference target (PassesLink-refusal meta g name reference target passes)
  LinkSide-changed (Unlink name reference target) passes = LinkSide-unlink name reference target
  LinkSide-changed (Move child parent reference) passes = LinkSide-asked parent reference child (PassesLink-move meta g child parent reference passes)

-- each change that isn't refused keeps the links' side
pub LinkSide-effect : (meta : Metamodel) (g after : Model) (change : Change) → IsSound meta → IsValid meta g → effect meta g change ≡ Ok after → LinkSide meta after
LinkSide-effect meta g after change sound valid e =
    let made = refusal-effect meta g after change e in
    subst (LinkSide meta) made.1 (LinkSide-changed meta sound g (LinkSide-valid meta g valid) change made.0)
