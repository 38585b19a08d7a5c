-- What was deleted stays deleted, whatever change is made.
use Rattle.std.proofs.Common.{◌≡◌, List, [], ◌∷◌, refl, sym, ap, subst, true, false, cond, is_some}
use Rattle.std.specs.Prelude.{◌==◌, fold, filter, Contains, IsSome, Option, Some, None, option_map, option_and_then, unwrap_or, Ok}
use Rattle.std.proofs.lemmas.Bool.{true≢false}
use Rattle.vt_facts.specs.Parts.{◌>>=◌}
use Rattle.vt_model.specs.Metamodel.{Metamodel, class_named}
use Rattle.vt_model.specs.Model.{Model, object_named, feature_at}
use Rattle.vt_model.specs.Creating.{created, new_number, default_value}
use Rattle.vt_model.specs.Assigning.{attribute_of, kind_asked, value_given, with_default_value, with_value}
use Rattle.vt_model.specs.Linking.{linked, relinked, oriented, unlinked, stands}
use Rattle.vt_model.specs.Containing.{is_inside}
use Rattle.vt_model.specs.Deleting.{gone_order, with_gone, deleted}
use Rattle.vt_model.specs.Effect.{refusal, changed, unless_refused, link_asked, effect}
use Rattle.vt_model.specs.declared.model.Object.{Object}
use Rattle.vt_model.specs.declared.model.GoneObject.{GoneObject}
use Rattle.vt_model.specs.declared.change.Change.{Change}
use Rattle.vt_model.specs.declared.change.Change.TheVariants as change
use Rattle.vt_model.specs.declared.change.Refusal.{Refusal}
use Rattle.vt_facts.proofs.MemberLemmas.{Contains-find, find-some, Contains-insert_key_old}
use Rattle.vt_base.specs.declared.numbers.ObjId.{ObjId}
use Rattle.vt_base.specs.declared.numbers.AttrId.{AttrId}
use Rattle.vt_base.specs.declared.value.Kind.{Kind}
use Rattle.vt_base.specs.declared.value.Value.{Value}
use Rattle.vt_model.specs.declared.model.Link.{Link}
use Rattle.vt_graph.specs.Asked.{gone_at}

-- ---- in the list of deleted objects

-- one that is there is there when more come
Contains-with_gone : (gone : List GoneObject) (objects : List Object) (x : GoneObject) → Contains gone x → Contains (fold with_gone gone objects) x
Contains-with_gone gone [] x there = there
Contains-with_gone gone (o ∷ objects) x there =
    Contains-with_gone (with_gone gone o) objects x (Contains-insert_key_old gone_order (record { number = o.number; name = o.name }) gone x there)

-- so what is deleted in the one model is deleted in the other
abbrev KeepsGone : Model → Model → Type 0
KeepsGone g after = (x : GoneObject) → Contains g.gone x → Contains after.gone x

same_gone : (g after : Model) → after.gone ≡ g.gone → KeepsGone g after
same_gone g after same x there = subst (λ l. Contains l x) (sym same) there

-- ---- after each change

module _ (g : Model) where
  -- what may come to nothing, and otherwise keeps them
  keeps-map : {A : Type 0} (f : A → Model) (o : Option A) → ((a : A) → KeepsGone g (f a)) → KeepsGone g (unwrap_or (option_map f o) g)
  keeps-map f None keeps x there = there
  keeps-map f (Some a) keeps x there = keeps a x there

  keeps-then : {A : Type 0} (f : A → Option Model) (o : Option A) → ((a : A) → KeepsGone g (unwrap_or (f a) g)) → KeepsGone g (unwrap_or (o >>= f) g)
  keeps-then f None keeps x there = there
  keeps-then f (Some a) keeps x there = keeps a x there

  keeps-linked : (meta : Metamodel) (link : Link) → KeepsGone g (linked meta g link)
  keeps-linked meta link x there = elim (stands g link) as (λ b. Contains (cond b g (relinked meta g (oriented meta link))).gone x) [
    | true ↦ there
    | false ↦ there
  ]

  keeps-default : (o : ObjId) (a : AttrId) (v : Option Value) → KeepsGone g (with_default_value g o a v)
  keeps-default o a None x there = there
  keeps-default o a (Some v) x there = there

  -- of an object's attribute
  keeps-set : (o : ObjId) (a : Option AttrId) (v : Option Value) → KeepsGone g (unwrap_or (a >>= (λ a. v >>= (λ v. Some (with_value g o a v)))) g)
  keeps-set o a v = keeps-then (λ a. v >>= (λ v. Some (with_value g o a v))) a (λ a. keeps-then (λ v. Some (with_value g o a v)) v (λ v x there. there))

  keeps-unset : (o : ObjId) (a : Option AttrId) (k : Option Kind) → KeepsGone g (unwrap_or (a >>= (λ a. k >>= (λ k. Some (with_default_value g o a (default_value k))))) g)
  keeps-unset o a k = keeps-then (λ a. k >>= (λ k. Some (with_default_value g o a (default_value k)))) a
      (λ a. keeps-then (λ k. Some (with_default_value g o a (default_value k))) k (λ k. keeps-default o a (default_value k)))

  keeps-changed : (meta : Metamodel) (c : Change) → KeepsGone g (unwrap_or (changed meta g c) g)
  keeps-changed meta (change.Create name class number) = keeps-then (λ c. Some (created meta g name c (new_number g number))) (class_named meta class) (λ c x there. there)
  keeps-changed meta (change.Delete name) = keeps-then (λ (o : Object). Some (deleted meta g o.number)) (object_named g name)
      (λ o x there. Contains-with_gone g.gone (filter (λ y. is_inside meta g y.number o.number) g.live) x there)
  keeps-changed meta (change.Set name attr given) =
      let a = attribute_of (feature_at meta g name attr) in
      let v = option_and_then (value_given meta given) (kind_asked meta (feature_at meta g name attr)) in
      keeps-then (λ (o : Object). a >>= (λ a. v >>= (λ v. Some (with_value g o.number a v)))) (object_named g name) (λ o. keeps-set o.number a v)
  keeps-changed meta (change.Unset name attr) =
      let a = attribute_of (feature_at meta g name attr) in
      let k = kind_asked meta (feature_at meta g name attr) in
      keeps-then (λ (o : Object). a >>= (λ a. k >>= (λ k. Some (with_default_value g o.number a (default_value k))))) (object_named g name) (λ o. keeps-unset o.number a k)
  keeps-changed meta (change.Link name reference target) = keeps-map (linked meta g) (link_asked meta g name reference target) (keeps-linked meta)
  keeps-changed meta (change.Unlink name reference target) = keeps-map (unlinked meta g) (link_asked meta g name reference target) (λ link x there. there)
  keeps-changed meta (change.Move child parent reference) = keeps-map (linked meta g) (link_asked meta g parent reference child) (keeps-linked meta)

-- ---- after a change that is made

-- the model that a change comes to
effect-is : (why : Option Refusal) (after made : Model) → unless_refused why after ≡ Ok made → after ≡ made
effect-is (Some why) after made e = cc
effect-is None after made e = cc

-- what was deleted stays so
pub gone-effect : (meta : Metamodel) (g made : Model) (c : Change) → effect meta g c ≡ Ok made → (o : ObjId) → IsSome (gone_at g o) → IsSome (gone_at made o)
gone-effect meta g made c e o some = by (gone_at g o) refl some
  where
    keeps : KeepsGone g made
    keeps x there = subst (λ (m : Model). Contains m.gone x) (effect-is (refusal meta g c) (unwrap_or (changed meta g c) g) made e) (keeps-changed g meta c x there)

    by : (found : Option GoneObject) → gone_at g o ≡ found → is_some found ≡ true → IsSome (gone_at made o)
    by None at some = absurd (true≢false (sym some))
    by (Some x) at some =
        let there = Contains-find (λ y. y.number.0 == o.0) g.gone x at in
        let found = find-some (λ y. y.number.0 == o.0) made.gone x (keeps x there.0) there.1 in
        ap is_some found.1
