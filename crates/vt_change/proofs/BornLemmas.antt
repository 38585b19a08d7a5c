-- An object that lives after a change lived before it, or has a number that was free.
use Rattle.std.proofs.Common.{◌≡◌, List, [], ◌∷◌, subst, ◌⊎◌, inl, inr, true, false, cond}
use Rattle.std.specs.Prelude.{◌≤◌, Contains, Option, Some, None, option_map, option_and_then, unwrap_or, not, Ok}
use Rattle.std.proofs.lemmas.List.Elements.{Contains-append_cases}
use Rattle.vt_facts.specs.Parts.{◌>>=◌}
use Rattle.vt_facts.proofs.MemberLemmas.{Contains-nil, Contains-cons_cases, Contains-from_filter}
use Rattle.vt_base.specs.declared.numbers.ObjId.{ObjId}
use Rattle.vt_base.specs.declared.numbers.AttrId.{AttrId}
use Rattle.vt_base.specs.declared.numbers.ClassId.{ClassId}
use Rattle.vt_base.specs.declared.value.Value.{Value}
use Rattle.vt_model.specs.Metamodel.{Metamodel, class_named}
use Rattle.vt_model.specs.Model.{Model, object_named, feature_at}
use Rattle.vt_model.specs.Creating.{created, new_number, default_value}
use Rattle.vt_model.specs.Assigning.{attribute_of, kind_asked, value_given, with_default_value, with_value}
use Rattle.vt_model.specs.Linking.{linked, relinked, oriented, unlinked, stands}
use Rattle.vt_model.specs.Containing.{is_inside}
use Rattle.vt_model.specs.Deleting.{deleted}
use Rattle.vt_model.specs.Effect.{changed, link_asked, effect}
use Rattle.vt_model.specs.declared.model.Object.{Object}
use Rattle.vt_model.specs.declared.model.Link.{Link}
use Rattle.vt_model.specs.declared.change.Change.{Change}
use Rattle.vt_model.specs.declared.change.Change.TheVariants as change
use Rattle.vt_model.proofs.Valid.ObjectEffect.{new_number-above}
use Rattle.vt_model.proofs.Valid.Passing.{refusal-effect}
use Rattle.vt_change.specs.Inside.Working.{AreKnown}

module _ (g : Model) where
  known-map : {A : Type 0} (f : A → Model) (o : Option A) → ((a : A) → AreKnown g (f a)) → AreKnown g (unwrap_or (option_map f o) g)
  known-map f None each x there = inl there
  known-map f (Some a) each x there = each a x there

  known-then : {A : Type 0} (f : A → Option Model) (o : Option A) → ((a : A) → AreKnown g (unwrap_or (f a) g)) → AreKnown g (unwrap_or (o >>= f) g)
  known-then f None each x there = inl there
  known-then f (Some a) each x there = each a x there

  known-linked : (meta : Metamodel) (link : Link) → AreKnown g (linked meta g link)
  known-linked meta link x there = by (stands g link) there
    where
      by : (b : _) → Contains (cond b g (relinked meta g (oriented meta link))).live x → Contains g.live x ⊎ (g.next ≤ x.number.0)
      by true there = inl there
      by false there = inl there

  known-default : (o : ObjId) (a : AttrId) (v : Option Value) → AreKnown g (with_default_value g o a v)
  known-default o a None x there = inl there
  known-default o a (Some v) x there = inl there

  known-created : (meta : Metamodel) (name : List _) (number : Option _) (c : ClassId) → AreKnown g (created meta g name c (new_number g number))
  known-created meta name number c x there = elim (Contains-append_cases g.live (record { number = record { 0 = new_number g number }; name = name; class = c } ∷ []) x there) [
    | inl old ↦ inl old
    | inr new ↦ elim (Contains-cons_cases (record { number = record { 0 = new_number g number }; name = name; class = c }) x [] new) [
      | inl is ↦ inr (subst (λ (o : Object). g.next ≤ o.number.0) is (new_number-above g number))
      | inr none ↦ absurd (Contains-nil x none)
    ]
  ]

  known-changed : (meta : Metamodel) (c : Change) → AreKnown g (unwrap_or (changed meta g c) g)
  known-changed meta (change.Create name class number) = known-then (λ c. Some (created meta g name c (new_number g number))) (class_named meta class) (known-created meta name number)
  known-changed meta (change.Delete name) = known-then (λ (o : Object). Some (deleted meta g o.number)) (object_named g name)
      (λ o x there. inl (Contains-from_filter (λ (y : Object). not (is_inside meta g y.number o.number)) g.live x there).0)
  known-changed meta (change.Set name attr given) =
      let a = attribute_of (feature_at meta g name attr) in
      let v = option_and_then (value_given meta given) (kind_asked meta (feature_at meta g name attr)) in
      known-then (λ (o : Object). a >>= (λ a. v >>= (λ v. Some (with_value g o.number a v)))) (object_named g name)
      (λ o. known-then (λ a. v >>= (λ v. Some (with_value g o.number a v))) a (λ a. known-then (λ v. Some (with_value g o.number a v)) v (λ v x there. inl there)))
  known-changed meta (change.Unset name attr) =
      let a = attribute_of (feature_at meta g name attr) in
      let k = kind_asked meta (feature_at meta g name attr) in
      known-then (λ (o : Object). a >>= (λ a. k >>= (λ k. Some (with_default_value g o.number a (default_value k))))) (object_named g name)
      (λ o. known-then (λ a. k >>= (λ k. Some (with_default_value g o.number a (default_value k)))) a (λ a. known-then (λ k. Some (with_default_value g o.number a (default_value k))) k (λ k. known-default o.number a (default_value k))))
  known-changed meta (change.Link name reference target) = known-map (linked meta g) (link_asked meta g name reference target) (known-linked meta)
  known-changed meta (change.Unlink name reference target) = known-map (unlinked meta g) (link_asked meta g name reference target) (λ link x there. inl there)
  known-changed meta (change.Move child parent reference) = known-map (linked meta g) (link_asked meta g parent reference child) (known-linked meta)

-- after a change that is made
pub known-effect : (meta : Metamodel) (g after : Model) (c : Change) → effect meta g c ≡ Ok after → AreKnown g after
known-effect meta g after c e = subst (AreKnown g) (refusal-effect meta g after c e).1 (known-changed g meta c)
