-- By the references that its class has, an object has all its links.
use Rattle.std.proofs.Common.{◌≡◌, ◌==◌, ℕ, suc, ◌+◌, ◌<◌, ◌≤◌, List, [], ◌∷◌, ◌++◌, length, map, Bool, true, false, true≢false, Option, Some, None, refl, sym, ap, subst, ◌∙◌, inl, inr, arith, cond}
use Rattle.std.specs.Prelude.{Contains, slice_get, option_map, unwrap_or, IsSomeAnd}
use Rattle.std.proofs.lemmas.Bool.{eqb-true}
use Rattle.std.proofs.lemmas.List.Elements.{All-contains}
use Rattle.std.proofs.lemmas.Option.{slice_get_cases, slice_get_within, same_Some}
use Rattle.serde_json.specs.Data.{Members, no_members}
use Rattle.vt_base.specs.declared.numbers.ObjId.{ObjId}
use Rattle.vt_base.specs.declared.numbers.ClassId.{ClassId}
use Rattle.vt_base.specs.declared.numbers.RefId.{RefId}
use Rattle.vt_model.specs.Metamodel.{Metamodel, isa}
use Rattle.vt_model.specs.Model.{Model}
use Rattle.vt_model.specs.Fits.{FitsReference}
use Rattle.vt_model.specs.Valid.{IsValid, IsConcrete}
use Rattle.vt_model.specs.declared.metamodel.ClassInfo.{ClassInfo}
use Rattle.vt_model.specs.declared.metamodel.RefInfo.{RefInfo}
use Rattle.vt_model.specs.declared.model.Object.{Object}
use Rattle.vt_model.specs.declared.model.Link.{Link}
use Rattle.vt_facts.proofs.MemberLemmas.{Contains-from_filter, Contains-find}
use Rattle.vt_graph.specs.Asked.{live_at, class_at}
use Rattle.vt_facts.proofs.ChosenLemmas.{filter-none}
use Rattle.vt_asked.proofs.LiveLemmas.{live_at_is}
use Rattle.vt_model_json.specs.Dump.{name_of, links_of, target_names, texts, with_targets, link_members}
use Rattle.vt_model_json.specs.Inside.Plan.{owned, owned_by, IsPlan, members_by}
use Rattle.vt_model_json.proofs.DifferenceLemmas.{slice_get-added}

-- ---- the plan

length-added : (plan : List (List RefId)) (own : List RefId) → length (plan ++ own ∷ []) ≡ length plan + 1
length-added [] own = refl
length-added (x ∷ plan) own = let rest = length-added plan own in omega (arith, rest)

-- the next class's references are added
pub add_class : (meta : Metamodel) (c : ℕ) (plan : List (List RefId)) (own : List RefId)
    → IsPlan meta c plan → own ≡ owned_by meta (record { 0 = c }) → IsPlan meta (c + 1) (plan ++ own ∷ [])
add_class meta c plan own before is = record {
  counted = length-added plan own ∙ ap (λ n. n + 1) before.counted;
  lists = λ d found there. elim (slice_get-added plan own found d there) [
    | inl old ↦ before.lists d found old
    | inr new ↦ sym new.1 ∙ is ∙ ap (λ n. owned_by meta (record { 0 = n })) (sym (new.0 ∙ before.counted))
  ];
}

-- ---- an object of a class

module _ (meta : Metamodel) (g : Model) (valid : IsValid meta g) (o : ObjId) (c : ClassId) (live : class_at g o ≡ Some c) where
  -- a link that leads from the object is of a reference that its class has
  own_link : (link : Link) → Contains g.links link → link.source.0 ≡ o.0 → (r : ℕ) (info : RefInfo) → slice_get meta.references r ≡ Some info → link.reference.0 ≡ r → isa meta c info.class ≡ true
  own_link link there from r info declared by =
      let fits = All-contains (FitsReference meta g.live) g.links link valid.links_fit there in
      let found = live_at_is meta g valid link.source fits.source.own fits.source.is_live in
      let source : link.source ≡ o = λ i. record { 0 = from i } in
      let own : fits.source.own ≡ c = same_Some fits.source.own c (sym (ap (option_map (λ (x : Object). x.class)) found) ∙ ap (class_at g) source ∙ live) in
      let one : fits.info ≡ info = same_Some fits.info info (sym fits.declared ∙ ap (slice_get meta.references) by ∙ declared) in
      ap (λ (d : ClassId). isa meta d info.class) (sym own) ∙ ap (λ (x : RefInfo). isa meta fits.source.own x.class) (sym one) ∙ fits.source.below

  -- a reference that its class doesn't have has no target
  no_targets : (r : ℕ) (info : RefInfo) → slice_get meta.references r ≡ Some info → isa meta c info.class ≡ false → target_names g r (links_of g o) ≡ []
  no_targets r info declared foreign =
      ap (map (λ (link : Link). name_of g link.target))
      (filter-none (λ (link : Link). link.reference.0 == r) (links_of g o) (λ link there. none link there (link.reference.0 == r) refl))
    where
      none : (link : Link) → Contains (links_of g o) link → (b : Bool) → (link.reference.0 == r) ≡ b → (link.reference.0 == r) ≡ false
      none link there false is = is
      none link there true is =
          let parts = Contains-from_filter (λ (link : Link). link.source.0 == o.0) g.links link there in
          let has = own_link link parts.0 (eqb-true link.source.0 o.0 parts.1) r info declared (eqb-true link.reference.0 r is) in
          absurd (true≢false (sym has ∙ foreign))

  -- the others go in one after the other
  owned_members : (ms : Members) (r : ℕ) (infos : List RefInfo) → ((i : ℕ) → slice_get meta.references (r + i) ≡ slice_get infos i)
      → members_by meta g (links_of g o) ms (owned meta c r infos) ≡ link_members g (links_of g o) ms r infos
  owned_members ms r [] at = refl
  owned_members ms r (info ∷ infos) at = by (λ ms. owned_members ms (r + 1) infos rest) (isa meta c info.class) refl
    where
      declared : slice_get meta.references r ≡ Some info
      declared = let here : r + 0 ≡ r = omega arith in subst (λ n. slice_get meta.references n ≡ Some info) here (at 0)

      rest : (i : ℕ) → slice_get meta.references (r + 1 + i) ≡ slice_get infos i
      rest i = let here : r + suc i ≡ r + 1 + i = omega arith in subst (λ n. slice_get meta.references n ≡ slice_get infos i) here (at (suc i))

      by : ((ms : Members) → members_by meta g (links_of g o) ms (owned meta c (r + 1) infos) ≡ link_members g (links_of g o) ms (r + 1) infos)
          → (b : Bool) → isa meta c info.class ≡ b
          → members_by meta g (links_of g o) ms (cond b (record { 0 = r } ∷ owned meta c (r + 1) infos) (owned meta c (r + 1) infos)) ≡ link_members g (links_of g o) ms r (info ∷ infos)
      by later true is =
          ap (λ (found : Option RefInfo). members_by meta g (links_of g o) (with_targets (unwrap_or (option_map (λ x. x.name) found) []) (texts (target_names g r (links_of g o))) ms) (owned meta c (r + 1) infos)) declared
          ∙ later (with_targets info.name (texts (target_names g r (links_of g o))) ms)
      by later false is =
          later ms
          ∙ sym (ap (λ names. link_members g (links_of g o) (with_targets info.name (texts names) ms) (r + 1) infos) (no_targets r info declared is))

  -- ---- the class in the plan

  concrete : (x : Option Object) → live_at g o ≡ x → option_map (λ (y : Object). y.class) x ≡ Some c → IsSomeAnd (slice_get meta.classes c.0) (λ info. info.is_abstract ≡ false)
  concrete None found none = absurd (let n : None ≡ Some c = none in cc)
  concrete (Some x) found some =
      let there = Contains-find (λ (y : Object). y.number.0 == o.0) g.live x found in
      subst (λ (d : ClassId). IsSomeAnd (slice_get meta.classes d.0) (λ info. info.is_abstract ≡ false)) (same_Some x.class c some)
      (All-contains (IsConcrete meta) g.live x valid.classes_concrete there.0)

  within : (x : Option ClassInfo) → slice_get meta.classes c.0 ≡ x → IsSomeAnd x (λ info. info.is_abstract ≡ false) → c.0 < length meta.classes
  within None none some = absurd some
  within (Some info) there some = slice_get_within meta.classes c.0 info there

  outside : (plan : List (List RefId)) → IsPlan meta (length meta.classes) plan → length plan ≤ c.0 → ⊥
  outside plan is past =
      let less = within (slice_get meta.classes c.0) refl (concrete (live_at g o) refl live) in
      let counted = is.counted in
      omega (arith, less, past, counted)

  -- the class is among those that the plan lists
  planned : (plan : List (List RefId)) → IsPlan meta (length meta.classes) plan → unwrap_or (slice_get plan c.0) [] ≡ owned_by meta c
  planned plan is = elim (slice_get_cases plan c.0).1 [
    | inl there ↦ ap (λ (found : Option (List RefId)). unwrap_or found []) there.2 ∙ is.lists c.0 there.0 there.2
    | inr past ↦ absurd (outside plan is past.0)
  ]

  -- by the references that the plan lists for its class, an object has all its links
  pub links_planned : (plan : List (List RefId)) (found : List RefId) → IsPlan meta (length meta.classes) plan → found ≡ unwrap_or (slice_get plan c.0) []
      → members_by meta g (links_of g o) no_members found ≡ link_members g (links_of g o) no_members 0 meta.references
  links_planned plan found is at =
      ap (members_by meta g (links_of g o) no_members) (at ∙ planned plan is)
      ∙ owned_members no_members 0 meta.references (λ i. let same : 0 + i ≡ i = omega arith in ap (slice_get meta.references) same)
