-- The references of an object that have targets: members of its data.
use Rattle.std.proofs.Common.{◌≡◌, ℕ, zero, suc, ◌+◌, List, [], ◌∷◌, length, map, refl, sym, ap, subst, ◌∙◌, arith, true}
use Rattle.std.specs.Prelude.{◌==◌, ◌<◌, Contains, filter, slice_get, Option, Some, option_map, unwrap_or}
use Rattle.std.specs.List.Sorted.{IsStrictlySortedBy}
use Rattle.std.specs.BTreeSet.{insert_key}
use Rattle.std.specs.declared.cmp.Ordering.TheVariants.{Equal}
use Rattle.std.proofs.lemmas.Bool.{eqb-true, eq-eqb}
use Rattle.std.proofs.lemmas.List.Elements.{All-contains}
use Rattle.std.proofs.lemmas.Map.Lookups.{exact_bytes}
use Rattle.std.proofs.lemmas.Option.{slice_get_within}
use Rattle.serde_json.specs.Data.{Data, array, no_members, put}
use Rattle.vt_model.specs.Metamodel.{Metamodel, isa, feature}
use Rattle.vt_model.specs.Model.{Model}
use Rattle.vt_model.specs.Fits.{FitsReference}
use Rattle.vt_model.specs.Sound.{IsSound}
use Rattle.vt_model.specs.Valid.{IsValid}
use Rattle.vt_model.specs.declared.metamodel.RefInfo.{RefInfo}
use Rattle.vt_model.specs.declared.metamodel.Feature.{Feature}
use Rattle.vt_model.specs.declared.metamodel.Feature.TheVariants.{Ref}
use Rattle.vt_model.specs.declared.model.Object.{Object}
use Rattle.vt_model.specs.declared.model.Link.{Link}
use Rattle.vt_facts.proofs.MemberLemmas.{Contains-head, Contains-nil, Contains-map, Contains-filter, Contains-from_filter, Contains-insert_key_old}
use Rattle.vt_facts.proofs.OrderedLemmas.{IsStrictlySortedBy-insert_key}
use Rattle.vt_model.proofs.Valid.Containment.{same_object}
use Rattle.vt_model_json.specs.Dump.{name_of, links_of, target_names, texts, with_targets, link_members}
use Rattle.vt_dump_law.proofs.Lists.{Contains-insert_key_here}
use Rattle.vt_dump_law.proofs.Names.{same_object_of_number, class-live, feature-reference}
use Rattle.vt_dump_law.proofs.Links.{reference_name}
use Rattle.vt_dump_law.proofs.Spelled.{among-insert_key, by_key, by_key_total, spelled, put-spelled}

-- what stands under the key of a reference
abbrev pub data_of_reference : Model → List Link → ℕ → Data
data_of_reference g links r = array (texts (target_names g r links))

-- a reference without a target has no key
abbrev with_reference : Metamodel → List (List ℕ) → List ℕ → ℕ → List ℕ
with_reference meta [] rs r = rs
with_reference meta (t ∷ ts) rs r = insert_key (by_key (reference_name meta)) rs r

-- the references with targets, by key: those before, and those from the r-th on
abbrev pub references_from : Metamodel → Model → List Link → List ℕ → ℕ → List RefInfo → List ℕ
references_from meta g links rs r [] = rs
references_from meta g links rs r (info ∷ infos) = references_from meta g links (with_reference meta (target_names g r links) rs r) (r + 1) infos

-- the references of an object that have targets, by key
abbrev pub references_by_key : Metamodel → Model → Object → List ℕ
references_by_key meta g o = references_from meta g (links_of g o.number) [] 0 meta.references

-- infos are those of the references from the r-th on
abbrev AreFrom : Metamodel → ℕ → List RefInfo → Type 0
AreFrom meta r infos = (k : ℕ) → slice_get meta.references (r + k) ≡ slice_get infos k

-- but for the first they are those from the next on
AreFrom-next : (meta : Metamodel) (r : ℕ) (info : RefInfo) (infos : List RefInfo) → AreFrom meta r (info ∷ infos) → AreFrom meta (r + 1) infos
AreFrom-next meta r info infos are k = let same : r + 1 + k ≡ r + suc k = omega arith in ap (slice_get meta.references) same ∙ are (suc k)

-- the first has its name
AreFrom-first : (meta : Metamodel) (r : ℕ) (info : RefInfo) (infos : List RefInfo) → AreFrom meta r (info ∷ infos) → reference_name meta r ≡ info.name
AreFrom-first meta r info infos are =
    let same : r ≡ r + 0 = omega arith in
    ap (λ i. unwrap_or (option_map (λ (x : RefInfo). x.name) i) []) (ap (slice_get meta.references) same ∙ are 0)

-- a reference with a target has a link
record HasLink (links : List Link) (r : ℕ) : Type 0 where
  link : Link
  there : Contains links link
  is : link.reference.0 ≡ r

-- one that a filter finds
HasLink-filter : (links : List Link) (r : ℕ) (x : Link) (xs : List Link) → filter (λ link. link.reference.0 == r) links ≡ x ∷ xs → HasLink links r
HasLink-filter links r x xs e =
    let was = Contains-from_filter (λ link. link.reference.0 == r) links x (subst (λ l. Contains l x) (sym e) (Contains-head x xs)) in
    record { link = x; there = was.0; is = eqb-true x.reference.0 r was.1 }

-- one whose target is named
HasLink-target_names : (g : Model) (links : List Link) (r : ℕ) (t : List ℕ) (ts : List (List ℕ)) → target_names g r links ≡ t ∷ ts → HasLink links r
HasLink-target_names g links r t ts e = by (filter (λ link. link.reference.0 == r) links) refl e
  where
    by : (xs : List Link) → filter (λ link. link.reference.0 == r) links ≡ xs → map (λ (link : Link). name_of g link.target) xs ≡ t ∷ ts → HasLink links r
    by [] is e = cc
    by (x ∷ xs) is e = HasLink-filter links r x xs is

module _ (meta : Metamodel) (sound : IsSound meta) (g : Model) (valid : IsValid meta g) (o : Object) (live : Contains g.live o) where
  abbrev own_links : List Link
  own_links = links_of g o.number

  -- a link of the object is one of the model's
  pub own-links : (x : Link) → Contains own_links x → Contains g.links x × (x.source ≡ o.number)
  own-links x own =
      let was = Contains-from_filter (λ y. y.source.0 == o.number.0) g.links x own in
      (was.0, same_object x.source o.number (eqb-true x.source.0 o.number.0 was.1))

  -- its reference is declared
  pub reference-own : (x : Link) → Contains own_links x → x.reference.0 < length meta.references
  reference-own x own =
      let fits = All-contains (FitsReference meta g.live) g.links x valid.links_fit (own-links x own).0 in
      slice_get_within meta.references x.reference.0 fits.info fits.declared

  -- and the reference's name finds it
  feature-own : (x : Link) → Contains own_links x → feature meta o.class (reference_name meta x.reference.0) ≡ Some (Ref x.reference)
  feature-own x own =
      let was = own-links x own in
      let fits = All-contains (FitsReference meta g.live) g.links x valid.links_fit was.0 in
      let source : Object = record { number = x.source; name = fits.source.is_live.name; class = fits.source.own } in
      let is : source ≡ o = same_object_of_number meta g valid source o fits.source.is_live.there live (ap (λ n. n.0) was.1) in
      let name : reference_name meta x.reference.0 ≡ fits.info.name = ap (λ i. unwrap_or (option_map (λ (info : RefInfo). info.name) i) []) fits.declared in
      let below : isa meta o.class fits.info.class ≡ true = subst (λ (p : Object). isa meta p.class fits.info.class ≡ true) is fits.source.below in
      ap (feature meta o.class) name ∙ feature-reference meta sound o.class (class-live meta g valid o live) x.reference fits.info fits.declared below

  -- so references with links and one name are the same
  exact-own : (r s : ℕ) → HasLink own_links r → HasLink own_links s → by_key (reference_name meta) r s ≡ Equal → r ≡ s
  exact-own r s first second e =
      let a = first.link in
      let b = second.link in
      let name : reference_name meta a.reference.0 ≡ reference_name meta b.reference.0 =
      ap (reference_name meta) first.is ∙ exact_bytes (reference_name meta r) (reference_name meta s) e ∙ sym (ap (reference_name meta) second.is) in
      let same : ◌≡◌ {A = Option Feature} (Some (Ref a.reference)) (Some (Ref b.reference)) =
      sym (feature-own a first.there) ∙ ap (feature meta o.class) name ∙ feature-own b second.there in
      let reference : a.reference ≡ b.reference = cc in
      sym first.is ∙ ap (λ n. n.0) reference ∙ second.is

  -- the key of a reference
  abbrev key : ℕ → List ℕ
  key = reference_name meta

  -- what stands under it
  abbrev shown : ℕ → Data
  shown = data_of_reference g own_links

  -- one more reference
  with_targets-spelled : (info : RefInfo) (rs : List ℕ) (r : ℕ) → reference_name meta r ≡ info.name → ((s : ℕ) → Contains rs s → HasLink own_links s)
      → with_targets info.name (texts (target_names g r own_links)) (spelled key shown rs) ≡ spelled key shown (with_reference meta (target_names g r own_links) rs r)
  with_targets-spelled info rs r name first = by (target_names g r own_links) refl
    where
      by : (names : List (List ℕ)) → target_names g r own_links ≡ names
          → with_targets info.name (texts names) (spelled key shown rs) ≡ spelled key shown (with_reference meta names rs r)
      by [] e = refl
      by (t ∷ ts) e =
          let some = HasLink-target_names g own_links r t ts e in
          ap (λ n. put n (array (texts (t ∷ ts))) (spelled key shown rs)) (sym name)
          ∙ ap (λ names. put (key r) (array (texts names)) (spelled key shown rs)) (sym e)
          ∙ put-spelled key shown r rs (λ s among same. exact-own r s some (first s among) same)

  -- each has a link
  among-with_reference : (rs : List ℕ) (r : ℕ) → ((s : ℕ) → Contains rs s → HasLink own_links s) → (s : ℕ) → Contains (with_reference meta (target_names g r own_links) rs r) s → HasLink own_links s
  among-with_reference rs r first = by (target_names g r own_links) refl
    where
      by : (names : List (List ℕ)) → target_names g r own_links ≡ names → (s : ℕ) → Contains (with_reference meta names rs r) s → HasLink own_links s
      by [] e s there = first s there
      by (t ∷ ts) e s there = among-insert_key (by_key (reference_name meta)) (HasLink own_links) exact-own rs r first (HasLink-target_names g own_links r t ts e) s there

  -- the members are those of the references by key
  link_members-from : (rs : List ℕ) (r : ℕ) (infos : List RefInfo) → AreFrom meta r infos → ((s : ℕ) → Contains rs s → HasLink own_links s)
      → link_members g own_links (spelled key shown rs) r infos ≡ spelled key shown (references_from meta g own_links rs r infos)
  link_members-from rs r [] are first = refl
  link_members-from rs r (info ∷ infos) are first =
      ap (λ ms. link_members g own_links ms (r + 1) infos) (with_targets-spelled info rs r (AreFrom-first meta r info infos are) first)
      ∙ link_members-from (with_reference meta (target_names g r own_links) rs r) (r + 1) infos (AreFrom-next meta r info infos are) (among-with_reference rs r first)

  pub link_members-spelled : link_members g own_links no_members 0 meta.references ≡ spelled key shown (references_by_key meta g o)
  link_members-spelled = link_members-from [] 0 meta.references (λ k. let same : 0 + k ≡ k = omega arith in ap (slice_get meta.references) same) (λ s there. absurd (Contains-nil s there))

  -- they rise
  with_reference-rise : (names : List (List ℕ)) (rs : List ℕ) (r : ℕ) → IsStrictlySortedBy (by_key key) rs → IsStrictlySortedBy (by_key key) (with_reference meta names rs r)
  with_reference-rise [] rs r rise = rise
  with_reference-rise (t ∷ ts) rs r rise = IsStrictlySortedBy-insert_key (by_key key) (by_key_total key) rs r rise

  pub references_from-rise : (rs : List ℕ) (r : ℕ) (infos : List RefInfo) → IsStrictlySortedBy (by_key key) rs → IsStrictlySortedBy (by_key key) (references_from meta g own_links rs r infos)
  references_from-rise rs r [] rise = rise
  references_from-rise rs r (info ∷ infos) rise =
      references_from-rise (with_reference meta (target_names g r own_links) rs r) (r + 1) infos (with_reference-rise (target_names g r own_links) rs r rise)

  -- ---- each link's reference is among them

  -- what stood before stands still
  with_reference-old : (names : List (List ℕ)) (rs : List ℕ) (r s : ℕ) → Contains rs s → Contains (with_reference meta names rs r) s
  with_reference-old [] rs r s there = there
  with_reference-old (t ∷ ts) rs r s there = Contains-insert_key_old (by_key (reference_name meta)) r rs s there

  -- after all others too
  references_from-old : (rs : List ℕ) (r : ℕ) (infos : List RefInfo) (s : ℕ) → Contains rs s → Contains (references_from meta g own_links rs r infos) s
  references_from-old rs r [] s there = there
  references_from-old rs r (info ∷ infos) s there =
      references_from-old (with_reference meta (target_names g r own_links) rs r) (r + 1) infos s (with_reference-old (target_names g r own_links) rs r s there)

  -- a reference with a link is put in
  with_reference-new : (rs : List ℕ) (x : Link) → Contains own_links x → ((s : ℕ) → Contains rs s → HasLink own_links s)
      → Contains (with_reference meta (target_names g x.reference.0 own_links) rs x.reference.0) x.reference.0
  with_reference-new rs x own first = by (target_names g x.reference.0 own_links) refl
    where
      by : (names : List (List ℕ)) → target_names g x.reference.0 own_links ≡ names → Contains (with_reference meta names rs x.reference.0) x.reference.0
      by [] e =
          let there = Contains-map (λ (link : Link). name_of g link.target) (filter (λ link. link.reference.0 == x.reference.0) own_links) x
          (Contains-filter (λ link. link.reference.0 == x.reference.0) own_links x own (eq-eqb x.reference.0 x.reference.0 refl)) in
          absurd (Contains-nil (name_of g x.target) (subst (λ l. Contains l (name_of g x.target)) e there))
      by (t ∷ ts) e = Contains-insert_key_here (by_key (reference_name meta)) x.reference.0 rs
          (λ s among same. exact-own x.reference.0 s (record { link = x; there = own; is = refl }) (first s among) same)

  -- and stands after all others
  references_from-new : (rs : List ℕ) (r k : ℕ) (infos : List RefInfo) (x : Link) → Contains own_links x → ((s : ℕ) → Contains rs s → HasLink own_links s)
      → x.reference.0 ≡ r + k → k < length infos → Contains (references_from meta g own_links rs r infos) x.reference.0
  references_from-new rs r k [] x own first at below = absurd (omega (arith, below))
  references_from-new rs r zero (info ∷ infos) x own first at below =
      let here : x.reference.0 ≡ r = omega arith in
      references_from-old (with_reference meta (target_names g r own_links) rs r) (r + 1) infos x.reference.0
      (subst (λ n. Contains (with_reference meta (target_names g n own_links) rs n) x.reference.0) here (with_reference-new rs x own first))
  references_from-new rs r (suc k) (info ∷ infos) x own first at below =
      references_from-new (with_reference meta (target_names g r own_links) rs r) (r + 1) k infos x own (among-with_reference rs r first) (omega arith) (omega (arith, below))

  pub Contains-references_by_key : (x : Link) → Contains own_links x → Contains (references_by_key meta g o) x.reference.0
  Contains-references_by_key x own = references_from-new [] 0 x.reference.0 meta.references x own (λ s there. absurd (Contains-nil s there)) (omega arith) (reference-own x own)
