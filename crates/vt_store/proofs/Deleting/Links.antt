-- The links that touch what goes with an object, collected object by object.
use Rattle.std.proofs.Common.{◌≡◌, ℕ, ◌+◌, ◌<◌, List, [], ◌∷◌, ◌++◌, length, take, get_or, refl, sym, subst, true, inl, inr}
use Rattle.std.specs.Prelude.{filter, Contains}
use Rattle.std.specs.List.{flat_map}
use Rattle.std.proofs.lemmas.Bool.{or_cases, or_left, or_right}
use Rattle.std.proofs.lemmas.List.{take_more}
use Rattle.std.proofs.lemmas.List.Elements.{All-contains, Contains-append_left, Contains-append_right, Contains-append_cases, Contains-push, Contains-push_cases}
use Rattle.std.proofs.lemmas.List.Kept.{IsStrictlySortedBy-filter}
use Rattle.vt_base.specs.declared.numbers.ObjId.{ObjId}
use Rattle.vt_model.specs.Metamodel.{Metamodel}
use Rattle.vt_model.specs.Model.{Model}
use Rattle.vt_model.specs.Linking.{link_order}
use Rattle.vt_model.specs.Containing.{is_inside}
use Rattle.vt_model.specs.Fits.{FitsReference}
use Rattle.vt_model.specs.Valid.{IsValid}
use Rattle.vt_model.specs.declared.model.Link.{Link}
use Rattle.vt_facts.proofs.MemberLemmas.{Contains-nil, Contains-map, Contains-filter, Contains-from_filter}
use Rattle.vt_store.specs.Inside.Levels.{numbers, objects_inside, touches, AreLinksAt, AddsLinksAt, CollectsLinks, IsArranged}
use Rattle.vt_store.proofs.Deleting.Found.{Contains-objects_inside, is_inside-objects_inside}
use Rattle.vt_facts.proofs.RisingLemmas.{same_items}
use Rattle.vt_facts.proofs.ChosenLemmas.{Contains-flat_map, Contains-from_flat_map}
use Rattle.vt_graph.proofs.Linked.Stored.{link_order_total}

module _ (g : Model) where
  -- ---- object by object

  -- at the start there are none
  pub collects_none : CollectsLinks g [] []
  collects_none = record {
    stand = λ link there. absurd (Contains-nil link there);
    touch = λ link there. absurd (Contains-nil link there);
    leaves = λ link there from. absurd (Contains-nil link.source from);
    comes = λ link there to. absurd (Contains-nil link.target to);
  }

  -- then those at one object more
  collects_push : (objects : List ObjId) (links own : List Link) (x : ObjId) → CollectsLinks g objects links → AreLinksAt g x own → CollectsLinks g (objects ++ x ∷ []) (links ++ own)
  collects_push objects links own x before are = record {
    stand = λ link there. elim (Contains-append_cases links own link there) [ inl old ↦ before.stand link old | inr new ↦ are.stand link new ];
    touch = λ link there. elim (Contains-append_cases links own link there) [
      | inl old ↦ elim (before.touch link old) [
        | inl from ↦ inl (Contains-append_left objects (x ∷ []) link.source from)
        | inr to ↦ inr (Contains-append_left objects (x ∷ []) link.target to)
      ]
      | inr new ↦ elim (are.touch link new) [
        | inl from ↦ inl (subst (Contains (objects ++ x ∷ [])) (sym from) (Contains-push objects x))
        | inr to ↦ inr (subst (Contains (objects ++ x ∷ [])) (sym to) (Contains-push objects x))
      ]
    ];
    leaves = λ link there from. elim (Contains-push_cases objects x link.source from) [
      | inl old ↦ Contains-append_left links own link (before.leaves link there old)
      | inr is ↦ Contains-append_right links own link (are.leaves link there (sym is))
    ];
    comes = λ link there to. elim (Contains-push_cases objects x link.target to) [
      | inl old ↦ Contains-append_left links own link (before.comes link there old)
      | inr is ↦ Contains-append_right links own link (are.comes link there (sym is))
    ];
  }

  -- by the place of the object
  pub collects_more : (found : List ObjId) (i : ℕ) (d : ObjId) (links next : List Link) → i < length found → CollectsLinks g (take i found) links
      → AddsLinksAt g (get_or found i d) links next → CollectsLinks g (take (i + 1) found) next
  collects_more found i d links next more before adds = subst (λ l. CollectsLinks g (take (i + 1) found) l) (sym adds.added)
      (subst (λ l. CollectsLinks g l (links ++ adds.own)) (sym (take_more found i d more)) (collects_push (take i found) links adds.own (get_or found i d) before adds.are))

  -- the same at once
  collects_all : (at : ObjId → List Link) (found : List ObjId) → ((x : ObjId) → Contains found x → AreLinksAt g x (at x)) → CollectsLinks g found (flat_map at found)
  collects_all at found each = record {
    stand = λ link there. let by = Contains-from_flat_map at found link there in (each by.0 by.1).stand link by.2;
    touch = λ link there.
        let by = Contains-from_flat_map at found link there in
        elim ((each by.0 by.1).touch link by.2) [ inl from ↦ inl (subst (Contains found) (sym from) by.1) | inr to ↦ inr (subst (Contains found) (sym to) by.1) ];
    leaves = λ link there from. Contains-flat_map at found link.source link from ((each link.source from).leaves link there refl);
    comes = λ link there to. Contains-flat_map at found link.target link to ((each link.target to).comes link there refl);
  }

module _ (meta : Metamodel) (g : Model) (valid : IsValid meta g) where
  -- both ends of a link are live
  pub Contains-numbers-ends : (link : Link) → Contains g.links link → Contains (numbers g.live) link.source × Contains (numbers g.live) link.target
  Contains-numbers-ends link there =
      let fits = All-contains (FitsReference meta g.live) g.links link valid.links_fit there in
      let source = fits.source in
      let target = fits.target in (
        Contains-map (λ y. y.number) g.live (record { number = link.source; name = source.is_live.name; class = source.own }) source.is_live.there,
        Contains-map (λ y. y.number) g.live (record { number = link.target; name = target.is_live.name; class = target.own }) target.is_live.there,
      )

  module _ (o : ObjId) (found : List ObjId) (links : List Link) (is : found ≡ numbers (objects_inside meta g o)) where
    -- the links of the objects inside, put in order, are those that touch them
    pub touched_collected : (given : List Link) → CollectsLinks g found given → IsArranged link_order given links → links ≡ filter (touches meta g o) g.links
    touched_collected given collects arranged = same_items link_order link_order_total links (filter (touches meta g o) g.links) arranged.rises
        (IsStrictlySortedBy-filter link_order (touches meta g o) g.links valid.links_rise) there back
      where
        inside_found : (x : ObjId) → Contains found x → is_inside meta g x o ≡ true
        inside_found x stands = is_inside-objects_inside meta g o x (subst (λ l. Contains l x) is stands)

        found_inside : (x : ObjId) → Contains (numbers g.live) x → is_inside meta g x o ≡ true → Contains found x
        found_inside x stands inside = subst (λ l. Contains l x) (sym is) (Contains-objects_inside meta g o x stands inside)

        there : (link : Link) → Contains links link → Contains (filter (touches meta g o) g.links) link
        there link stands =
            let low = arranged.stood link stands in
            Contains-filter (touches meta g o) g.links link (collects.stand link low) (elim (collects.touch link low) [
              | inl from ↦ or_left (is_inside meta g link.source o) (is_inside meta g link.target o) (inside_found link.source from)
              | inr to ↦ or_right (is_inside meta g link.source o) (is_inside meta g link.target o) (inside_found link.target to)
            ])

        back : (link : Link) → Contains (filter (touches meta g o) g.links) link → Contains links link
        back link stands =
            let was = Contains-from_filter (touches meta g o) g.links link stands in
            let ends = Contains-numbers-ends link was.0 in
            arranged.kept link (elim (or_cases (is_inside meta g link.source o) (is_inside meta g link.target o) was.1) [
              | inl inside ↦ collects.leaves link was.0 (found_inside link.source ends.0 inside)
              | inr inside ↦ collects.comes link was.0 (found_inside link.target ends.1 inside)
            ])

    -- the same where the links at each object are a function of it
    pub touched_is : (at : ObjId → List Link) → ((x : ObjId) → Contains found x → AreLinksAt g x (at x)) → IsArranged link_order (flat_map at found) links
        → links ≡ filter (touches meta g o) g.links
    touched_is at each arranged = touched_collected (flat_map at found) (collects_all g at found each) arranged
