-- In an object that contains nothing is none but itself.
use Rattle.std.proofs.Common.{◌≡◌, ℕ, zero, suc, List, [], ◌∷◌, ◌++◌, filter, length, refl, sym, ap, subst, ◌∙◌, Bool, true, false, Option, Some, None}
use Rattle.std.specs.Prelude.{◌==◌, ◌&&◌, ◌||◌, find, Contains, if◌then◌else◌, option_map}
use Rattle.std.specs.List.{flat_map}
use Rattle.std.specs.Option.{option_map_or}
use Rattle.std.proofs.lemmas.Bool.{and_parts, and_from}
use Rattle.vt_base.specs.declared.numbers.ObjId.{ObjId}
use Rattle.vt_base.specs.declared.numbers.RefId.{RefId}
use Rattle.vt_model.specs.Metamodel.{Metamodel}
use Rattle.vt_model.specs.Model.{Model}
use Rattle.vt_model.specs.Linking.{is_containment}
use Rattle.vt_model.specs.Containing.{is_within, is_inside, is_circular}
use Rattle.vt_model.specs.Valid.{IsValid}
use Rattle.vt_model.specs.declared.model.Link.{Link}
use Rattle.vt_facts.proofs.MemberLemmas.{Contains-nil, Contains-map, Contains-filter, Contains-find}
use Rattle.vt_slots.specs.Ends.{EndList, ReferencesRise, objects_of}
use Rattle.vt_slots.specs.declared.slot.Side.TheVariants.{Outgoing}
use Rattle.vt_graph.specs.Asked.{others_at}
use Rattle.vt_store.specs.Inside.Displaced.{first_or, holder_in}
use Rattle.vt_store.specs.Inside.Levels.{holds_by, children, contained_in}
use Rattle.vt_store.proofs.Deleting.Sides.{children_outgoing}

-- what gives no first object gives none
none_held : (meta : Metamodel) (lists : List EndList) → holder_in (λ (e : EndList). e.reference) (λ e. e.objects) meta lists ≡ None → flat_map (contained_in meta) lists ≡ []
none_held meta [] none = refl
none_held meta (l ∷ ls) none = by (none_held meta ls) (is_containment meta l.reference) l.objects none
  where
    by : (holder_in (λ (e : EndList). e.reference) (λ e. e.objects) meta ls ≡ None → flat_map (contained_in meta) ls ≡ []) → (b : Bool) (os : List ObjId)
        → (if b then first_or os (holder_in (λ (e : EndList). e.reference) (λ e. e.objects) meta ls) else holder_in (λ (e : EndList). e.reference) (λ e. e.objects) meta ls) ≡ None
        → ((if b then os else []) ++ flat_map (contained_in meta) ls) ≡ []
    by later true [] e = later e
    by later true (o ∷ os) e = cc
    by later false os e = later e

or_none : (b : Bool) → (b || false) ≡ b
or_none true = refl
or_none false = refl

module _ (meta : Metamodel) (g : Model) (outer : ObjId) (none : children meta g outer ≡ []) where
  -- it is the source of no containment
  apart : (l : Link) → Contains g.links l → is_containment meta l.reference ≡ true → (b : Bool) → (l.source.0 == outer.0) ≡ b → (l.source.0 == outer.0) ≡ false
  apart l there contains false is = is
  apart l there contains true is = absurd (Contains-nil l.target (subst (λ os. Contains os l.target) none
      (Contains-map (λ (k : Link). k.target) (filter (holds_by meta outer) g.links) l
      (Contains-filter (holds_by meta outer) g.links l there (and_from (l.source.0 == outer.0) (is_containment meta l.reference) is contains)))))

  -- so no steps lead to it
  within_childless : (n : ℕ) (o : ObjId) → is_within meta g n o outer ≡ (o.0 == outer.0)
  within_childless zero o = refl
  within_childless (suc n) o =
      ap (λ b. (o.0 == outer.0) || b) (by (within_childless n) (find (λ (link : Link). link.target.0 == o.0 && is_containment meta link.reference) g.links) refl) ∙ or_none (o.0 == outer.0)
    where
      by : ((h : ObjId) → is_within meta g n h outer ≡ (h.0 == outer.0)) → (f : Option Link)
          → find (λ (link : Link). link.target.0 == o.0 && is_containment meta link.reference) g.links ≡ f
          → option_map_or (λ h. is_within meta g n h outer) (option_map (λ (link : Link). link.source) f) false ≡ false
      by each None at = refl
      by each (Some l) at =
          let was = Contains-find (λ (link : Link). link.target.0 == o.0 && is_containment meta link.reference) g.links l at in
          let parts = and_parts (l.target.0 == o.0) (is_containment meta l.reference) was.1 in
          each l.source ∙ apart l was.0 parts.1 (l.source.0 == outer.0) refl

-- so only that object itself closes a cycle with it
pub circular_childless : (meta : Metamodel) (g : Model) → IsValid meta g → (link : Link) (lists : List EndList) → ReferencesRise lists
    → ((r : RefId) → objects_of lists r ≡ others_at g link.target Outgoing r) → is_containment meta link.reference ≡ true
    → holder_in (λ (e : EndList). e.reference) (λ e. e.objects) meta lists ≡ None → is_circular meta g link ≡ (link.source.0 == link.target.0)
circular_childless meta g valid link lists rise objects_are contains held =
    let none : children meta g link.target ≡ [] =
    sym (children_outgoing g link.target (λ (e : EndList). e.reference) (λ (e : EndList). e.objects) meta lists valid.links_rise rise objects_are) ∙ none_held meta lists held in
    ap (λ b. b && is_inside meta g link.source link.target) contains ∙ within_childless meta g link.target none (length g.live) link.source
