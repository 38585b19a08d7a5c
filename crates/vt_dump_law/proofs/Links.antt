-- The links of a valid model are made one after the other, in any order.
use Rattle.std.proofs.Common.{◌≡◌, ℕ, List, [], ◌∷◌, map, refl, sym, ap, subst, ◌∙◌, Bool, true, false, not, ◌⊎◌, inl, inr}
use Rattle.std.specs.Prelude.{◌&&◌, ◌==◌, find, filter, slice_get, Contains, Some, Ok, option_map, unwrap_or, if◌then◌else◌}
use Rattle.std.specs.List.{list_any}
use Rattle.std.specs.Option.{option_map_or}
use Rattle.std.proofs.lemmas.Bool.{and_parts, and_right, eqb-true, not_from_false}
use Rattle.std.proofs.lemmas.List.Elements.{All-contains}
use Rattle.std.proofs.lemmas.List.Folds.{Any-from_list_any}
use Rattle.vt_model.specs.Metamodel.{Metamodel, isa, feature}
use Rattle.vt_facts.specs.Names.{is_name}
use Rattle.vt_model.specs.Model.{Model, object_named}
use Rattle.vt_model.specs.Linking.{is_target, is_link, stands, oriented, is_dropped, relinked, linked}
use Rattle.vt_model.specs.Containing.{is_circular, closes_cycle}
use Rattle.vt_model.specs.Effect.{unless_refused, effect}
use Rattle.vt_model.specs.Fits.{FitsReference}
use Rattle.vt_model.specs.Sound.{IsSound}
use Rattle.vt_model.specs.Valid.{IsValid, HasItsOpposite}
use Rattle.vt_model.specs.declared.metamodel.RefInfo.{RefInfo}
use Rattle.vt_model.specs.declared.metamodel.Feature.TheVariants.{Ref}
use Rattle.vt_model.specs.declared.model.Object.{Object}
use Rattle.vt_model.specs.declared.model.Link.{Link}
use Rattle.vt_model.specs.declared.change.Change.{Change}
use Rattle.vt_model.specs.declared.change.Change.TheVariants as change
use Rattle.vt_model.specs.declared.change.Refusal.TheVariants.{ContainmentCycle}
use Rattle.vt_facts.specs.Firsts.{first_of}
use Rattle.vt_model.proofs.Valid.{IsValid-effect}
use Rattle.vt_model.proofs.Valid.Sides.{LinkSide, LinkSide-valid}
use Rattle.vt_model.proofs.Valid.Backs.{oriented-either, IsBack-link_back}
use Rattle.vt_model.proofs.Valid.Containment.{same_object}
use Rattle.vt_model.proofs.Valid.Dropped.{Comes}
use Rattle.vt_model.proofs.Valid.WithLink.{Contains-with_link_cases, Contains-with_link_old, Contains-with_link_new}
use Rattle.vt_model_json.specs.Dump.{name_of}
use Rattle.vt_dump_law.proofs.EffectLemmas.{link_made}
use Rattle.vt_dump_law.proofs.Made.{Makes}
use Rattle.vt_dump_law.proofs.Displaced.{same_reference, same_link, is_dropped-comes, straight}
use Rattle.vt_dump_law.proofs.Names.{object_named-live, name_of-live, class-live, feature-reference}
use Rattle.vt_facts.proofs.MemberLemmas.{Contains-head, Contains-behind, Contains-nil, Contains-cons_cases, Contains-filter, Contains-from_filter}

-- the name of the reference with this number
abbrev pub reference_name : Metamodel → ℕ → List ℕ
reference_name meta r = unwrap_or (option_map (λ info. info.name) (slice_get meta.references r)) []

-- the change that makes a link of a model
abbrev pub linking : Metamodel → Model → Link → Change
linking meta g x = change.Link (name_of g x.source) (reference_name meta x.reference.0) (name_of g x.target)

-- a link that stands is among the links
Contains-stands : (links : List Link) (x : Link) → list_any (is_link x) links ≡ true → Contains links x
Contains-stands links x e =
    let at = Any-from_list_any (is_link x) links e in
    let parts = and_parts (x.source.0 == at.1.source.0 && x.reference.0 == at.1.reference.0) (x.target.0 == at.1.target.0) at.4 in
    let both = and_parts (x.source.0 == at.1.source.0) (x.reference.0 == at.1.reference.0) parts.0 in
    let same : at.1 ≡ x = same_link at.1 x
    (sym (same_object x.source at.1.source (eqb-true x.source.0 at.1.source.0 both.0)))
    (sym (same_reference x.reference at.1.reference (eqb-true x.reference.0 at.1.reference.0 both.1)))
    (sym (same_object x.target at.1.target (eqb-true x.target.0 at.1.target.0 parts.1))) in
    subst (Contains links) same (at.0, at.2, at.3)

-- a model with the objects and values of another one, and some of its links
pub record HasSomeLinks (meta : Metamodel) (g h : Model) : Type 0 where
  pub live : h.live ≡ g.live
  pub gone : h.gone ≡ []
  pub values : h.values ≡ g.values
  pub valid : IsValid meta h
  pub among : (x : Link) → Contains h.links x → Contains g.links x

-- such a model, to which some links were added
pub record LinksMade (meta : Metamodel) (g : Model) (todo : List Link) (h : Model) : Type 0 where
  pub after : Model
  pub made : Makes meta h (map (linking meta g) todo) after
  pub has : HasSomeLinks meta g after
  pub old : (x : Link) → Contains h.links x → Contains after.links x
  pub new : (x : Link) → Contains todo x → Contains after.links x

module _ (meta : Metamodel) (sound : IsSound meta) (g : Model) (valid : IsValid meta g) where
  abbrev side : LinkSide meta g
  side = LinkSide-valid meta g valid

  -- a link as it is made is one of the model's
  Contains-oriented : (x : Link) → Contains g.links x → Contains g.links (oriented meta x)
  Contains-oriented x there = oriented-either meta (Contains g.links) x there (All-contains (HasItsOpposite meta g) g.links x valid.opposites there)

  module _ (h : Model) (has : HasSomeLinks meta g h) (x : Link) (there : Contains g.links x) where
    -- ---- the change isn't refused

    -- the names of the ends find them
    named-live : (o : Object) → Contains g.live o → object_named h (name_of g o.number) ≡ Some o
    named-live o live =
        ap (object_named h) (name_of-live meta g valid o live)
        ∙ ap (find (λ (p : Object). is_name p.name o.name)) has.live
        ∙ object_named-live meta g valid o live

    -- it closes no cycle
    closes-no_cycle : closes_cycle meta h x ≡ false
    closes-no_cycle = and_right (not (stands h x)) (is_circular meta h (oriented meta x))
        (straight meta sound g side (oriented meta x) (Contains-oriented x there) h (LinkSide-valid meta h has.valid) has.among)

    effect-linking : effect meta h (linking meta g x) ≡ Ok (linked meta h x)
    effect-linking =
        let fits = All-contains (FitsReference meta g.live) g.links x valid.links_fit there in
        let a : Object = record { number = x.source; name = fits.source.is_live.name; class = fits.source.own } in
        let b : Object = record { number = x.target; name = fits.target.is_live.name; class = fits.target.own } in
        let name : reference_name meta x.reference.0 ≡ fits.info.name = ap (λ i. unwrap_or (option_map (λ (info : RefInfo). info.name) i) []) fits.declared in
        let found : feature meta a.class (reference_name meta x.reference.0) ≡ Some (Ref x.reference) =
        ap (feature meta a.class) name ∙ feature-reference meta sound a.class (class-live meta g valid a fits.source.is_live.there) x.reference fits.info fits.declared fits.source.below in
        let right : is_target meta (Some x.reference) (Some b) ≡ true = ap (λ i. option_map_or (λ (info : RefInfo). isa meta b.class info.target) i false) fits.declared ∙ fits.target.below in
        link_made meta h (name_of g x.source) (reference_name meta x.reference.0) (name_of g x.target) a b (Ref x.reference)
        (named-live a fits.source.is_live.there) (named-live b fits.target.is_live.there) found x.reference refl right
        ∙ ap (λ c. unless_refused (first_of ((c, ContainmentCycle) ∷ [])) (linked meta h x)) closes-no_cycle

    -- ---- the links afterwards

    abbrev new_link : Link
    new_link = oriented meta x

    abbrev kept : Link → Bool
    kept old = not (is_dropped meta new_link old)

    abbrev chosen : Bool → Model
    chosen b = if b then h else relinked meta h new_link

    -- what comes is one of the model's links
    among-Comes : (y : Link) → Comes meta new_link y → Contains g.links y
    among-Comes y (inl is) = subst (Contains g.links) is (Contains-oriented x there)
    among-Comes y (inr at) = All-contains (HasItsOpposite meta g) g.links new_link valid.opposites (Contains-oriented x there) y at

    linked-among : (b : Bool) (y : Link) → Contains (chosen b).links y → Contains g.links y
    linked-among true y stands = has.among y stands
    linked-among false y stands = elim (Contains-with_link_cases meta (filter kept h.links) new_link y stands) [
      | inl old ↦ has.among y (Contains-from_filter kept h.links y old).0
      | inr comes ↦ among-Comes y comes
    ]

    linked-old : (b : Bool) (y : Link) → Contains h.links y → Contains (chosen b).links y
    linked-old true y stands = stands
    linked-old false y stands = by (is_dropped meta new_link y) refl
      where
        by : (d : Bool) → is_dropped meta new_link y ≡ d → Contains (chosen false).links y
        by true dropped = Contains-with_link_new meta (filter kept h.links) new_link y
            (is_dropped-comes meta sound g side new_link (Contains-oriented x there) y (has.among y stands) dropped)
        by false stays = Contains-with_link_old meta (filter kept h.links) new_link y (Contains-filter kept h.links y stands (not_from_false (is_dropped meta new_link y) stays))

    -- the link is what comes, or its opposite
    comes-oriented : Comes meta new_link x
    comes-oriented = oriented-either meta (λ new. Comes meta new x) x (inl refl) (λ back at. inr (IsBack-link_back meta sound x back at).forth)

    linked-new : (b : Bool) → stands h x ≡ b → Contains (chosen b).links x
    linked-new true e = Contains-stands h.links x e
    linked-new false e = Contains-with_link_new meta (filter kept h.links) new_link x comes-oriented

    -- nothing else changes
    chosen-live : (b : Bool) → (chosen b).live ≡ h.live
    chosen-live true = refl
    chosen-live false = refl

    chosen-gone : (b : Bool) → (chosen b).gone ≡ h.gone
    chosen-gone true = refl
    chosen-gone false = refl

    chosen-values : (b : Bool) → (chosen b).values ≡ h.values
    chosen-values true = refl
    chosen-values false = refl

    HasSomeLinks-linked : HasSomeLinks meta g (linked meta h x)
    HasSomeLinks-linked = record {
      live = chosen-live (stands h x) ∙ has.live;
      gone = chosen-gone (stands h x) ∙ has.gone;
      values = chosen-values (stands h x) ∙ has.values;
      valid = IsValid-effect meta h (linked meta h x) (linking meta g x) sound has.valid tt effect-linking;
      among = linked-among (stands h x);
    }

  -- all links of a list that are the model's
  pub make_links : (todo : List Link) → ((x : Link) → Contains todo x → Contains g.links x) → (h : Model) → HasSomeLinks meta g h → LinksMade meta g todo h
  make_links [] each h has = record { after = h; made = refl; has = has; old = λ x there. there; new = λ x there. absurd (Contains-nil x there) }
  make_links (x ∷ todo) each h has =
      let here = each x (Contains-head x todo) in
      let next = linked meta h x in
      let rest = make_links todo (λ y there. each y (Contains-behind x y todo there)) next (HasSomeLinks-linked h has x here) in
      record {
        after = rest.after;
        made = (next, effect-linking h has x here, rest.made);
        has = rest.has;
        old = λ y there. rest.old y (linked-old h has x here (stands h x) y there);
        new = λ y there. by rest.after rest.new rest.old (linked-new h has x here (stands h x) refl) y (Contains-cons_cases x y todo there);
      }
    where
      by : (after : Model) → ((y : Link) → Contains todo y → Contains after.links y) → ((z : Link) → Contains (linked meta h x).links z → Contains after.links z)
          → Contains (linked meta h x).links x → (y : Link) → (x ≡ y) ⊎ Contains todo y → Contains after.links y
      by after new old here y (inl is) = subst (Contains after.links) is (old x here)
      by after new old here y (inr later) = new y later
