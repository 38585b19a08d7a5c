-- The link that three names ask for: it fits its reference where its target is of the right class.
use Rattle.std.proofs.Common.{◌≡◌, ℕ, List, refl, subst, true, false}
use Rattle.std.specs.Prelude.{slice_get, position, Option, Some, None, option_and_then}
use Rattle.std.specs.Option.{option_map_or}
use Rattle.std.proofs.lemmas.Bool.{and_parts}
use Rattle.vt_facts.specs.Parts.{◌>>=◌}
use Rattle.vt_base.specs.declared.numbers.ClassId.{ClassId}
use Rattle.vt_base.specs.declared.numbers.RefId.{RefId}
use Rattle.vt_model.specs.Metamodel.{Metamodel, isa, feature, or_reference, is_attribute_of, is_reference_of}
use Rattle.vt_facts.specs.Names.{is_name}
use Rattle.vt_model.specs.Model.{Model, object_named, feature_at}
use Rattle.vt_model.specs.Linking.{reference_of, is_target}
use Rattle.vt_model.specs.Effect.{link_asked}
use Rattle.vt_model.specs.Fits.{IsLive, FitsReference}
use Rattle.vt_model.specs.declared.metamodel.RefInfo.{RefInfo}
use Rattle.vt_model.specs.declared.model.Object.{Object}
use Rattle.vt_model.specs.declared.model.Link.{Link}
use Rattle.vt_model.proofs.Valid.Found.{IsLive-object_named}
use Rattle.vt_facts.proofs.PositionLemmas.{IsAt-position}

-- a class has a reference
record HasReference (meta : Metamodel) (c : ClassId) (r : RefId) : Type 0 where
  info : RefInfo
  declared : slice_get meta.references r.0 ≡ Some info
  below : isa meta c info.class ≡ true

-- a reference that a name finds in a class
HasReference-feature : (meta : Metamodel) (c : ClassId) (name : List ℕ) (r : RefId) → reference_of (feature meta c name) ≡ Some r → HasReference meta c r
HasReference-feature meta c name r e =
    let at = IsAt-position (is_reference_of meta c name) meta.references r.0 (place (position (is_attribute_of meta c name) meta.attributes) (position (is_reference_of meta c name) meta.references) e) in
    record { info = at.item; declared = at.there; below = (and_parts (isa meta c at.item.class) (is_name at.item.name name) at.passes).0 }
  where
    place : (a p : Option ℕ) → reference_of (or_reference a p) ≡ Some r → p ≡ Some r.0
    place (Some i) p e = cc
    place None None e = cc
    place None (Some i) e = cc

-- a link of the objects that two names find, by a reference that the class of the first has
pub record IsAsked (meta : Metamodel) (g : Model) (name reference target : List ℕ) (link : Link) : Type 0 where
  pub source : Object
  pub from : object_named g name ≡ Some source
  pub is_source : source.number ≡ link.source
  pub through : reference_of (feature_at meta g name reference) ≡ Some link.reference
  pub end : Object
  pub to : object_named g target ≡ Some end
  pub is_end : end.number ≡ link.target

module _ (meta : Metamodel) (g : Model) (name reference target : List ℕ) (link : Link) where
  -- the link that is asked for is such a link
  pub IsAsked-link_asked : link_asked meta g name reference target ≡ Some link → IsAsked meta g name reference target link
  IsAsked-link_asked e = by (object_named g name) (reference_of (feature_at meta g name reference)) (object_named g target) refl refl refl e
    where
      by : (s : Option Object) (r : Option RefId) (t : Option Object) → object_named g name ≡ s → reference_of (feature_at meta g name reference) ≡ r → object_named g target ≡ t
          → (s >>= (λ source. r >>= (λ r. t >>= (λ o. Some (record { source = source.number; reference = r; target = o.number }))))) ≡ Some link
          → IsAsked meta g name reference target link
      by None r t from through to e = cc
      by (Some source) None t from through to e = cc
      by (Some source) (Some r) None from through to e = cc
      by (Some source) (Some r) (Some o) from through to e =
          let is : record { source = source.number; reference = r; target = o.number } ≡ link = cc in
          subst (IsAsked meta g name reference target) is (record { source = source; from = from; is_source = refl; through = through; end = o; to = to; is_end = refl })

  -- the reference that is asked for is one of the class of the source
  HasReference-asked : (asked : IsAsked meta g name reference target link) → HasReference meta asked.source.class link.reference
  HasReference-asked asked = HasReference-feature meta asked.source.class reference link.reference
      (subst (λ s. reference_of (option_and_then (λ o. feature meta o.class reference) s) ≡ Some link.reference) asked.from asked.through)

  -- where the test passes its target, it fits its reference
  pub FitsReference-asked : IsAsked meta g name reference target link → is_target meta (reference_of (feature_at meta g name reference)) (object_named g target) ≡ true
      → FitsReference meta g.live link
  FitsReference-asked asked right =
      let has = HasReference-asked asked in
      let of_link : is_target meta (Some link.reference) (object_named g target) ≡ true = subst (λ r. is_target meta r (object_named g target) ≡ true) asked.through right in
      let of_end : is_target meta (Some link.reference) (Some asked.end) ≡ true = subst (λ o. is_target meta (Some link.reference) o ≡ true) asked.to of_link in
      record {
        info = has.info;
        declared = has.declared;
        source = record { own = asked.source.class; is_live = subst (λ n. IsLive g.live n asked.source.class) asked.is_source (IsLive-object_named g name asked.source asked.from); below = has.below };
        target = record {
          own = asked.end.class;
          is_live = subst (λ n. IsLive g.live n asked.end.class) asked.is_end (IsLive-object_named g target asked.end asked.to);
          below = subst (λ i. option_map_or (λ (info : RefInfo). isa meta asked.end.class info.target) i false ≡ true) has.declared of_end;
        };
      }
