-- What Link and Unlink do: which links they drop, and which they add.
use Rattle.std.specs.Prelude.{◌&&◌, ◌||◌, ◌==◌, List, Bool, false, not, filter, slice_get, if◌then◌else◌, Option, Some, None, option_map, option_and_then}
use Rattle.std.specs.List.{list_any}
use Rattle.std.specs.Option.{option_map_or}
use Rattle.std.specs.BTreeSet.{insert_key}
use Rattle.std.specs.declared.cmp.Ordering.{Ordering}
use Rattle.std.specs.Ordering.{nat_cmp, ordering_then}
use Rattle.vt_base.specs.declared.numbers.RefId.{RefId}
use Rattle.vt_model.specs.Metamodel.{Metamodel, isa}
use Rattle.vt_model.specs.Model.{Model}
use Rattle.vt_model.specs.declared.metamodel.Feature.{Feature}
use Rattle.vt_model.specs.declared.metamodel.Feature.TheVariants.{Attr, Ref}
use Rattle.vt_model.specs.declared.model.Object.{Object}
use Rattle.vt_model.specs.declared.model.Link.{Link}

-- ---- references

abbrev pub reference_of : Option Feature → Option RefId
reference_of None = None
reference_of (Some (Attr a)) = None
reference_of (Some (Ref r)) = Some r

abbrev pub is_many : Metamodel → RefId → Bool
is_many meta r = option_map_or (λ info. info.many) (slice_get meta.references r.0) false

abbrev pub is_containment : Metamodel → RefId → Bool
is_containment meta r = option_map_or (λ info. info.containment) (slice_get meta.references r.0) false

abbrev pub opposite_of : Metamodel → RefId → Option RefId
opposite_of meta r = option_and_then (λ info. info.opposite) (slice_get meta.references r.0)

-- it has an opposite, which leads to one object at most
abbrev pub has_single_opposite : Metamodel → RefId → Bool
has_single_opposite meta r = option_map_or (λ s. not (is_many meta s)) (opposite_of meta r) false

-- the object is of the class that the reference leads to
abbrev pub is_target : Metamodel → Option RefId → Option Object → Bool
is_target meta (Some r) (Some o) = option_map_or (λ info. isa meta o.class info.target) (slice_get meta.references r.0) false
is_target meta r o = false

-- ---- links

-- by source, then by reference, then by target
abbrev pub link_order : Link → Link → Ordering
link_order a b = ordering_then (nat_cmp a.source.0 b.source.0)
    (ordering_then (nat_cmp a.reference.0 b.reference.0) (nat_cmp a.target.0 b.target.0))

abbrev pub is_link : Link → Link → Bool
is_link a b = a.source.0 == b.source.0 && a.reference.0 == b.reference.0 && a.target.0 == b.target.0

-- the link stands already
abbrev pub stands : Model → Link → Bool
stands g link = list_any (is_link link) g.links

-- the same two objects by the opposite reference
abbrev pub link_back : Metamodel → Link → Option Link
link_back meta link = option_map (λ s. record { source = link.target; reference = s; target = link.source }) (opposite_of meta link.reference)

-- the containment of the two, where there is one
abbrev pub or_back : Metamodel → Link → Option Link → Link
or_back meta link None = link
or_back meta link (Some back) = if is_containment meta back.reference then back else link

-- a link whose opposite is a containment is made as that containment
abbrev pub oriented : Metamodel → Link → Link
oriented meta link = or_back meta link (link_back meta link)

-- ---- what a new link drops

-- an old target of a single reference; an old source of one whose opposite is single; an old container
abbrev pub displaces : Metamodel → Link → Link → Bool
displaces meta new old =
    (old.source.0 == new.source.0 && old.reference.0 == new.reference.0 && not (is_many meta new.reference))
    || (old.target.0 == new.target.0 && old.reference.0 == new.reference.0 && has_single_opposite meta new.reference)
    || (old.target.0 == new.target.0 && is_containment meta new.reference && is_containment meta old.reference)

-- or the opposite of such a link
abbrev pub is_dropped : Metamodel → Link → Link → Bool
is_dropped meta new old = displaces meta new old || option_map_or (displaces meta new) (link_back meta old) false

-- ---- the links afterwards

-- the link, and its opposite where it has one
abbrev pub with_back : List Link → Option Link → List Link
with_back links None = links
with_back links (Some back) = insert_key link_order links back

abbrev pub with_link : Metamodel → List Link → Link → List Link
with_link meta links link = with_back (insert_key link_order links link) (link_back meta link)

-- what is displaced goes, and the link comes
abbrev pub relinked : Metamodel → Model → Link → Model
relinked meta g link = record g { links = with_link meta (filter (λ old. not (is_dropped meta link old)) g.links) link }

-- nothing where it stands
abbrev pub linked : Metamodel → Model → Link → Model
linked meta g link = if stands g link then g else relinked meta g (oriented meta link)

-- the link and its opposite go
abbrev pub unlinked : Metamodel → Model → Link → Model
unlinked meta g link = record g { links = filter (λ old. not (is_link link old || option_map_or (is_link link) (link_back meta old) false)) g.links }
