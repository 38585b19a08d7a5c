-- Links found at the ends of a link, the model step by step as they go and come, and what an edit says of them.
use Rattle.std.specs.Prelude.{◌≡◌, ℕ, ◌&&◌, ◌==◌, List, [], ◌∷◌, ◌++◌, not, map, find, filter, fold, IsSome, Contains, if◌then◌else◌, Option, None, Some}
use Rattle.std.specs.List.{flat_map}
use Rattle.std.specs.List.Sorted.{IsStrictlySortedBy}
use Rattle.std.specs.BTreeSet.{insert_key}
use Rattle.vt_base.specs.declared.numbers.ObjId.{ObjId}
use Rattle.vt_base.specs.declared.numbers.RefId.{RefId}
use Rattle.vt_model.specs.Metamodel.{Metamodel}
use Rattle.vt_model.specs.Model.{Model}
use Rattle.vt_model.specs.Linking.{is_many, is_containment, has_single_opposite, link_order, is_link, link_back}
use Rattle.vt_model.specs.declared.model.Object.{Object}
use Rattle.vt_model.specs.declared.model.Link.{Link}
use Rattle.vt_slots.specs.declared.slot.Side.{Side}
use Rattle.vt_store.specs.Edits.{ListChange, Edit}
use Rattle.vt_store.specs.Inside.Levels.{link_on}

-- ---- the other ends of the links at an object

abbrev pub targets_of : Model → ObjId → RefId → List ObjId
targets_of g o r = map (λ l. l.target) (filter (λ l. l.source.0 == o.0 && l.reference.0 == r.0) g.links)

abbrev pub sources_of : Model → ObjId → RefId → List ObjId
sources_of g o r = map (λ l. l.source) (filter (λ l. l.target.0 == o.0 && l.reference.0 == r.0) g.links)

-- ---- links with their opposites

abbrev pub beside : Link → Option Link → List Link
beside link None = link ∷ []
beside link (Some back) = link ∷ back ∷ []

-- a link, and its opposite where it has one
abbrev pub with_opposite : Metamodel → Link → List Link
with_opposite meta link = beside link (link_back meta link)

-- the links from an object to others
abbrev pub to_targets : Metamodel → ObjId → RefId → List ObjId → List Link
to_targets meta source r targets = flat_map (λ t. with_opposite meta (record { source = source; reference = r; target = t })) targets

-- the links from others to an object
abbrev pub from_sources : Metamodel → RefId → ObjId → List ObjId → List Link
from_sources meta r target sources = flat_map (λ s. with_opposite meta (record { source = s; reference = r; target = target })) sources

-- the links between an object and others, on either side of it
abbrev pub to_others : Side → Metamodel → ObjId → RefId → List ObjId → List Link
to_others side meta o r others = flat_map (λ x. with_opposite meta (link_on side o r x)) others

-- neither the link nor its opposite stands
pub record NoneStands (meta : Metamodel) (g : Model) (link : Link) : Type 0 where
  pub itself : Contains g.links link → ⊥
  pub opposite : (back : Link) → link_back meta link ≡ Some back → Contains g.links back → ⊥

-- ---- what is displaced

-- the old targets of a single reference
abbrev pub old_targets : Metamodel → Link → List ObjId → List Link
old_targets meta new targets = if is_many meta new.reference then [] else to_targets meta new.source new.reference targets

-- the old sources of one whose opposite is single
abbrev pub old_sources : Metamodel → Link → List ObjId → List Link
old_sources meta new sources = if has_single_opposite meta new.reference then from_sources meta new.reference new.target sources else []

-- the first object of a list, or what comes after it
abbrev pub first_or : List ObjId → Option ObjId → Option ObjId
first_or [] later = later
first_or (o ∷ objects) later = Some o

-- lists of objects, each with the reference that leads from them
module _ {E : Type 0} (reference : E → RefId) (objects : E → List ObjId) where
  -- the containments of one list
  abbrev pub held_from : Metamodel → ObjId → E → List Link
  held_from meta target list = if is_containment meta (reference list) then from_sources meta (reference list) target (objects list) else []

  -- the old containers
  abbrev pub old_containers : Metamodel → Link → List E → List Link
  old_containers meta new lists = if is_containment meta new.reference then flat_map (held_from meta new.target) lists else []

  -- all that a new link displaces, each with its opposite, in any order
  abbrev pub candidates : Metamodel → Link → List ObjId → List ObjId → List E → List Link
  candidates meta new targets sources lists = old_targets meta new targets ++ old_sources meta new sources ++ old_containers meta new lists

  -- what an object is in directly, by the lists of what leads to it
  abbrev pub holder_in : Metamodel → List E → Option ObjId
  holder_in meta [] = None
  holder_in meta (list ∷ lists) = if is_containment meta (reference list) then first_or (objects list) (holder_in meta lists) else holder_in meta lists

-- ---- live ends

-- the live object with a number
abbrev pub live_at : Model → ObjId → Option Object
live_at g o = find (λ x. x.number.0 == o.0) g.live

-- both ends of the link are live
pub record EndsLive (g : Model) (link : Link) : Type 0 where
  pub source : IsSome (live_at g link.source)
  pub target : IsSome (live_at g link.target)

-- ---- in order

-- the same links, in rising order and none twice
pub record IsArranged (given out : List Link) : Type 0 where
  pub rise : IsStrictlySortedBy link_order out
  pub among : (x : Link) → Contains out x → Contains given x
  pub kept : (x : Link) → Contains given x → Contains out x

-- ---- what changed

abbrev pub no_change : {T : Type 0} → ListChange T
no_change = record { added = []; removed = [] }

-- an edit of links alone
abbrev pub links_edit : ℕ → List Link → List Link → Edit
links_edit next added removed = record {
  next = next;
  live = no_change;
  gone = no_change;
  values = no_change;
  links = record { added = added; removed = removed };
}

-- ---- step by step

-- the model without a link
abbrev pub without_link : Model → Link → Model
without_link g gone = record g { links = filter (λ l. not (is_link gone l)) g.links }

-- without several, of which the first goes first
abbrev pub without_each : Model → List Link → Model
without_each g gone = fold without_link g gone

-- without several, of which the last goes first
abbrev pub without_back : Model → List Link → Model
without_back g [] = g
without_back g (link ∷ links) = without_link (without_back g links) link

-- the model with a link
abbrev pub with_one : Model → Link → Model
with_one g link = record g { links = insert_key link_order g.links link }

-- with several
abbrev pub with_each : Model → List Link → Model
with_each g links = fold with_one g links

-- links are to come to the one model that make it the other: they rise, and none of them stands yet
pub record IsReturning (whole now : Model) (links : List Link) : Type 0 where
  pub now_rises : IsStrictlySortedBy link_order now.links
  pub links_rise : IsStrictlySortedBy link_order links
  pub fresh : (link : Link) → Contains links link → Contains now.links link → ⊥
  pub comes : with_each now links ≡ whole
  pub live : now.live ≡ whole.live
