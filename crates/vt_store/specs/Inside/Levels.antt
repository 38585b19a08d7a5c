-- What goes where an object is deleted: what is in it, level by level, and the links that touch it; and the steps by which it goes.
use Rattle.std.specs.List.Sorted.{IsStrictlySortedBy}
use Rattle.std.specs.declared.cmp.Ordering.{Ordering}
use Rattle.std.specs.Prelude.{◌≡◌, ◌⊎◌, ℕ, zero, suc, ◌&&◌, ◌||◌, ◌==◌, List, [], ◌∷◌, ◌++◌, map, filter, find, fold, Contains, Bool, not, Option, None, Some, if◌then◌else◌, option_map, option_and_then}
use Rattle.std.specs.List.{flat_map}
use Rattle.std.specs.Option.{option_to_list}
use Rattle.vt_base.specs.declared.numbers.ObjId.{ObjId}
use Rattle.vt_base.specs.declared.numbers.AttrId.{AttrId}
use Rattle.vt_base.specs.declared.numbers.RefId.{RefId}
use Rattle.vt_model.specs.Metamodel.{Metamodel}
use Rattle.vt_model.specs.Model.{Model}
use Rattle.vt_model.specs.Assigning.{is_value_of, without_value}
use Rattle.vt_model.specs.Linking.{is_containment, is_link}
use Rattle.vt_model.specs.Containing.{holder, is_inside}
use Rattle.vt_model.specs.Deleting.{with_gone}
use Rattle.vt_model.specs.declared.model.Object.{Object}
use Rattle.vt_model.specs.declared.model.AttributeValue.{AttributeValue}
use Rattle.vt_model.specs.declared.model.Link.{Link}
use Rattle.vt_slots.specs.Ends.{EndList, number_order}
use Rattle.vt_slots.specs.declared.slot.Side.{Side}
use Rattle.vt_slots.specs.declared.slot.Side.TheVariants.{Outgoing, Incoming}
use Rattle.vt_slots.specs.declared.values.Held.{Held}

-- ---- what is in an object

-- the link is one by which the object contains another
abbrev pub holds_by : Metamodel → ObjId → Link → Bool
holds_by meta p link = link.source.0 == p.0 && is_containment meta link.reference

-- what an object contains directly
abbrev pub children : Metamodel → Model → ObjId → List ObjId
children meta g p = map (λ link. link.target) (filter (holds_by meta p) g.links)

-- the objects of a list, where its reference is a containment
abbrev pub contained_in : Metamodel → EndList → List ObjId
contained_in meta list = if is_containment meta list.reference then list.objects else []

-- what the objects of a level contain directly
abbrev pub level_below : Metamodel → Model → List ObjId → List ObjId
level_below meta g level = flat_map (children meta g) level

-- a level and those below it, so many in all
abbrev pub levels_from : Metamodel → Model → ℕ → List ObjId → List ObjId
levels_from meta g zero level = []
levels_from meta g (suc n) level = level ++ levels_from meta g n (level_below meta g level)

-- the level so far below a level
abbrev pub level_at : Metamodel → Model → ℕ → List ObjId → List ObjId
level_at meta g zero level = level
level_at meta g (suc n) level = level_at meta g n (level_below meta g level)

-- what is reached by so many steps from an object to what holds it
abbrev pub holder_after : Metamodel → Model → ℕ → ObjId → Option ObjId
holder_after meta g zero x = Some x
holder_after meta g (suc n) x = option_and_then (holder meta g) (holder_after meta g n x)

-- the numbers of objects
abbrev pub numbers : List Object → List ObjId
numbers objects = map (λ x. x.number) objects

-- ---- what goes

-- the live objects that are an object or in it
abbrev pub objects_inside : Metamodel → Model → ObjId → List Object
objects_inside meta g o = filter (λ x. is_inside meta g x.number o) g.live

-- the link leads from or to what goes with an object
abbrev pub touches : Metamodel → Model → ObjId → Link → Bool
touches meta g o link = is_inside meta g link.source o || is_inside meta g link.target o

-- a link that leaves an object, and one that comes to it
abbrev pub leaving : ObjId → RefId → ObjId → Link
leaving x r y = record { source = x; reference = r; target = y }

abbrev pub coming : ObjId → RefId → ObjId → Link
coming x r y = record { source = y; reference = r; target = x }

-- a link at an object, on either side of it
abbrev pub link_on : Side → ObjId → RefId → ObjId → Link
link_on Outgoing x r y = leaving x r y
link_on Incoming x r y = coming x r y

-- the links that lists of ends stand for, each made of a reference and an object
abbrev pub links_of : (RefId → ObjId → Link) → List EndList → List Link
links_of make lists = flat_map (λ list. map (make list.reference) list.objects) lists

-- the objects at the other end of an object's links of a reference, on either side
abbrev pub targets_of : Model → ObjId → RefId → List ObjId
targets_of g x r = map (λ link. link.target) (filter (λ link. link.source.0 == x.0 && link.reference.0 == r.0) g.links)

abbrev pub sources_of : Model → ObjId → RefId → List ObjId
sources_of g x r = map (λ link. link.source) (filter (λ link. link.target.0 == x.0 && link.reference.0 == r.0) g.links)

-- the links are those that lead from an object or to it
pub record AreLinksAt (g : Model) (x : ObjId) (links : List Link) : Type 0 where
  pub stand : (link : Link) → Contains links link → Contains g.links link
  pub touch : (link : Link) → Contains links link → (link.source ≡ x) ⊎ (link.target ≡ x)
  pub leaves : (link : Link) → Contains g.links link → link.source ≡ x → Contains links link
  pub comes : (link : Link) → Contains g.links link → link.target ≡ x → Contains links link

-- the links at an object came to others
pub record AddsLinksAt (g : Model) (x : ObjId) (old new : List Link) : Type 0 where
  pub own : List Link
  pub added : new ≡ old ++ own
  pub are : AreLinksAt g x own

-- the links are those that lead from one of the objects or to one
pub record CollectsLinks (g : Model) (objects : List ObjId) (links : List Link) : Type 0 where
  pub stand : (link : Link) → Contains links link → Contains g.links link
  pub touch : (link : Link) → Contains links link → Contains objects link.source ⊎ Contains objects link.target
  pub leaves : (link : Link) → Contains g.links link → Contains objects link.source → Contains links link
  pub comes : (link : Link) → Contains g.links link → Contains objects link.target → Contains links link

-- the value at a place of an object
abbrev pub value_of : ObjId → Held → Option AttributeValue
value_of x place = option_map (λ v. record { object = x; attribute = place.attribute; value = v }) place.value

-- the values of an object
abbrev pub values_of : Model → ObjId → List AttributeValue
values_of g x = filter (λ t. t.object.0 == x.0) g.values

-- ---- the steps of a deletion

-- the model without a link
abbrev pub without_link : Model → Link → Model
without_link g link = record g { links = filter (λ old. not (is_link link old)) g.links }

-- the model without the value that an object has for an attribute
abbrev pub value_taken : ObjId → Model → AttrId → Model
value_taken x g a = without_value g x a

-- the model without the values that an object has for its attributes
abbrev pub values_taken : (ObjId → List AttrId) → Model → ObjId → Model
values_taken attributes g x = fold (value_taken x) g (attributes x)

-- the values that come out where they are taken in turn
abbrev pub values_out : ObjId → Model → List AttrId → List AttributeValue
values_out x g [] = []
values_out x g (a ∷ rest) = option_to_list (find (is_value_of x a) g.values) ++ values_out x (value_taken x g a) rest

-- the same over several objects
abbrev pub all_values_out : (ObjId → List AttrId) → Model → List ObjId → List AttributeValue
all_values_out attributes g [] = []
all_values_out attributes g (x ∷ rest) = values_out x g (attributes x) ++ all_values_out attributes (values_taken attributes g x) rest

-- the live object with a number
abbrev pub object_at : Model → ObjId → Option Object
object_at g x = find (λ y. y.number.0 == x.0) g.live

-- the model without a live object, whose number and name stay taken
abbrev pub without_object : Model → ObjId → Option Object → Model
without_object g x None = g
without_object g x (Some y) = record g { live = filter (λ z. not (z.number.0 == x.0)) g.live; gone = with_gone g.gone y }

abbrev pub buried : Model → ObjId → Model
buried g x = without_object g x (object_at g x)

-- the object lives, and has no link and no value
pub record IsBare (g : Model) (x : ObjId) : Type 0 where
  pub object : Object
  pub lives : object_at g x ≡ Some object
  pub no_link : (link : Link) → Contains g.links link → (link.source ≡ x → ⊥) × (link.target ≡ x → ⊥)
  pub no_value : (t : AttributeValue) → Contains g.values t → t.object ≡ x → ⊥

-- so do all of these, whose numbers rise
pub record CanBury (g : Model) (found : List ObjId) : Type 0 where
  pub bare : (x : ObjId) → Contains found x → IsBare g x
  pub rise : IsStrictlySortedBy number_order found

-- ---- lists in order

-- the same items in order, and none twice
pub record IsArranged {K : Type 0} (R : K → K → Ordering) (given arranged : List K) : Type 0 where
  pub rises : IsStrictlySortedBy R arranged
  pub kept : (x : K) → Contains given x → Contains arranged x
  pub stood : (x : K) → Contains arranged x → Contains given x
