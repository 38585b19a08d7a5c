-- What is kept of a change, and what holds of it.
use Rattle.std.specs.List.Sorted.{IsStrictlySortedBy}
use Rattle.std.specs.Prelude.{◌≡◌, ℕ, ◌<◌, ◌≤◌, List, [], ◌∷◌, map, All, Contains, Option, None, Some, IsSome, option_to_list}
use Rattle.vt_model.specs.Metamodel.{Metamodel}
use Rattle.vt_model.specs.Model.{Model}
use Rattle.vt_model.specs.declared.model.Object.{Object}
use Rattle.vt_model.specs.declared.model.GoneObject.{GoneObject}
use Rattle.vt_model.specs.declared.model.AttributeValue.{AttributeValue}
use Rattle.vt_model.specs.declared.model.Link.{Link}
use Rattle.vt_model.specs.Deleting.{gone_order}
use Rattle.vt_model.specs.Valid.{object_order}
use Rattle.vt_graph.specs.Held.{Held, Place, Buried}
use Rattle.vt_graph.specs.Asked.{live_at}
use Rattle.vt_graph.specs.Room.{class_kept}
use Rattle.vt_graph.specs.Passing.{HasNoLinks, IsLast, with_retracted, with_raised}
use Rattle.vt_store.specs.Edits.{ListChange, Edit}
use Rattle.vt_store.specs.Inside.Displaced.{no_change}

-- ---- what is kept

-- what stays of a deleted object
abbrev pub gone_of : Object → GoneObject
gone_of o = record { number = o.number; name = o.name }

-- the objects that were deleted
abbrev pub objects_of : List Buried → List Object
objects_of deleted = map (λ b. b.object) deleted

-- the place of a deleted object, with the lists that wait
abbrev pub waiting_place : Buried → Place
waiting_place b = record { object = b.object.number; class = b.object.class; outgoing = b.outgoing; incoming = b.incoming }

-- the change of each list
abbrev pub kept_edit : ℕ → Option Object → List Buried → ListChange AttributeValue → ListChange Link → Edit
kept_edit next created deleted values links = record {
  next = next;
  live = record { added = option_to_list created; removed = objects_of deleted };
  gone = record { added = map gone_of (objects_of deleted); removed = [] };
  values = values;
  links = links;
}

-- an edit that takes out alone
abbrev pub deletion_edit : ℕ → List Buried → List AttributeValue → List Link → Edit
deletion_edit next deleted values links = kept_edit next None deleted (record { added = []; removed = values }) (record { added = []; removed = links })

-- an object came, with the values that it has from the beginning
abbrev pub creation : ℕ → Object → List AttributeValue → Edit
creation next object values = record {
  next = next;
  live = record { added = object ∷ []; removed = [] };
  gone = no_change;
  values = record { added = values; removed = [] };
  links = no_change;
}

-- ---- what holds of it

-- a created object has the next number or a greater one, and nothing was deleted with it
pub record IsFresh (next : ℕ) (deleted : List Buried) (o : Object) : Type 0 where
  pub above : next ≤ o.number.0
  pub alone : deleted ≡ []

-- the objects that wait are of the metamodel
abbrev pub AreOf : Metamodel → List Buried → Type 0
AreOf meta deleted = All (λ b. b.meta ≡ meta) deleted

-- ---- taking back what became of objects

-- the deleted objects live again, the last first
abbrev pub raised_back : Model → List Buried → Model
raised_back g [] = g
raised_back g (b ∷ bs) = with_raised (raised_back g bs) b.object

-- the created object was never made, or else the deleted ones live again; and the next number is as it was
abbrev pub settled : ℕ → Option Object → List Buried → Model → Model
settled next (Some o) deleted g = with_retracted g o.number next
settled next None deleted g = record (raised_back g deleted) { next = next }

-- ---- what has to hold so that it can be taken back

-- the objects rise and are deleted, and their classes are kept
pub record CanRaise (s : Held) (deleted : List Buried) : Type 0 where
  pub of : AreOf s.meta deleted
  pub rise : IsStrictlySortedBy object_order (objects_of deleted)
  pub gone_rise : IsStrictlySortedBy gone_order s.model.gone
  pub gone : (b : Buried) → Contains deleted b → Contains s.model.gone (gone_of b.object)
  pub kept : (b : Buried) → Contains deleted b → class_kept s.places b.object.number ≡ Some b.object.class

-- and once they live again all numbers are below the next one
pub record CanReturn (s : Held) (next : ℕ) (deleted : List Buried) : Type 0 where
  pub raise : CanRaise s deleted
  pub in_range : next ≤ 1048576
  pub live_below : All (λ o. o.number.0 < next) (raised_back s.model deleted).live
  pub gone_below : All (λ o. o.number.0 < next) (raised_back s.model deleted).gone

-- the object is the last one, and has no links
pub record CanRetract (s : Held) (next : ℕ) (deleted : List Buried) (o : Object) : Type 0 where
  pub live : IsSome (live_at s.model o.number)
  pub last : IsLast s.model o.number next
  pub above : next ≤ o.number.0
  pub no_links : HasNoLinks s.model o.number
  pub alone : deleted ≡ []

-- what became of objects can be taken back
abbrev pub CanSettle : Held → ℕ → Option Object → List Buried → Type 0
CanSettle s next (Some o) deleted = CanRetract s next deleted o
CanSettle s next None deleted = CanReturn s next deleted
