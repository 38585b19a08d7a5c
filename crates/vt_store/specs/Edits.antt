-- Edits: what a change put into a model and what it took out, and the model without it.
use Rattle.std.specs.Prelude.{ℕ, ◌&&◌, ◌==◌, List, Bool, not, filter, fold, Contains}
use Rattle.std.specs.List.{list_any}
use Rattle.std.specs.BTreeSet.{insert_key}
use Rattle.std.specs.declared.cmp.Ordering.{Ordering}
use Rattle.std.specs.Ordering.{eq_by_cmp}
use Rattle.vt_base.specs.Order.{value_cmp}
use Rattle.vt_facts.specs.Names.{is_name}
use Rattle.vt_model.specs.Model.{Model}
use Rattle.vt_model.specs.Assigning.{value_order}
use Rattle.vt_model.specs.Linking.{link_order, is_link}
use Rattle.vt_model.specs.Deleting.{gone_order}
use Rattle.vt_model.specs.Valid.{object_order}
use Rattle.vt_model.specs.declared.model.Object.{Object}
use Rattle.vt_model.specs.declared.model.GoneObject.{GoneObject}
use Rattle.vt_model.specs.declared.model.AttributeValue.{AttributeValue}
use Rattle.vt_model.specs.declared.model.Link.{Link}

-- what came into a list, and what went out of it
pub record ListChange (T : Type 0) : Type 0 where
  pub added : List T
  pub removed : List T

-- the number before that the next object was to get, and what came into each list and went out of it
pub record Edit : Type 0 where
  pub next : ℕ
  pub live : ListChange Object
  pub gone : ListChange GoneObject
  pub values : ListChange AttributeValue
  pub links : ListChange Link

-- ---- the same in all parts

abbrev pub same_object : Object → Object → Bool
same_object o p = o.number.0 == p.number.0 && is_name o.name p.name && o.class.0 == p.class.0

abbrev pub same_gone : GoneObject → GoneObject → Bool
same_gone o p = o.number.0 == p.number.0 && is_name o.name p.name

abbrev pub same_value : AttributeValue → AttributeValue → Bool
same_value t u = t.object.0 == u.object.0 && t.attribute.0 == u.attribute.0 && eq_by_cmp value_cmp t.value u.value

abbrev pub same_link : Link → Link → Bool
same_link = is_link

-- ---- what changed

-- what one of the list is not in the other
abbrev pub without : {T : Type 0} → (T → T → Bool) → List T → List T → List T
without same others list = filter (λ x. not (list_any (same x) others)) list

-- what stands after and didn't before, and what stood before and doesn't after
abbrev pub net : {T : Type 0} → (T → T → Bool) → List T → List T → ListChange T
net same before after = record { added = without same before after; removed = without same after before }

-- what changed from one model to another
abbrev pub edit_of : Model → Model → Edit
edit_of before after = record {
  next = before.next;
  live = net same_object before.live after.live;
  gone = net same_gone before.gone after.gone;
  values = net same_value before.values after.values;
  links = net same_link before.links after.links;
}

-- what came stands after and didn't before, and what went stood before and doesn't after
pub record TellsApart {T : Type 0} (before after : List T) (change : ListChange T) : Type 0 where
  pub added_stands : (x : T) → Contains change.added x → Contains after x
  pub added_is_new : (x : T) → Contains change.added x → Contains before x → ⊥
  pub removed_stood : (x : T) → Contains change.removed x → Contains before x
  pub removed_is_gone : (x : T) → Contains change.removed x → Contains after x → ⊥

-- ---- taking it back

-- what was put in goes, and what was taken out comes back to its place in the order
abbrev pub undone_list : {T : Type 0} → (T → T → Ordering) → (T → T → Bool) → List T → ListChange T → List T
undone_list order same now change = fold (insert_key order) (without same change.added now) change.removed

-- the model without what an edit says
abbrev pub undone : Edit → Model → Model
undone edit g = record {
  next = edit.next;
  live = undone_list object_order same_object g.live edit.live;
  gone = undone_list gone_order same_gone g.gone edit.gone;
  values = undone_list value_order same_value g.values edit.values;
  links = undone_list link_order same_link g.links edit.links;
}
