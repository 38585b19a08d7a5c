-- The links of a model fit in the room of its objects, and the class of each live object is kept.
use Rattle.std.proofs.Common.{◌≡◌, ℕ, ◌≤◌, List, [], length, refl, sym, ap, subst, ◌∙◌, Option, Some, None, option_map, option_and_then, unwrap_or, arith}
use Rattle.std.specs.Prelude.{◌==◌}
use Rattle.std.proofs.lemmas.List.Elements.{All-contains}
use Rattle.vt_base.specs.declared.numbers.ObjId.{ObjId}
use Rattle.vt_base.specs.declared.numbers.ClassId.{ClassId}
use Rattle.vt_base.specs.declared.numbers.RefId.{RefId}
use Rattle.vt_model.specs.Metamodel.{Metamodel}
use Rattle.vt_facts.proofs.MemberLemmas.{Contains-find}
use Rattle.vt_slots.specs.Ends.{EndList, list_of, objects_of, capacity_of}
use Rattle.vt_slots.specs.Slots.{slot_at, ends_at}
use Rattle.vt_slots.specs.declared.slot.Body.{Body}
use Rattle.vt_slots.specs.declared.slot.Slot.{Slot}
use Rattle.vt_graph.specs.Held.{Held}
use Rattle.vt_graph.specs.Asked.{class_at}
use Rattle.vt_graph.specs.Room.{HasRoom, class_kept, capacity_at}
use Rattle.vt_graph.specs.Inside.Indexed.{IsIndexed}
use Rattle.vt_graph.specs.Inside.Ended.{EndsFit}
use Rattle.vt_graph.proofs.ObjectLemmas.{class_at_slot}
use Rattle.vt_graph.proofs.Linked.Bare.{capacity_at_ends, class_kept_slot}
use Rattle.vt_graph.proofs.Linked.Held.{held_of, others_held}

-- the objects of a reference fit in its room
objects_fit : (lists : List EndList) (r : RefId) → EndsFit lists → length (objects_of lists r) ≤ capacity_of lists r
objects_fit lists r fit = by (list_of lists r) refl
  where
    by : (f : Option EndList) → list_of lists r ≡ f → length (unwrap_or (option_map (λ l. l.objects) f) []) ≤ unwrap_or (option_map (λ l. l.capacity) f) 0
    by None e = omega arith
    by (Some l) e = All-contains (λ m. length m.objects ≤ m.capacity) lists l fit (Contains-find (λ m. m.reference.0 == r.0) lists l e).0

module _ (meta : Metamodel) (next : ℕ) (slots : List Slot) (held : Held) (is : held_of meta next slots ≡ held) (indexed : IsIndexed meta next slots) where
  pub has_room : HasRoom held.places held.model
  has_room o side r live = subst (λ os. length os ≤ capacity_at held.places o side r) (others_held meta next slots held is indexed o side r)
      (subst (λ n. length (objects_of (ends_at slots o side) r) ≤ n) (sym (capacity_at_ends slots o side r) ∙ ap (λ (h : Held). capacity_at h.places o side r) is)
      (objects_fit (ends_at slots o side) r (indexed.room o side)))

  pub has_class : (o : ObjId) (c : ClassId) → class_at held.model o ≡ Some c → class_kept held.places o ≡ Some c
  has_class o c live =
      ap (λ (h : Held). class_kept h.places o) (sym is) ∙ class_kept_slot slots o
      ∙ by (slot_at slots o) (sym (class_at_slot next slots indexed.numbers_rise o) ∙ ap (λ (h : Held). class_at h.model o) is ∙ live)
    where
      of_body : (s : Slot) (b : Option Body) → option_map (λ (body : Body). s.class) b ≡ Some c → s.class ≡ c
      of_body s None e = cc
      of_body s (Some body) e = cc

      by : (f : Option Slot) → option_and_then (λ (s : Slot). option_map (λ (body : Body). s.class) s.body) f ≡ Some c → option_map (λ (s : Slot). s.class) f ≡ Some c
      by None e = cc
      by (Some s) e = ap Some (of_body s s.body e)
