-- A deletion by its steps: what its edit says, and what is kept.
use Rattle.std.proofs.Common.{◌≡◌, List, [], ◌++◌, map, reverse, sym, ap, subst, ◌∙◌}
use Rattle.std.specs.Prelude.{All, Contains, filter, fold, Bool, option_map}
use Rattle.std.specs.List.Sorted.{IsStrictlySortedBy}
use Rattle.std.proofs.lemmas.List.Elements.{All-contains}
use Rattle.std.proofs.lemmas.List.Kept.{IsStrictlySortedBy-filter}
use Rattle.vt_base.specs.declared.numbers.ObjId.{ObjId}
use Rattle.vt_model.specs.Containing.{is_inside}
use Rattle.vt_model.specs.Deleting.{deleted}
use Rattle.vt_model.specs.Fits.{FitsAttribute}
use Rattle.vt_model.specs.Valid.{object_order, IsValid}
use Rattle.vt_model.specs.declared.model.Object.{Object}
use Rattle.vt_model.specs.declared.model.AttributeValue.{AttributeValue}
use Rattle.vt_model.specs.declared.model.Link.{Link}
use Rattle.vt_facts.proofs.MemberLemmas.{All-from_contains, Contains-from_filter}
use Rattle.vt_graph.specs.Held.{Held, Buried}
use Rattle.vt_graph.specs.Having.{HasAttribute}
use Rattle.vt_graph.specs.Room.{KeepsRoom}
use Rattle.vt_store.specs.Edits.{same_value, edit_of}
use Rattle.vt_store.specs.Inside.Assigned.{without_values}
use Rattle.vt_store.specs.Inside.Kept.{objects_of, waiting_place, AreOf, gone_of, deletion_edit}
use Rattle.vt_store.specs.Inside.Levels.{numbers, objects_inside, touches, without_link, buried, CanBury}
use Rattle.vt_store.specs.Inside.Waiting.{BuriesAll, HasClasses}
use Rattle.vt_store.proofs.Linking.Anew.{KeepsRoom-then}
use Rattle.vt_store.proofs.Reverted.Values.{without_values_is}
use Rattle.vt_store.proofs.Deleting.Buried.{object_at-live}
use Rattle.vt_store.proofs.Deleting.Burying.{CanBury-start}
use Rattle.vt_store.proofs.Deleting.Edit.{without-filter, edit_of_deleted}
use Rattle.vt_store.proofs.Deleting.Same.{TellsEqual-value}
use Rattle.vt_store.proofs.Deleting.Steps.{links_gone, values_gone, links_dropped, all_buried}
use Rattle.vt_store.proofs.Deleting.Waiting.{buries_meta, buries_model, buries_of, buries_objects, buries_kept, buries_room, waiting_classes}

-- what a deletion comes to: the model and the edit; what waits is of the metamodel; the classes of what went are kept, and wait; no object has less room
pub record IsDeleted (old new : Held) (o : ObjId) (values : List AttributeValue) (links : List Link) (bs : List Buried) : Type 0 where
  pub meta : new.meta ≡ old.meta
  pub model : new.model ≡ deleted old.meta old.model o
  pub of : AreOf new.meta bs
  pub edit : deletion_edit new.model.next bs values links ≡ edit_of old.model (deleted old.meta old.model o)
  pub kept : HasClasses new.places (objects_of bs)
  pub waits : HasClasses (map waiting_place bs) (objects_of bs)
  pub room : KeepsRoom old.places (map waiting_place bs ++ new.places)

module _ (old : Held) (o : ObjId) (valid : IsValid old.meta old.model) where
  -- ---- the steps

  -- the value's object is inside
  abbrev inside : AttributeValue → Bool
  inside t = is_inside old.meta old.model t.object o

  -- the links go
  pub links_left : (k : Held) (links gone : List Link) → links ≡ filter (touches old.meta old.model o) old.model.links → gone ≡ links
      → k.model ≡ fold without_link old.model (reverse gone) → k.model ≡ links_gone old.meta old.model o
  links_left k links gone touched same went = went ∙ links_dropped old.meta old.model o gone (same ∙ touched)

  -- then each value inside is one that its object has
  value_had : (t : AttributeValue) → Contains old.model.values t → HasAttribute old.meta (links_gone old.meta old.model o) t.object t.attribute
  value_had t there =
      let fits = All-contains (FitsAttribute old.meta old.model.live) old.model.values t valid.values_fit there in
      let owner = fits.owner in
      record {
        class = owner.own;
        info = fits.info;
        live = ap (option_map (λ (x : Object). x.class)) (object_at-live old.model valid.objects_rise (record { number = t.object; name = owner.is_live.name; class = owner.own }) owner.is_live.there);
        declared = fits.declared;
        has = owner.below;
      }

  pub values_had : (k : Held) (values taken : List AttributeValue) → k.meta ≡ old.meta → k.model ≡ links_gone old.meta old.model o → values ≡ filter inside old.model.values → taken ≡ values
      → All (λ t. HasAttribute k.meta k.model t.object t.attribute) taken
  values_had k values taken meta left are same = All-from_contains (λ t. HasAttribute k.meta k.model t.object t.attribute) taken
      (λ t there. subst (λ m. HasAttribute m k.model t.object t.attribute) (sym meta) (subst (λ g. HasAttribute old.meta g t.object t.attribute) (sym left)
      (value_had t (Contains-from_filter inside old.model.values t (subst (λ l. Contains l t) (same ∙ are) there)).0)))

  -- the values go
  pub values_left : (k j : Held) (values taken : List AttributeValue) → k.model ≡ links_gone old.meta old.model o → values ≡ filter inside old.model.values → taken ≡ values
      → j.model ≡ without_values k.model taken → j.model ≡ values_gone old.meta old.model o
  values_left k j values taken left are same went =
      let g = links_gone old.meta old.model o in
      went ∙ ap (λ h. without_values h taken) left ∙ ap (without_values g) (same ∙ are)
      ∙ without_values_is g (filter inside old.model.values) valid.values_rise (λ t there. (Contains-from_filter inside old.model.values t there).0)
      ∙ ap (λ vs. record g { values = vs }) (without-filter same_value TellsEqual-value inside old.model.values)

  -- then what is inside can be buried
  pub can_bury : (j : Held) (found gone : List ObjId) → j.model ≡ values_gone old.meta old.model o → found ≡ numbers (objects_inside old.meta old.model o) → gone ≡ found → CanBury j.model gone
  can_bury j found gone left is same = subst (λ g. CanBury g gone) (sym left) (CanBury-start old.meta old.model o valid gone (same ∙ is))

  -- ---- all of them

  module _ (j new : Held) (found gone : List ObjId) (bs : List Buried) (left : j.model ≡ values_gone old.meta old.model o)
      (is : found ≡ numbers (objects_inside old.meta old.model o)) (same : gone ≡ found) (steps : BuriesAll j gone bs new) where
    -- what waits are the objects inside
    objects_wait : objects_of bs ≡ objects_inside old.meta old.model o
    objects_wait = buries_objects j (objects_inside old.meta old.model o) bs new (subst (λ xs. BuriesAll j xs bs new) (same ∙ is) steps)
        (subst (IsStrictlySortedBy object_order) (sym live) valid.objects_rise)
        (IsStrictlySortedBy-filter object_order (λ x. is_inside old.meta old.model x.number o) old.model.live valid.objects_rise)
        (λ y there. subst (λ l. Contains l y) (sym live) (Contains-from_filter (λ x. is_inside old.meta old.model x.number o) old.model.live y there).0)
      where
        live : j.model.live ≡ old.model.live
        live = ap (λ g. g.live) left

    objects_wait_rise : IsStrictlySortedBy object_order (objects_of bs)
    objects_wait_rise = subst (IsStrictlySortedBy object_order) (sym objects_wait)
        (IsStrictlySortedBy-filter object_order (λ x. is_inside old.meta old.model x.number o) old.model.live valid.objects_rise)

    model_left : new.model ≡ deleted old.meta old.model o
    model_left = buries_model j gone bs new steps ∙ ap (λ g. fold buried g gone) left ∙ all_buried old.meta old.model o valid gone (same ∙ is)

    pub is_deleted : (k : Held) (values : List AttributeValue) (links : List Link) → k.meta ≡ old.meta → j.meta ≡ k.meta → KeepsRoom old.places k.places → j.places ≡ k.places
        → values ≡ filter inside old.model.values → links ≡ filter (touches old.meta old.model o) old.model.links → IsDeleted old new o values links bs
    is_deleted k values links meta meta_still room places are touched = record {
      meta = buries_meta j gone bs new steps ∙ meta_still ∙ meta;
      model = model_left;
      of = All-from_contains (λ b. b.meta ≡ new.meta) bs (λ b there. buries_of j gone bs new steps b there ∙ sym (buries_meta j gone bs new steps));
      edit = (λ i. record {
        next = (model_left i).next;
        live = record { added = []; removed = objects_wait i };
        gone = record { added = map gone_of (objects_wait i); removed = [] };
        values = record { added = []; removed = are i };
        links = record { added = []; removed = touched i };
      }) ∙ sym (edit_of_deleted old.meta old.model o valid);
      kept = buries_kept j gone bs new steps;
      waits = waiting_classes old.model bs objects_wait_rise;
      room = KeepsRoom-then old.places j.places (map waiting_place bs ++ new.places) (subst (KeepsRoom old.places) (sym places) room) (buries_room j gone bs new steps);
    }
