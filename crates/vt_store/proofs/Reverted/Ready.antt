-- What each step needs by which an edit is taken back, and the room that they keep.
use Rattle.std.proofs.Common.{◌≡◌, ℕ, List, [], ◌∷◌, map, refl, sym, ap, subst, ◌∙◌, not, arith}
use Rattle.std.specs.BTreeSet.{insert_key}
use Rattle.std.specs.Prelude.{fold, ◌<◌, ◌≤◌, ◌≢◌, ◌==◌, All, Contains, find, is_some, IsSome, IfSome, option_map, Option, None, Some}
use Rattle.std.specs.List.{list_any}
use Rattle.std.specs.List.Sorted.{IsStrictlySortedBy}
use Rattle.std.proofs.lemmas.Bool.{eq-eqb}
use Rattle.std.proofs.lemmas.List.Elements.{All-contains}
use Rattle.std.proofs.lemmas.List.Kept.{IsStrictlySortedBy-filter}
use Rattle.vt_base.specs.declared.numbers.ObjId.{ObjId}
use Rattle.vt_base.specs.declared.numbers.AttrId.{AttrId}
use Rattle.vt_base.specs.declared.numbers.ClassId.{ClassId}
use Rattle.vt_model.specs.Metamodel.{Metamodel}
use Rattle.vt_model.specs.Model.{Model}
use Rattle.vt_model.specs.Linking.{link_order}
use Rattle.vt_model.specs.Fits.{IsLiveOf, FitsAttribute, FitsReference}
use Rattle.vt_model.specs.Valid.{IsValid, object_order}
use Rattle.vt_model.specs.Deleting.{gone_order}
use Rattle.vt_model.specs.declared.model.Object.{Object}
use Rattle.vt_model.specs.declared.model.GoneObject.{GoneObject}
use Rattle.vt_model.specs.declared.model.AttributeValue.{AttributeValue}
use Rattle.vt_model.specs.declared.model.Link.{Link}
use Rattle.vt_facts.proofs.MemberLemmas.{All-from_contains, Contains-head, Contains-map, Contains-from_filter, find-some}
use Rattle.vt_graph.specs.Held.{Held, Place, Buried}
use Rattle.vt_graph.specs.Having.{HasAttribute}
use Rattle.vt_graph.specs.Room.{class_kept, KeepsRoom}
use Rattle.vt_store.specs.Edits.{ListChange, same_object, same_gone, same_value, same_link, without, undone}
use Rattle.vt_store.specs.Undoing.{HeldEdit, KeepsRoomOf, Fits}
use Rattle.vt_store.specs.Inside.Assigned.{without_values}
use Rattle.vt_store.specs.Inside.Displaced.{EndsLive, IsReturning, without_back, with_each}
use Rattle.vt_store.specs.Inside.Kept.{gone_of, objects_of, waiting_place, kept_edit, IsFresh, AreOf, settled, CanReturn, CanRetract, CanSettle}
use Rattle.vt_store.proofs.EditLemmas.{Contains-without, Contains-from_without}
use Rattle.vt_store.proofs.NetLemmas.{Contains-one, tells_apart, kept_stood}
use Rattle.vt_store.proofs.SameLemmas.{Decides-same_object, Decides-same_value, Decides-same_link}
use Rattle.vt_store.proofs.Linking.Lists.{without-none}
use Rattle.vt_asked.proofs.LiveLemmas.{live_at_there}
use Rattle.vt_store.proofs.Linking.Live.{live_with_each, ends_live_same, ends_live_fits}
use Rattle.vt_store.proofs.Reverted.Objects.{one_object}
use Rattle.vt_store.proofs.Reverted.Raised.{places_with, room_with}
use Rattle.vt_store.proofs.Reverted.Whole.{IsKept, before, live_changed, values_changed, links_changed, deleted_rise, are_gone, left_values, went, settled_then}

-- ---- attributes

-- the owner of a value that fits has the attribute
has_attribute_fits : (meta : Metamodel) (g : Model) → IsValid meta g → (t : AttributeValue) → FitsAttribute meta g.live t → HasAttribute meta g t.object t.attribute
has_attribute_fits meta g valid t fits = record {
  class = fits.owner.own;
  info = fits.info;
  live = ap (λ (x : Option Object). option_map (λ (y : Object). y.class) x) (live_at_there meta g valid (record { number = t.object; name = fits.owner.is_live.name; class = fits.owner.own }) fits.owner.is_live.there);
  declared = fits.declared;
  has = fits.owner.below;
}

-- also where the same objects are live
has_attribute_same : (meta : Metamodel) (g h : Model) (o : ObjId) (a : AttrId) → h.live ≡ g.live → HasAttribute meta g o a → HasAttribute meta h o a
has_attribute_same meta g h o a same has = record {
  class = has.class;
  info = has.info;
  live = subst (λ os. option_map (λ (y : Object). y.class) (find (λ (y : Object). y.number.0 == o.0) os) ≡ Some has.class) (sym same) has.live;
  declared = has.declared;
  has = has.has;
}

-- an edit that fits is what changed
abbrev pub held_edit : Metamodel → ℕ → Option Object → List Buried → ListChange AttributeValue → ListChange Link → HeldEdit
held_edit meta next created deleted values links = record { meta = meta; edit = kept_edit next created deleted values links; waiting = map waiting_place deleted }

pub is_kept : (s : Held) (meta : Metamodel) (next : ℕ) (created : Option Object) (deleted : List Buried) (values : ListChange AttributeValue) (links : ListChange Link)
    → Fits (held_edit meta next created deleted values links) s → IsValid s.meta s.model → IfSome created (IsFresh next deleted) → IsKept s.meta s.model next created deleted values links
is_kept s meta next created deleted values links fits valid fresh = record { valid = valid; is = fits.is; before_valid = fits.valid; fresh = fresh }

module _ (s : Held) (next : ℕ) (created : Option Object) (deleted : List Buried) (values : ListChange AttributeValue) (links : ListChange Link)
    (kept : IsKept s.meta s.model next created deleted values links) where
  -- the model without the edit
  abbrev pub old : Model
  old = before s.meta s.model next created deleted values links kept

  -- the values that were put in are of attributes that their objects have
  pub had_added : (h : Held) → h.meta ≡ s.meta → h.model.live ≡ s.model.live → All (λ t. HasAttribute h.meta h.model t.object t.attribute) values.added
  had_added h meta live = subst (λ m. All (λ t. HasAttribute m h.model t.object t.attribute) values.added) (sym meta)
      (All-from_contains (λ t. HasAttribute s.meta h.model t.object t.attribute) values.added
      (λ t there. has_attribute_same s.meta s.model h.model t.object t.attribute live (has_attribute_fits s.meta s.model kept.valid t
      (All-contains (FitsAttribute s.meta s.model.live) s.model.values t kept.valid.values_fit
      ((tells_apart same_value Decides-same_value old.values s.model.values values (values_changed s.meta s.model next created deleted values links kept)).added_stands t there)))))

  -- and so are those that were taken out, in the model without the edit
  pub had_removed : (h : Held) → h.meta ≡ s.meta → h.model.live ≡ old.live → All (λ t. HasAttribute h.meta h.model t.object t.attribute) values.removed
  had_removed h meta live = subst (λ m. All (λ t. HasAttribute m h.model t.object t.attribute) values.removed) (sym meta)
      (All-from_contains (λ t. HasAttribute s.meta h.model t.object t.attribute) values.removed
      (λ t there. has_attribute_same s.meta old h.model t.object t.attribute live (has_attribute_fits s.meta old kept.before_valid t
      (All-contains (FitsAttribute s.meta old.live) old.values t kept.before_valid.values_fit
      ((tells_apart same_value Decides-same_value old.values s.model.values values (values_changed s.meta s.model next created deleted values links kept)).removed_stood t there)))))

  -- ---- links

  pub left_links : List Link
  left_links = without same_link links.added s.model.links

  -- a model has the links that are left
  pub left_is : (h : Model) → h.links ≡ without same_link links.added s.model.links → (l : Link) → Contains h.links l → Contains left_links l
  unfolding left_links
  left_is h is l there = subst (λ ls. Contains ls l) is there

  -- the links that are left stood before
  pub left_links_stood : (l : Link) → Contains left_links l → Contains old.links l
  unfolding left_links
  left_links_stood = kept_stood same_link Decides-same_link old.links s.model.links links (links_changed s.meta s.model next created deleted values links kept)

  links_told : (l : Link) → Contains links.removed l → Contains old.links l × (Contains s.model.links l → ⊥)
  links_told l there =
      let told = tells_apart same_link Decides-same_link old.links s.model.links links (links_changed s.meta s.model next created deleted values links kept) in
      (told.removed_stood l there, told.removed_is_gone l there)

  -- those that were taken out come back
  pub links_return : (h : Model) → h.live ≡ old.live → h.links ≡ without same_link links.added s.model.links → IsReturning (with_each h links.removed) h links.removed
  unfolding left_links
  links_return h live is = record {
    now_rises = subst (IsStrictlySortedBy link_order) (sym is) (IsStrictlySortedBy-filter link_order (λ x. not (list_any (same_link x) links.added)) s.model.links kept.valid.links_rise);
    links_rise = subst (IsStrictlySortedBy link_order) (sym (ap (λ c. c.removed) (links_changed s.meta s.model next created deleted values links kept)))
        (IsStrictlySortedBy-filter link_order (λ x. not (list_any (same_link x) s.model.links)) old.links kept.before_valid.links_rise);
    fresh = λ l there stands. (links_told l there).1
        (Contains-from_filter (λ x. not (list_any (same_link x) links.added)) s.model.links l (subst (λ ls. Contains ls l) is stands)).0;
    comes = refl;
    live = sym (live_with_each h links.removed);
  }

  -- both their ends are live
  pub links_live : (h : Model) → h.live ≡ old.live → All (EndsLive h) links.removed
  links_live h live = All-from_contains (EndsLive h) links.removed
      (λ l there. ends_live_same old h l live (ends_live_fits s.meta old kept.before_valid l
      (All-contains (FitsReference s.meta old.live) old.links l kept.before_valid.links_fit (links_told l there).0)))

-- ---- objects

-- a created object can be retracted
module _ (s : Held) (next : ℕ) (o : Object) (deleted : List Buried) (values : ListChange AttributeValue) (links : ListChange Link)
    (kept : IsKept s.meta s.model next (Some o) deleted values links) where
  abbrev earlier : Model
  earlier = undone (kept_edit next (Some o) deleted values links) s.model

  stands : Contains s.model.live o
  stands = (tells_apart same_object Decides-same_object earlier.live s.model.live (record { added = o ∷ []; removed = objects_of deleted })
      (live_changed s.meta s.model next (Some o) deleted values links kept)).added_stands o (Contains-head o [])

  -- nothing came back
  live_is : earlier.live ≡ without same_object (o ∷ []) s.model.live
  live_is = ap (λ ds. fold (insert_key object_order) (without same_object (o ∷ []) s.model.live) (objects_of ds)) kept.fresh.alone

  gone_is : earlier.gone ≡ s.model.gone
  gone_is = ap (λ ds. without same_gone (map gone_of (objects_of ds)) s.model.gone) kept.fresh.alone ∙ without-none same_gone s.model.gone

  -- no object of its number is live without the edit, and all others are
  not_before : (x : Object) → Contains earlier.live x → x.number.0 ≡ o.number.0 → ⊥
  not_before x there same =
      let left = Contains-from_without same_object Decides-same_object (o ∷ []) s.model.live x (subst (λ xs. Contains xs x) live_is there) in
      let is : x ≡ o = one_object s.model.live kept.valid.objects_rise x o left.0 stands same in
      left.1 (subst (Contains (o ∷ [])) (sym is) (Contains-head o []))

  stayed : (x : Object) → Contains s.model.live x → x.number.0 ≢ o.number.0 → Contains earlier.live x
  stayed x there differs = subst (λ xs. Contains xs x) (sym live_is)
      (Contains-without same_object Decides-same_object (o ∷ []) s.model.live x there (λ one. differs (ap (λ y. y.number.0) (sym (Contains-one o x one)))))

  -- an end of a link that stands without the edit is another object
  not_at : (p : ObjId) (c : ClassId) → IsLiveOf s.meta earlier.live p c → p.0 ≢ o.number.0
  not_at p c live same = not_before (record { number = p; name = live.is_live.name; class = live.own }) live.is_live.there same

  can_retract : (h : Held) → h.model.live ≡ s.model.live → h.model.gone ≡ s.model.gone → ((l : Link) → Contains h.model.links l → Contains earlier.links l) → CanRetract h next deleted o
  can_retract h live gone stood = record {
    live = let found = find-some (λ y. y.number.0 == o.number.0) s.model.live o stands (eq-eqb o.number.0 o.number.0 refl) in
        subst (λ os. IsSome (find (λ (y : Object). y.number.0 == o.number.0) os)) (sym live) (ap is_some found.1);
    last = record {
      live_below = subst (All (λ x. x.number.0 ≢ o.number.0 → x.number.0 < next)) (sym live) (All-from_contains (λ x. x.number.0 ≢ o.number.0 → x.number.0 < next) s.model.live
          (λ x there differs. All-contains (λ y. y.number.0 < next) earlier.live x kept.before_valid.numbers_below (stayed x there differs)));
      gone_below = subst (All (λ x. x.number.0 < next)) (sym gone) (subst (All (λ x. x.number.0 < next)) gone_is kept.before_valid.gone_below);
    };
    above = kept.fresh.above;
    no_links = All-from_contains (λ l. (l.source.0 ≢ o.number.0) × (l.target.0 ≢ o.number.0)) h.model.links (λ l there.
        let fits = All-contains (FitsReference s.meta earlier.live) earlier.links l kept.before_valid.links_fit (stood l there) in
        (not_at l.source fits.info.class fits.source, not_at l.target fits.info.target fits.target));
    alone = kept.fresh.alone;
  }

-- deleted objects can come back
module _ (s : Held) (next : ℕ) (deleted : List Buried) (values : ListChange AttributeValue) (links : ListChange Link)
    (kept : IsKept s.meta s.model next None deleted values links) where
  can_return : (h : Held) → h.meta ≡ s.meta → h.model ≡ without_values (without_back s.model links.added) values.added → KeepsRoom s.places h.places
      → AreOf s.meta deleted → ((o : Object) → Contains (objects_of deleted) o → class_kept s.places o.number ≡ Some o.class) → CanReturn h next deleted
  can_return h meta model keeps of classes = record {
    raise = record {
      of = subst (λ m. AreOf m deleted) (sym meta) of;
      rise = deleted_rise s.meta s.model next None deleted values links kept;
      gone_rise = subst (IsStrictlySortedBy gone_order) (sym gone) kept.valid.gone_rise;
      gone = λ b there. subst (λ gs. Contains gs (gone_of b.object)) (sym gone)
          (are_gone s.meta s.model next None deleted values links kept b.object (Contains-map (λ (x : Buried). x.object) deleted b there));
      kept = λ b there. keeps.classes b.object.number b.object.class (classes b.object (Contains-map (λ (x : Buried). x.object) deleted b there));
    };
    in_range = kept.before_valid.next_in_range;
    live_below = subst (All (λ o. o.number.0 < next)) (sym (ap (λ (g : Model). g.live) settled_so)) kept.before_valid.numbers_below;
    gone_below = subst (All (λ o. o.number.0 < next)) (sym (ap (λ (g : Model). g.gone) settled_so)) kept.before_valid.gone_below;
  }
    where
      gone : h.model.gone ≡ s.model.gone
      gone = ap (λ g. g.gone) (model ∙ went s.meta s.model next None deleted values links kept)

      settled_so : settled next None deleted h.model ≡ record (before s.meta s.model next None deleted values links kept) {
        next = next;
        values = left_values s.meta s.model next None deleted values links kept;
        links = without same_link links.added s.model.links;
      }
      settled_so = ap (settled next None deleted) model ∙ settled_then s.meta s.model next None deleted values links kept

-- what became of objects can be taken back
pub can_settle : (s : Held) (next : ℕ) (created : Option Object) (deleted : List Buried) (values : ListChange AttributeValue) (links : ListChange Link)
    (kept : IsKept s.meta s.model next created deleted values links) (h : Held)
    → h.meta ≡ s.meta → h.model ≡ without_values (without_back s.model links.added) values.added → KeepsRoom s.places h.places
    → AreOf s.meta deleted → ((o : Object) → Contains (objects_of deleted) o → class_kept s.places o.number ≡ Some o.class) → CanSettle h next created deleted
can_settle s next None deleted values links kept h meta model keeps of classes = can_return s next deleted values links kept h meta model keeps of classes
can_settle s next (Some o) deleted values links kept h meta model keeps of classes =
    let is = model ∙ went s.meta s.model next (Some o) deleted values links kept in
    can_retract s next o deleted values links kept h (ap (λ g. g.live) is) (ap (λ g. g.gone) is)
    (λ l there. left_links_stood s next (Some o) deleted values links kept l (left_is s next (Some o) deleted values links kept h.model (ap (λ g. g.links) is) l there))

-- ---- room

-- room that is kept is so beside places that wait
pub room_waiting : (bs : List Buried) (a b : List Place) → KeepsRoom a b → KeepsRoom (places_with bs a) (places_with bs b)
room_waiting bs a b keeps = room_with bs a b keeps

-- room of a model's objects is that of another model with the same objects
pub room_same : (g h : Model) (a b c : List Place) → h.live ≡ g.live → h.gone ≡ g.gone → KeepsRoom a b → KeepsRoomOf h b c → KeepsRoomOf g a c
room_same g h a b c live gone first then = record {
  room = λ o side r at. less (first.room o side r) (then.room o side r (subst (λ os. IsSome (find (λ (x : Object). x.number.0 == o.0) os)) (sym live) at));
  classes = λ o k at was. then.classes o k (subst (λ os. IsSome (find (λ (x : GoneObject). x.number.0 == o.0) os)) (sym gone) at) (first.classes o k was);
}
  where
    less : {x y z : ℕ} → x ≤ y → y ≤ z → x ≤ z
    less {x} {y} {z} p q = omega arith

-- and more of it then
pub room_then : (g : Model) (a b c : List Place) → KeepsRoomOf g a b → KeepsRoom b c → KeepsRoomOf g a c
room_then g a b c first then = record {
  room = λ o side r at. less (first.room o side r at) (then.room o side r);
  classes = λ o k at was. then.classes o k (first.classes o k at was);
}
  where
    less : {x y z : ℕ} → x ≤ y → y ≤ z → x ≤ z
    less {x} {y} {z} p q = omega arith
