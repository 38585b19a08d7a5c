-- Deleted objects that come back one by one, the last first.
use Rattle.std.proofs.Common.{cond, ◌≡◌, ℕ, List, [], ◌∷◌, ◌++◌, map, refl, sym, ap, subst, ◌∙◌, Bool, true, false, not, arith}
use Rattle.std.specs.Prelude.{◌≤◌, ◌==◌, Contains, Option, None, Some, option_map, unwrap_or}
use Rattle.std.specs.Option.{option_or}
use Rattle.std.specs.List.Sorted.{IsStrictlySortedBy}
use Rattle.std.specs.Ordering.{nat_cmp}
use Rattle.std.specs.declared.cmp.Ordering.TheVariants.{Less}
use Rattle.std.proofs.lemmas.Bool.{ne_eqb, eqb-true, not_from_false}
use Rattle.std.proofs.lemmas.List.{map-append}
use Rattle.std.proofs.lemmas.List.Elements.{All-contains, Contains-append_left, Contains-push}
use Rattle.std.proofs.lemmas.List.Folds.{find-append}
use Rattle.std.proofs.lemmas.List.Kept.{IsStrictlySortedBy-filter}
use Rattle.std.proofs.lemmas.Map.Views.{All-before_last}
use Rattle.vt_base.specs.declared.numbers.ObjId.{ObjId}
use Rattle.vt_base.specs.declared.numbers.ClassId.{ClassId}
use Rattle.vt_base.specs.declared.numbers.RefId.{RefId}
use Rattle.vt_model.specs.Model.{Model}
use Rattle.vt_model.specs.Deleting.{gone_order}
use Rattle.vt_model.specs.Valid.{object_order}
use Rattle.vt_model.specs.declared.model.GoneObject.{GoneObject}
use Rattle.vt_facts.proofs.MemberLemmas.{All-from_contains, Contains-map, Contains-filter}
use Rattle.vt_slots.specs.Ends.{capacity_of}
use Rattle.vt_slots.specs.declared.slot.Side.{Side}
use Rattle.vt_slots.specs.declared.slot.Side.TheVariants.{Outgoing, Incoming}
use Rattle.vt_graph.specs.Held.{Held, Place, Buried}
use Rattle.vt_graph.specs.Room.{place_at, class_kept, ends_of, capacity_at, capacity_in, KeepsRoom}
use Rattle.vt_graph.specs.Passing.{with_raised}
use Rattle.vt_store.specs.Inside.Kept.{gone_of, objects_of, waiting_place, raised_back, CanRaise}
use Rattle.vt_store.proofs.RisingLemmas.{rises_front}
use Rattle.vt_store.proofs.UndoneLemmas.{object_order_total}
use Rattle.vt_facts.proofs.RisingLemmas.{not_below_itself}

-- the last comes back first
pub raised_back_push : (g : Model) (bs : List Buried) (b : Buried) → raised_back g (bs ++ b ∷ []) ≡ raised_back (with_raised g b.object) bs
raised_back_push g [] b = refl
raised_back_push g (x ∷ bs) b = ap (λ h. with_raised h x.object) (raised_back_push g bs b)

-- the objects of the list with one more at its end
objects_push : (bs : List Buried) (b : Buried) → objects_of (bs ++ b ∷ []) ≡ objects_of bs ++ b.object ∷ []
objects_push bs b = map-append (λ (x : Buried). x.object) bs (b ∷ [])

-- ---- what has to hold

module _ (s : Held) (bs : List Buried) (b : Buried) (can : CanRaise s (bs ++ b ∷ [])) where
  rise_push : IsStrictlySortedBy object_order (objects_of bs ++ b.object ∷ [])
  rise_push = subst (IsStrictlySortedBy object_order) (objects_push bs b) can.rise

  -- the last of them has another number than the others
  differs : (x : Buried) → Contains bs x → x.object.number.0 ≡ b.object.number.0 → ⊥
  differs x there same =
      let below = All-contains (λ o. object_order o b.object ≡ Less) (objects_of bs) x.object (All-before_last object_order (objects_of bs) b.object rise_push)
      (Contains-map (λ (y : Buried). y.object) bs x there) in
      not_below_itself object_order object_order_total b.object (subst (λ n. nat_cmp n b.object.number.0 ≡ Less) same below)

  -- it can be raised
  pub last_of : b.meta ≡ s.meta
  last_of = All-contains (λ x. x.meta ≡ s.meta) (bs ++ b ∷ []) b can.of (Contains-push bs b)

  pub last_gone : Contains s.model.gone (gone_of b.object)
  last_gone = can.gone b (Contains-push bs b)

  pub last_kept : class_kept s.places b.object.number ≡ Some b.object.class
  last_kept = can.kept b (Contains-push bs b)

  -- once it was, the others can
  pub can_raise_rest : (t : Held) → t.meta ≡ s.meta → t.model ≡ with_raised s.model b.object → KeepsRoom s.places t.places → CanRaise t bs
  can_raise_rest t meta model keeps = record {
    of = All-from_contains (λ x. x.meta ≡ t.meta) bs (λ x there. All-contains (λ y. y.meta ≡ s.meta) (bs ++ b ∷ []) x can.of (Contains-append_left bs (b ∷ []) x there) ∙ sym meta);
    rise = rises_front object_order (objects_of bs) (b.object ∷ []) rise_push;
    gone_rise = subst (λ g. IsStrictlySortedBy gone_order g.gone) (sym model) (IsStrictlySortedBy-filter gone_order still s.model.gone can.gone_rise);
    gone = λ x there. subst (λ g. Contains g.gone (gone_of x.object)) (sym model)
        (Contains-filter still s.model.gone (gone_of x.object) (can.gone x (Contains-append_left bs (b ∷ []) x there))
        (not_from_false (x.object.number.0 == b.object.number.0) (ne_eqb x.object.number.0 b.object.number.0 (differs x there))));
    kept = λ x there. keeps.classes x.object.number x.object.class (can.kept x (Contains-append_left bs (b ∷ []) x there));
  }
    where
      still : GoneObject → Bool
      still y = not (y.number.0 == b.object.number.0)

-- ---- room

-- how much room a place has
abbrev room_in : Side → RefId → Option Place → ℕ
room_in side r p = capacity_of (unwrap_or (option_map (ends_of side) p) []) r

-- that of an object that waits
room_in-waiting : (side : Side) (r : RefId) (b : Buried) → room_in side r (Some (waiting_place b)) ≡ capacity_in b side r
room_in-waiting Outgoing r b = refl
room_in-waiting Incoming r b = refl

abbrev class_in : Option Place → Option ClassId
class_in p = option_map (λ q. q.class) p

-- the places that wait, with those that are kept
abbrev pub places_with : List Buried → List Place → List Place
places_with bs places = map waiting_place bs ++ places

-- the place of an object among them
abbrev found : List Buried → ObjId → Option Place
found bs o = place_at (map waiting_place bs) o

found_with : (bs : List Buried) (places : List Place) (o : ObjId) → place_at (places_with bs places) o ≡ option_or (found bs o) (place_at places o)
found_with bs places o = find-append (λ p. p.object.0 == o.0) (map waiting_place bs) places

found_push : (bs : List Buried) (b : Buried) (o : ObjId) → found (bs ++ b ∷ []) o ≡ option_or (found bs o) (found (b ∷ []) o)
found_push bs b o = ap (λ ps. place_at ps o) (map-append waiting_place bs (b ∷ [])) ∙ find-append (λ p. p.object.0 == o.0) (map waiting_place bs) (waiting_place b ∷ [])

-- while one comes back no room is lost, and no class
module _ (bs : List Buried) (b : Buried) (old new : List Place) (keeps : KeepsRoom old new) (kept : class_kept old b.object.number ≡ Some b.object.class)
    (own : (side : Side) (r : RefId) → capacity_at new b.object.number side r ≡ capacity_in b side r) where
  -- the place of an object before: among the others that wait, or that of the one that comes back, or one that is kept
  abbrev before : Option Place → Bool → ObjId → Option Place
  before p is o = option_or (option_or p (cond is (Some (waiting_place b)) None)) (place_at old o)

  before_is : (o : ObjId) → place_at (places_with (bs ++ b ∷ []) old) o ≡ before (found bs o) (b.object.number.0 == o.0) o
  before_is o = found_with (bs ++ b ∷ []) old o ∙ ap (λ q. option_or q (place_at old o)) (found_push bs b o)

  -- the one that comes back is this object
  this : (o : ObjId) → (b.object.number.0 == o.0) ≡ true → b.object.number ≡ o
  this o is = ap (λ n. record { 0 = n }) (eqb-true b.object.number.0 o.0 is)

  more_room : (o : ObjId) (side : Side) (r : RefId) → capacity_at (places_with (bs ++ b ∷ []) old) o side r ≤ capacity_at (places_with bs new) o side r
  more_room o side r =
      let first : capacity_at (places_with (bs ++ b ∷ []) old) o side r ≡ room_in side r (before (found bs o) (b.object.number.0 == o.0) o) = ap (room_in side r) (before_is o) in
      let second : capacity_at (places_with bs new) o side r ≡ room_in side r (option_or (found bs o) (place_at new o)) = ap (room_in side r) (found_with bs new o) in
      let less = by (found bs o) (b.object.number.0 == o.0) refl in
      omega arith
    where
      by : (p : Option Place) (is : Bool) → (b.object.number.0 == o.0) ≡ is → room_in side r (before p is o) ≤ room_in side r (option_or p (place_at new o))
      by (Some p) is e = omega arith
      by None true e =
          let there : capacity_at new o side r ≡ capacity_in b side r = ap (λ n. capacity_at new n side r) (sym (this o e)) ∙ own side r in
          omega (arith, room_in-waiting side r b, there)
      by None false e = keeps.room o side r

  same_class : (o : ObjId) (c : ClassId) → class_kept (places_with (bs ++ b ∷ []) old) o ≡ Some c → class_kept (places_with bs new) o ≡ Some c
  same_class o c was = ap class_in (found_with bs new o) ∙ by (found bs o) (b.object.number.0 == o.0) refl (sym (ap class_in (before_is o)) ∙ was)
    where
      by : (p : Option Place) (is : Bool) → (b.object.number.0 == o.0) ≡ is → class_in (before p is o) ≡ Some c → class_in (option_or p (place_at new o)) ≡ Some c
      by (Some p) is e was = was
      by None true e was = keeps.classes o c (ap (class_kept old) (sym (this o e)) ∙ kept ∙ was)
      by None false e was = keeps.classes o c was

  pub room_push : KeepsRoom (places_with (bs ++ b ∷ []) old) (places_with bs new)
  room_push = record { room = more_room; classes = same_class }

-- room that is kept is so beside places that wait
pub room_with : (bs : List Buried) (a b : List Place) → KeepsRoom a b → KeepsRoom (places_with bs a) (places_with bs b)
room_with bs a b keeps = record {
  room = λ o side r.
      let first : capacity_at (places_with bs a) o side r ≡ room_in side r (option_or (found bs o) (place_at a o)) = ap (room_in side r) (found_with bs a o) in
      let second : capacity_at (places_with bs b) o side r ≡ room_in side r (option_or (found bs o) (place_at b o)) = ap (room_in side r) (found_with bs b o) in
      let less = more (found bs o) o side r in
      omega arith;
  classes = λ o c was. ap class_in (found_with bs b o) ∙ same (found bs o) o c (sym (ap class_in (found_with bs a o)) ∙ was);
}
  where
    more : (p : Option Place) (o : ObjId) (side : Side) (r : RefId) → room_in side r (option_or p (place_at a o)) ≤ room_in side r (option_or p (place_at b o))
    more (Some p) o side r = omega arith
    more None o side r = keeps.room o side r

    same : (p : Option Place) (o : ObjId) (c : ClassId) → class_in (option_or p (place_at a o)) ≡ Some c → class_in (option_or p (place_at b o)) ≡ Some c
    same (Some p) o c was = was
    same None o c was = keeps.classes o c was

-- where none waits all places are kept
pub room_itself : (places : List Place) → KeepsRoom places places
room_itself places = record { room = λ o side r. omega arith; classes = λ o c is. is }
