-- The levels below an object, put in order: the numbers of the live objects that are it or in it.
use Rattle.std.proofs.Common.{◌≡◌, ℕ, List, [], ◌∷◌, refl, sym, ap, subst, ◌∙◌, true}
use Rattle.std.specs.Prelude.{◌≤◌, ◌==◌, length, Contains, IsSome, is_some, Option, Some, None}
use Rattle.std.specs.List.Sorted.{IsStrictlySortedBy}
use Rattle.std.proofs.lemmas.Bool.{eqb-true}
use Rattle.std.proofs.lemmas.List.Kept.{IsStrictlySortedBy-filter}
use Rattle.vt_base.specs.declared.numbers.ObjId.{ObjId}
use Rattle.vt_model.specs.Metamodel.{Metamodel}
use Rattle.vt_model.specs.Model.{Model}
use Rattle.vt_model.specs.Containing.{is_inside}
use Rattle.vt_model.specs.Valid.{object_order, IsValid}
use Rattle.vt_model.specs.declared.model.Object.{Object}
use Rattle.vt_facts.proofs.MemberLemmas.{Contains-map, Contains-filter, Contains-from_filter, Contains-find, Contains-from_map}
use Rattle.vt_model.proofs.Valid.Containment.{same_object}
use Rattle.vt_model.proofs.Valid.Sides.{LinkSide, LinkSide-valid}
use Rattle.vt_graph.specs.Asked.{live_at}
use Rattle.vt_store.specs.Inside.Levels.{IsArranged, levels_from, numbers, objects_inside}
use Rattle.vt_slots.specs.Ends.{number_order}
use Rattle.vt_graph.proofs.Linked.Ends.{number_order_total}
use Rattle.vt_store.proofs.Deleting.ListLemmas.{rises-map}
use Rattle.vt_store.proofs.Deleting.Counted.{Contains-numbers-levels_from, Contains-levels_from-enough, is_inside-levels_from}
use Rattle.vt_facts.proofs.RisingLemmas.{same_items}

-- ---- the objects found

-- the numbers of objects that rise
pub numbers-rise : (objects : List Object) → IsStrictlySortedBy object_order objects → IsStrictlySortedBy number_order (numbers objects)
numbers-rise objects rise = rises-map object_order number_order (λ x. x.number) (λ x y below. below) objects rise

-- a live object has one of the numbers of those that live
pub numbers_live : (g : Model) (o : ObjId) → IsSome (live_at g o) → Contains (numbers g.live) o
numbers_live g o live = by (live_at g o) refl live
  where
    by : (found : Option Object) → live_at g o ≡ found → is_some found ≡ true → Contains (numbers g.live) o
    by None at some = cc
    by (Some y) at some =
        let was = Contains-find (λ z. z.number.0 == o.0) g.live y at in
        subst (Contains (numbers g.live)) (same_object y.number o (eqb-true y.number.0 o.0 was.1)) (Contains-map (λ z. z.number) g.live y was.0)

module _ (meta : Metamodel) (g : Model) (o : ObjId) where
  -- a live object that is inside is one of them
  pub Contains-objects_inside : (x : ObjId) → Contains (numbers g.live) x → is_inside meta g x o ≡ true → Contains (numbers (objects_inside meta g o)) x
  Contains-objects_inside x there inside =
      let by = Contains-from_map (λ y. y.number) g.live x there in
      subst (Contains (numbers (objects_inside meta g o))) by.2 (Contains-map (λ y. y.number) (objects_inside meta g o) by.0
      (Contains-filter (λ y. is_inside meta g y.number o) g.live by.0 by.1 (ap (λ y. is_inside meta g y o) by.2 ∙ inside)))

  -- and each of them is inside
  pub is_inside-objects_inside : (x : ObjId) → Contains (numbers (objects_inside meta g o)) x → is_inside meta g x o ≡ true
  is_inside-objects_inside x there =
      let by = Contains-from_map (λ y. y.number) (objects_inside meta g o) x there in
      ap (λ y. is_inside meta g y o) (sym by.2) ∙ (Contains-from_filter (λ y. is_inside meta g y.number o) g.live by.0 by.1).1

  module _ (valid : IsValid meta g) (live : Contains (numbers g.live) o) where
    -- the levels, put in order, are their numbers
    pub found_is : (n : ℕ) (found : List ObjId) → length g.live ≤ n → IsArranged number_order (levels_from meta g n (o ∷ [])) found → found ≡ numbers (objects_inside meta g o)
    found_is n found enough arranged = same_items number_order number_order_total found (numbers (objects_inside meta g o)) arranged.rises
        (numbers-rise (objects_inside meta g o) (IsStrictlySortedBy-filter object_order (λ x. is_inside meta g x.number o) g.live valid.objects_rise))
        (λ x stands.
        let low = arranged.stood x stands in
        Contains-objects_inside x (Contains-numbers-levels_from meta g side o live n x low) (is_inside-levels_from meta g side o live n x low))
        (λ x stands. arranged.kept x (Contains-levels_from-enough meta g side o live n x enough (is_inside-objects_inside x stands)))
      where
        side : LinkSide meta g
        side = LinkSide-valid meta g valid
