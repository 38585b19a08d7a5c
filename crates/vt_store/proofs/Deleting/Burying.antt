-- While objects are buried one by one: each that is left lives, has no link and no value.
use Rattle.std.proofs.Common.{◌≡◌, ℕ, ◌+◌, ◌<◌, List, ◌∷◌, length, drop, get_or, sym, ap, subst, ◌∙◌}
use Rattle.std.specs.Prelude.{◌==◌, not, Contains, Some}
use Rattle.std.proofs.lemmas.Bool.{not-true, not_from_false, or_parts, ne_eqb, eqb-true, false≢true}
use Rattle.std.specs.declared.cmp.Ordering.TheVariants.{Less}
use Rattle.std.proofs.lemmas.Map.Keys.{sorted_tail}
use Rattle.std.proofs.lemmas.List.{drop_more}
use Rattle.vt_base.specs.declared.numbers.ObjId.{ObjId}
use Rattle.vt_model.specs.Metamodel.{Metamodel}
use Rattle.vt_model.specs.Model.{Model}
use Rattle.vt_model.specs.Containing.{is_inside}
use Rattle.vt_model.specs.Valid.{IsValid}
use Rattle.vt_facts.proofs.MemberLemmas.{Contains-head, Contains-behind, Contains-from_filter, Contains-from_map}
use Rattle.vt_model.proofs.Valid.Containment.{same_object}
use Rattle.vt_store.specs.Inside.Levels.{numbers, objects_inside, touches, object_at, without_object, buried, IsBare, CanBury}
use Rattle.vt_slots.specs.Ends.{number_order}
use Rattle.vt_store.proofs.Deleting.ListLemmas.{find-filter}
use Rattle.vt_graph.proofs.Linked.Ends.{number_order_total}
use Rattle.vt_store.proofs.Deleting.Found.{is_inside-objects_inside}
use Rattle.vt_store.proofs.Deleting.Buried.{object_at-live}
use Rattle.vt_store.proofs.Deleting.Steps.{values_gone, found_rises}
use Rattle.vt_facts.proofs.RisingLemmas.{first_below, not_below_itself}

-- ---- one after another

-- an object that is left stays so where another is buried
IsBare-more : (x y : ObjId) (g : Model) → (y ≡ x → ⊥) → IsBare g x → IsBare g y → IsBare (buried g x) y
IsBare-more x y g differs goes stays = subst (λ m. IsBare m y) (sym (ap (without_object g x) goes.lives)) (record {
  object = stays.object;
  lives = find-filter (λ z. z.number.0 == y.0) (λ z. not (z.number.0 == x.0)) g.live
      (λ z found. not_from_false (z.number.0 == x.0) (ne_eqb z.number.0 x.0 (λ same. differs (same_object y x (sym (eqb-true z.number.0 y.0 found) ∙ same)))))
      ∙ stays.lives;
  no_link = stays.no_link;
  no_value = stays.no_value;
})

-- after the first the others can be buried
pub CanBury-more : (g : Model) (x : ObjId) (rest : List ObjId) → CanBury g (x ∷ rest) → CanBury (buried g x) rest
CanBury-more g x rest can = record {
  bare = λ y there. IsBare-more x y g (λ same. not_below_itself number_order number_order_total x
      (subst (λ z. number_order x z ≡ Less) same (first_below number_order x rest can.rise y there)))
      (can.bare x (Contains-head x rest)) (can.bare y (Contains-behind x y rest there));
  rise = sorted_tail number_order x rest can.rise;
}

-- by the place of what is buried next
module _ (g : Model) (found : List ObjId) (i : ℕ) (d : ObjId) (more : i < length found) (can : CanBury g (drop i found)) where
  here : CanBury g (get_or found i d ∷ drop (i + 1) found)
  here = subst (CanBury g) (drop_more found i d more) can

  -- it lives, and has no link and no value
  pub is_bare_next : IsBare g (get_or found i d)
  is_bare_next = here.bare (get_or found i d) (Contains-head (get_or found i d) (drop (i + 1) found))

  -- and after it the next can be buried
  pub can_bury_step : CanBury (buried g (get_or found i d)) (drop (i + 1) found)
  can_bury_step = CanBury-more g (get_or found i d) (drop (i + 1) found) here

-- ---- after the links and the values went

module _ (meta : Metamodel) (g : Model) (o : ObjId) (valid : IsValid meta g) where
  -- what is inside lives, and has no link and no value any more
  IsBare-inside : (x : ObjId) → Contains (numbers (objects_inside meta g o)) x → IsBare (values_gone meta g o) x
  IsBare-inside x there =
      let by = Contains-from_map (λ y. y.number) (objects_inside meta g o) x there in
      let was = Contains-from_filter (λ y. is_inside meta g y.number o) g.live by.0 by.1 in
      let inside = is_inside-objects_inside meta g o x there in
      record {
        object = by.0;
        lives = subst (λ n. object_at g n ≡ Some by.0) by.2 (object_at-live g valid.objects_rise by.0 was.0);
        no_link = λ link stands.
            let kept = Contains-from_filter (λ l. not (touches meta g o l)) g.links link stands in
            let outside = or_parts (is_inside meta g link.source o) (is_inside meta g link.target o) (not-true (touches meta g o link) kept.1) in (
              λ from. false≢true (sym outside.0 ∙ ap (λ n. is_inside meta g n o) from ∙ inside),
              λ to. false≢true (sym outside.1 ∙ ap (λ n. is_inside meta g n o) to ∙ inside),
            );
        no_value = λ t stands of.
            let kept = Contains-from_filter (λ u. not (is_inside meta g u.object o)) g.values t stands in
            false≢true (sym (not-true (is_inside meta g t.object o) kept.1) ∙ ap (λ n. is_inside meta g n o) of ∙ inside);
      }

  -- so it can be buried
  pub CanBury-start : (found : List ObjId) → found ≡ numbers (objects_inside meta g o) → CanBury (values_gone meta g o) found
  CanBury-start found is = record {
    bare = λ x there. IsBare-inside x (subst (λ l. Contains l x) is there);
    rise = found_rises meta g o valid found is;
  }
