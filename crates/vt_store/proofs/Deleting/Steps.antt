-- A deletion as its steps: links go, then values, then objects.
use Rattle.std.proofs.Common.{◌≡◌, true, List, sym, ap, subst, ◌∙◌, reverse}
use Rattle.std.specs.List.{filter_map}
use Rattle.std.specs.List.Sorted.{IsStrictlySortedBy}
use Rattle.std.proofs.lemmas.List.Kept.{IsStrictlySortedBy-filter}
use Rattle.std.specs.Prelude.{not, filter, fold, Contains}
use Rattle.std.proofs.lemmas.List.Elements.{All-contains}
use Rattle.vt_base.specs.declared.numbers.ObjId.{ObjId}
use Rattle.vt_base.specs.declared.numbers.AttrId.{AttrId}
use Rattle.vt_model.specs.Metamodel.{Metamodel}
use Rattle.vt_model.specs.Model.{Model}
use Rattle.vt_model.specs.Containing.{is_inside}
use Rattle.vt_model.specs.Deleting.{deleted}
use Rattle.vt_model.specs.Fits.{FitsAttribute}
use Rattle.vt_model.specs.Valid.{object_order, IsValid}
use Rattle.vt_model.specs.declared.model.AttributeValue.{AttributeValue}
use Rattle.vt_model.specs.declared.model.Link.{Link}
use Rattle.vt_model.specs.Sound.{IsSound}
use Rattle.vt_model.proofs.Valid.Sides.{IsValid-sides, ObjectSide-valid, LinkSide-valid}
use Rattle.vt_model.proofs.Valid.ObjectSide.{ObjectSide-deleted}
use Rattle.vt_model.proofs.Valid.DeletedLinks.{LinkSide-deleted}
use Rattle.vt_facts.proofs.MemberLemmas.{Contains-from_filter, Contains-map, Contains-from_map}
use Rattle.vt_store.specs.Inside.Levels.{numbers, all_values_out, object_at, objects_inside, touches, without_link, values_taken, buried}
use Rattle.vt_slots.specs.Ends.{number_order}
use Rattle.vt_store.proofs.Deleting.Found.{numbers-rise, Contains-objects_inside, is_inside-objects_inside}
use Rattle.vt_store.proofs.Deleting.Taken.{dropped_is, taken_is}
use Rattle.vt_store.proofs.Deleting.Buried.{buried_is, objects_at-live}
use Rattle.vt_store.proofs.Deleting.ValuesOut.{AttributesRise, values_out-are}

module _ (meta : Metamodel) (g : Model) (o : ObjId) where
  -- ---- the model on the way

  -- without the links that touch what goes
  abbrev pub links_gone : Model
  links_gone = record g { links = filter (λ link. not (touches meta g o link)) g.links }

  -- and without its values
  abbrev pub values_gone : Model
  values_gone = record g {
    links = filter (λ link. not (touches meta g o link)) g.links;
    values = filter (λ t. not (is_inside meta g t.object o)) g.values;
  }

  -- the links are dropped from the last to the first
  pub links_dropped : (links : List Link) → links ≡ filter (touches meta g o) g.links → fold without_link g (reverse links) ≡ links_gone
  links_dropped links is = dropped_is g (touches meta g o) links is

  -- what is left at the end is valid
  pub IsValid-deleted : IsSound meta → IsValid meta g → IsValid meta (deleted meta g o)
  IsValid-deleted sound valid = IsValid-sides meta (deleted meta g o) (ObjectSide-deleted meta g (ObjectSide-valid meta g valid) o) (LinkSide-deleted meta g o sound (LinkSide-valid meta g valid))

  module _ (valid : IsValid meta g) (found : List ObjId) (is : found ≡ numbers (objects_inside meta g o)) where
    -- the objects of the values inside are found
    pub found_of_value : (t : AttributeValue) → Contains g.values t → is_inside meta g t.object o ≡ true → Contains found t.object
    found_of_value t there inside =
        let owner = (All-contains (FitsAttribute meta g.live) g.values t valid.values_fit there).owner in
        let stands = Contains-map (λ y. y.number) g.live (record { number = t.object; name = owner.is_live.name; class = owner.own }) owner.is_live.there in
        subst (λ l. Contains l t.object) (sym is) (Contains-objects_inside meta g o t.object stands inside)

    -- what is found is inside
    pub inside_found : (x : ObjId) → Contains found x → is_inside meta g x o ≡ true
    inside_found x there = is_inside-objects_inside meta g o x (subst (λ l. Contains l x) is there)

    -- and lives
    pub found_live : (x : ObjId) → Contains found x → Contains (numbers g.live) x
    found_live x there =
        let by = Contains-from_map (λ y. y.number) (objects_inside meta g o) x (subst (λ l. Contains l x) is there) in
        subst (Contains (numbers g.live)) by.2 (Contains-map (λ y. y.number) g.live by.0 (Contains-from_filter (λ y. is_inside meta g y.number o) g.live by.0 by.1).0)

    -- it rises
    pub found_rises : IsStrictlySortedBy number_order found
    found_rises = subst (IsStrictlySortedBy number_order) (sym is)
        (numbers-rise (objects_inside meta g o) (IsStrictlySortedBy-filter object_order (λ x. is_inside meta g x.number o) g.live valid.objects_rise))

    module _ (attributes : ObjId → List AttrId) (covers : (t : AttributeValue) → Contains g.values t → Contains (attributes t.object) t.attribute) where
      -- after the links the values are taken
      pub values_all_taken : fold (values_taken attributes) (links_gone) found ≡ values_gone
      values_all_taken = taken_is attributes links_gone (λ x. is_inside meta g x o) found found_of_value inside_found covers

      -- what comes out are the values inside, in their order
      pub values_come_out : AttributesRise attributes found → all_values_out attributes links_gone found ≡ filter (λ t. is_inside meta g t.object o) g.values
      values_come_out rise = values_out-are attributes links_gone (λ x. is_inside meta g x o) found rise found_rises valid.values_rise found_of_value inside_found covers

    -- after the values the objects are buried
    pub all_buried : fold buried values_gone found ≡ deleted meta g o
    all_buried = ap (fold buried values_gone) is ∙ buried_is values_gone (λ x. is_inside meta g x o) valid.objects_rise

    -- so the object is deleted
    pub deletion_is : (attributes : ObjId → List AttrId) (links : List Link) → links ≡ filter (touches meta g o) g.links
        → ((t : AttributeValue) → Contains g.values t → Contains (attributes t.object) t.attribute)
        → fold buried (fold (values_taken attributes) (fold without_link g (reverse links)) found) found ≡ deleted meta g o
    deletion_is attributes links touched covers =
        ap (λ m. fold buried (fold (values_taken attributes) m found) found) (links_dropped links touched)
        ∙ ap (λ m. fold buried m found) (values_all_taken attributes covers)
        ∙ all_buried

    -- the objects that are found by their numbers are those inside
    pub objects_come_out : filter_map (object_at g) found ≡ objects_inside meta g o
    objects_come_out = ap (filter_map (object_at g)) is ∙ objects_at-live g valid.objects_rise (objects_inside meta g o)
        (λ y there. (Contains-from_filter (λ x. is_inside meta g x.number o) g.live y there).0)
