-- All steps by which an edit is taken back.
use Rattle.std.proofs.Common.{◌≡◌, ℕ, List, [], ◌∷◌, map, sym, ap, subst, ◌∙◌, ◌⊎◌, inl, inr, not, arith}
use Rattle.std.specs.Prelude.{◌==◌, Contains, filter, fold, IfSome, Option, None, Some}
use Rattle.std.specs.BTreeSet.{insert_key}
use Rattle.std.specs.List.{list_any}
use Rattle.std.specs.List.Sorted.{IsStrictlySortedBy}
use Rattle.std.proofs.lemmas.Bool.{ne_eqb, not_from_false}
use Rattle.std.proofs.lemmas.List.Elements.{All-contains}
use Rattle.std.proofs.lemmas.List.Kept.{IsStrictlySortedBy-filter}
use Rattle.vt_model.specs.Metamodel.{Metamodel}
use Rattle.vt_model.specs.Model.{Model}
use Rattle.vt_model.specs.Assigning.{value_order}
use Rattle.vt_model.specs.Fits.{FitsAttribute}
use Rattle.vt_model.specs.Valid.{IsValid, object_order}
use Rattle.vt_model.specs.declared.model.Object.{Object}
use Rattle.vt_model.specs.declared.model.AttributeValue.{AttributeValue}
use Rattle.vt_model.specs.declared.model.Link.{Link}
use Rattle.vt_facts.proofs.MemberLemmas.{Contains-head, Contains-map}
use Rattle.vt_graph.specs.Held.{Buried}
use Rattle.vt_store.specs.Edits.{ListChange, Edit, same_object, same_gone, same_value, same_link, without, net, edit_of, undone}
use Rattle.vt_store.specs.Inside.Kept.{gone_of, objects_of, kept_edit, IsFresh, settled}
use Rattle.vt_store.specs.Inside.Displaced.{without_back, with_each}
use Rattle.vt_store.specs.Inside.Assigned.{without_values, with_values}
use Rattle.vt_store.proofs.EditLemmas.{Contains-from_without}
use Rattle.vt_store.proofs.NetLemmas.{tells_apart, stood_or_came, stands_or_went, kept_stood}
use Rattle.vt_store.proofs.SameLemmas.{Decides-same_object, Decides-same_gone, Decides-same_value}
use Rattle.vt_store.proofs.UndoneLemmas.{object_order_total}
use Rattle.vt_store.proofs.Linking.Lists.{without-none}
use Rattle.vt_store.proofs.Linking.Steps.{without_back_is, with_each_is}
use Rattle.vt_store.proofs.Reverted.Values.{without_values_is, with_values_is}
use Rattle.vt_store.proofs.Reverted.Objects.{AreGone, insert_back, inserted_back_is, one_object, without_created, raised_back_is}
use Rattle.vt_facts.proofs.ChosenLemmas.{filter-all}

-- the edit that is kept is what changed from the model without it
pub record IsKept (meta : Metamodel) (g : Model) (next : ℕ) (created : Option Object) (deleted : List Buried) (values : ListChange AttributeValue) (links : ListChange Link) : Type 0 where
  pub valid : IsValid meta g
  pub is : kept_edit next created deleted values links ≡ edit_of (undone (kept_edit next created deleted values links) g) g
  pub before_valid : IsValid meta (undone (kept_edit next created deleted values links) g)
  pub fresh : IfSome created (IsFresh next deleted)

module _ (meta : Metamodel) (g : Model) (next : ℕ) (created : Option Object) (deleted : List Buried) (values : ListChange AttributeValue) (links : ListChange Link)
    (kept : IsKept meta g next created deleted values links) where
  abbrev pub edit : Edit
  edit = kept_edit next created deleted values links

  -- the model without the edit
  abbrev pub before : Model
  before = undone edit g

  -- ---- what changed in each list

  pub live_changed : edit.live ≡ net same_object before.live g.live
  live_changed = ap (λ e. e.live) kept.is

  pub gone_changed : edit.gone ≡ net same_gone before.gone g.gone
  gone_changed = ap (λ e. e.gone) kept.is

  pub values_changed : values ≡ net same_value before.values g.values
  values_changed = ap (λ e. e.values) kept.is

  pub links_changed : links ≡ net same_link before.links g.links
  links_changed = ap (λ e. e.links) kept.is

  -- the objects that were deleted rise, and are deleted
  pub deleted_rise : IsStrictlySortedBy object_order (objects_of deleted)
  deleted_rise = subst (IsStrictlySortedBy object_order) (sym (ap (λ c. c.removed) live_changed))
      (IsStrictlySortedBy-filter object_order (λ x. not (list_any (same_object x) g.live)) before.live kept.before_valid.objects_rise)

  pub are_gone : AreGone g deleted
  are_gone o there = (tells_apart same_gone Decides-same_gone before.gone g.gone edit.gone gone_changed).added_stands (gone_of o) (Contains-map gone_of (objects_of deleted) o there)

  -- the values that are left stood before
  pub left_values : List AttributeValue
  left_values = without same_value values.added g.values

  pub left_stood : (t : AttributeValue) → Contains left_values t → Contains before.values t
  unfolding left_values
  left_stood = kept_stood same_value Decides-same_value before.values g.values values values_changed

  left_rise : IsStrictlySortedBy value_order left_values
  unfolding left_values
  left_rise = IsStrictlySortedBy-filter value_order (λ t. not (list_any (same_value t) values.added)) g.values kept.valid.values_rise

-- the model with other values and links, and with the objects as before
abbrev back_to : Model → ℕ → List AttributeValue → List Link → Model
back_to before next values links = record { next = next; live = before.live; gone = before.gone; values = values; links = links }

-- ---- objects

-- a created object was never made, or deleted ones live again
settled_is : (meta : Metamodel) (g : Model) (next : ℕ) (created : Option Object) (deleted : List Buried) (values : ListChange AttributeValue) (links : ListChange Link)
    (kept : IsKept meta g next created deleted values links) (vs : List AttributeValue) (ls : List Link)
    → ((t : AttributeValue) → Contains vs t → Contains (before meta g next created deleted values links kept).values t)
    → settled next created deleted (record g { values = vs; links = ls }) ≡ back_to (before meta g next created deleted values links kept) next vs ls
settled_is meta g next None deleted values links kept vs ls stood =
    let b = before meta g next None deleted values links kept in
    let changed = live_changed meta g next None deleted values links kept in
    let living : insert_back object_order g.live (objects_of deleted) ≡ b.live =
    inserted_back_is object_order object_order_total b.live kept.before_valid.objects_rise g.live (objects_of deleted) kept.valid.objects_rise
    (λ o there. old o (stood_or_came same_object Decides-same_object b.live g.live (record { added = []; removed = objects_of deleted }) changed o there))
    (tells_apart same_object Decides-same_object b.live g.live (record { added = []; removed = objects_of deleted }) changed).removed_stood
    (stands_or_went same_object Decides-same_object b.live g.live (record { added = []; removed = objects_of deleted }) changed) in
    ap (λ (h : Model). record h { next = next }) (raised_back_is (record g { values = vs; links = ls }) kept.valid.gone_rise deleted (deleted_rise meta g next None deleted values links kept) (are_gone meta g next None deleted values links kept))
    ∙ (λ i. record { next = next; live = living i; gone = b.gone; values = vs; links = ls })
  where
    old : (o : Object) → Contains (before meta g next None deleted values links kept).live o ⊎ Contains [] o → Contains (before meta g next None deleted values links kept).live o
    old o (inl stood) = stood
    old o (inr none) = absurd (omega arith)
settled_is meta g next (Some o) deleted values links kept vs ls stood =
    λ i. record { next = next; live = live i; gone = gone i; values = no_values i; links = ls }
  where
    b : Model
    b = undone (kept_edit next (Some o) deleted values links) g

    one : Contains g.live o
    one = (tells_apart same_object Decides-same_object b.live g.live (record { added = o ∷ []; removed = objects_of deleted })
        (live_changed meta g next (Some o) deleted values links kept)).added_stands o (Contains-head o [])

    -- nothing came back
    live_is : b.live ≡ without same_object (o ∷ []) g.live
    live_is = ap (λ ds. fold (insert_key object_order) (without same_object (o ∷ []) g.live) (objects_of ds)) kept.fresh.alone

    gone_is : b.gone ≡ g.gone
    gone_is = ap (λ ds. without same_gone (map gone_of (objects_of ds)) g.gone) kept.fresh.alone ∙ without-none same_gone g.gone

    live : filter (λ x. not (x.number.0 == o.number.0)) g.live ≡ b.live
    live = without_created g.live o kept.valid.objects_rise one ∙ sym live_is

    gone : g.gone ≡ b.gone
    gone = sym gone_is

    -- no value was of the object
    no_values : filter (λ t. not (t.object.0 == o.number.0)) vs ≡ vs
    no_values = filter-all (λ t. not (t.object.0 == o.number.0)) vs (λ t there. not_from_false (t.object.0 == o.number.0) (ne_eqb t.object.0 o.number.0 (other t there)))
      where
        other : (t : AttributeValue) → Contains vs t → t.object.0 ≡ o.number.0 → ⊥
        other t there same =
            let fits = All-contains (FitsAttribute meta b.live) b.values t kept.before_valid.values_fit (stood t there) in
            let owner : Object = record { number = t.object; name = fits.owner.is_live.name; class = fits.owner.own } in
            let left = Contains-from_without same_object Decides-same_object (o ∷ []) g.live owner (subst (λ xs. Contains xs owner) live_is fits.owner.is_live.there) in
            let is : owner ≡ o = one_object g.live kept.valid.objects_rise owner o left.0 one same in
            left.1 (subst (Contains (o ∷ [])) (sym is) (Contains-head o []))

-- ---- all steps

module _ (meta : Metamodel) (g : Model) (next : ℕ) (created : Option Object) (deleted : List Buried) (values : ListChange AttributeValue) (links : ListChange Link)
    (kept : IsKept meta g next created deleted values links) where
  -- first what was put in goes, links and then values
  pub went : without_values (without_back g links.added) values.added
      ≡ record g { values = left_values meta g next created deleted values links kept; links = without same_link links.added g.links }
  unfolding left_values
  went =
      ap (λ h. without_values h values.added) (without_back_is g links.added)
      ∙ without_values_is (record g { links = without same_link links.added g.links }) values.added kept.valid.values_rise
      (tells_apart same_value Decides-same_value (before meta g next created deleted values links kept).values g.values values (values_changed meta g next created deleted values links kept)).added_stands

  -- then objects are as before
  pub settled_then : settled next created deleted (without_values (without_back g links.added) values.added)
      ≡ back_to (before meta g next created deleted values links kept) next (left_values meta g next created deleted values links kept) (without same_link links.added g.links)
  settled_then =
      ap (settled next created deleted) went
      ∙ settled_is meta g next created deleted values links kept (left_values meta g next created deleted values links kept) (without same_link links.added g.links)
      (left_stood meta g next created deleted values links kept)

  -- then what was taken out comes back, values and then links
  pub values_back : with_values (settled next created deleted (without_values (without_back g links.added) values.added)) values.removed
      ≡ record (before meta g next created deleted values links kept) { links = without same_link links.added g.links }
  unfolding left_values
  values_back =
      ap (λ h. with_values h values.removed) settled_then
      ∙ with_values_is (back_to (before meta g next created deleted values links kept) next (left_values meta g next created deleted values links kept) (without same_link links.added g.links)) values.removed
      (before meta g next created deleted values links kept).values kept.before_valid.values_rise (left_rise meta g next created deleted values links kept)
      (tells_apart same_value Decides-same_value (before meta g next created deleted values links kept).values g.values values (values_changed meta g next created deleted values links kept)).removed_stood
      (left_stood meta g next created deleted values links kept)

  -- and so all is as it was without the edit
  pub reverted_is : with_each (with_values (settled next created deleted (without_values (without_back g links.added) values.added)) values.removed) links.removed
      ≡ undone (kept_edit next created deleted values links) g
  reverted_is =
      ap (λ h. with_each h links.removed) values_back
      ∙ with_each_is (record (before meta g next created deleted values links kept) { links = without same_link links.added g.links }) links.removed
