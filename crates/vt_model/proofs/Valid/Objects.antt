-- The objects of a valid model, after one more came, and after some were deleted.
use Rattle.std.proofs.Common.{◌≡◌, ℕ, ◌+◌, List, [], ◌∷◌, ◌++◌, map, refl, sym, ap, subst, ◌∙◌, cond, arith, Bool, true, false, ⊎_elim}
use Rattle.std.specs.Prelude.{◌<◌, ◌≤◌, not, All, Contains, IsSomeAnd, slice_get, count_by, filter, fold, is_some}
use Rattle.std.specs.List.Sorted.{IsStrictlySortedBy}
use Rattle.std.specs.declared.cmp.Ordering.TheVariants.{Less}
use Rattle.std.proofs.lemmas.Bool.{or_parts, both_ways, not-true}
use Rattle.std.proofs.lemmas.Bool.Decides.{nat_tests}
use Rattle.std.proofs.lemmas.List.Elements.{All-nil, All-cons, All-push, All-weaker, All-contains, All-contains_itself, All-filter, Contains-push_cases}
use Rattle.std.proofs.lemmas.List.Kept.{IsStrictlySortedBy-filter}
use Rattle.vt_base.specs.declared.numbers.ObjId.{ObjId}
use Rattle.vt_base.specs.declared.numbers.ClassId.{ClassId}
use Rattle.vt_model.specs.Metamodel.{Metamodel}
use Rattle.vt_facts.specs.Names.{is_name, is_distinct}
use Rattle.vt_model.specs.Model.{Model, object_named, gone_named}
use Rattle.vt_model.specs.Creating.{is_taken, is_reserved, created}
use Rattle.vt_model.specs.Deleting.{gone_order, with_gone}
use Rattle.vt_model.specs.Valid.{object_order, IsConcrete}
use Rattle.vt_model.specs.declared.model.Object.{Object}
use Rattle.vt_model.specs.declared.model.GoneObject.{GoneObject}
use Rattle.vt_model.specs.declared.model.Link.{Link}
use Rattle.vt_facts.proofs.OrderedLemmas.{IsStrictlySortedBy-append}
use Rattle.vt_model.proofs.Valid.Sides.{ObjectSide}
use Rattle.vt_facts.proofs.CountLemmas.{count_by-cons, count_by-append, count_by-find, count_by-filter_both, All-filter_passes}
use Rattle.vt_model.proofs.Valid.Names.{times, times-is_distinct, is_distinct-times, times-objects, same_name}
use Rattle.vt_model.proofs.Valid.Gone.{IsStrictlySortedBy-with_gone, All-with_gone, count_by-with_gone}

-- ---- after an object came

-- an object with a smaller number comes first
object_order-below : (o p : Object) → o.number.0 < p.number.0 → object_order o p ≡ Less
object_order-below o p below = grind (arith, nat_tests)

module _ (meta : Metamodel) (g : Model) (side : ObjectSide meta g) (name : List ℕ) (c : ClassId) (number : ℕ) (above : g.next ≤ number) where
  -- the new object
  abbrev object : Object
  object = record { number = record { 0 = number }; name = name; class = c }

  -- the new object has the greatest number
  pub objects_rise-created : IsStrictlySortedBy object_order (created meta g name c number).live
  unfolding IsStrictlySortedBy
  objects_rise-created =
      IsStrictlySortedBy-append object_order g.live (object ∷ []) side.objects_rise (tt, tt)
      (All-weaker (λ o. o.number.0 < g.next) (λ o. All (λ p. object_order o p ≡ Less) (object ∷ []))
      (λ o below. All-cons (λ p. object_order o p ≡ Less) object [] (object_order-below o object (omega arith)) (All-nil (λ p. object_order o p ≡ Less))) g.live side.numbers_below)

  -- all numbers are below the new next one
  pub numbers_below-created : All (λ o. o.number.0 < number + 1) (created meta g name c number).live
  numbers_below-created =
      All-push (λ o. o.number.0 < number + 1) g.live object
      (All-weaker (λ o. o.number.0 < g.next) (λ o. o.number.0 < number + 1) (λ o below. omega arith) g.live side.numbers_below) (omega arith)

  -- so are those of deleted objects
  pub gone_below-created : All (λ o. o.number.0 < number + 1) g.gone
  gone_below-created = All-weaker (λ o. o.number.0 < g.next) (λ o. o.number.0 < number + 1) (λ o below. omega arith) g.gone side.gone_below

  -- a deleted object's number is below that of the new one
  pub numbers_differ-created : (o : Object) (p : GoneObject) → Contains (created meta g name c number).live o → Contains g.gone p → o.number ≡ p.number → ⊥
  numbers_differ-created o p live gone same =
      ⊎_elim (λ old. side.numbers_differ o p old gone same) (λ new. later new) (Contains-push_cases g.live object o live)
    where
      later : object ≡ o → ⊥
      later new =
          let below : p.number.0 < g.next = All-contains (λ p. p.number.0 < g.next) g.gone p side.gone_below gone in
          let here : number ≡ p.number.0 = ap (λ (q : Object). q.number.0) new ∙ ap (λ n. n.0) same in
          omega arith

  -- nobody had the new name
  pub names_differ-created : is_taken g name ≡ false → is_distinct (map (λ o. o.name) (created meta g name c number).live ++ map (λ o. o.name) g.gone) ≡ true
  names_differ-created fresh =
      is_distinct-times (map (λ o. o.name) (g.live ++ object ∷ []) ++ map (λ o. o.name) g.gone)
      (λ n. once n (is_name name n) refl (count_by-cons (λ o. is_name o.name n) object []))
    where
      once : (n : List ℕ) (b : Bool) → is_name name n ≡ b → count_by (λ o. is_name o.name n) (object ∷ []) ≡ cond b 1 0 + 0
          → times n (map (λ o. o.name) (g.live ++ object ∷ []) ++ map (λ o. o.name) g.gone) ≤ 1
      once n true e one =
          let free = or_parts (is_some (object_named g name)) (is_some (gone_named g name)) fresh in
          let no_live : count_by (λ o. is_name o.name name) g.live ≡ 0 = count_by-find (λ o. is_name o.name name) g.live free.0 in
          let no_gone : count_by (λ o. is_name o.name name) g.gone ≡ 0 = count_by-find (λ o. is_name o.name name) g.gone free.1 in
          let live : count_by (λ o. is_name o.name n) g.live ≡ 0 = subst (λ m. count_by (λ o. is_name o.name m) g.live ≡ 0) (same_name name n e) no_live in
          let gone : count_by (λ o. is_name o.name n) g.gone ≡ 0 = subst (λ m. count_by (λ o. is_name o.name m) g.gone ≡ 0) (same_name name n e) no_gone in
          let pushed = count_by-append (λ o. is_name o.name n) g.live (object ∷ []) in
          let all = times-objects n (g.live ++ object ∷ []) g.gone in
          omega (arith, one, live, gone, pushed, all)
      once n false e one =
          let before = times-is_distinct (map (λ o. o.name) g.live ++ map (λ o. o.name) g.gone) side.names_differ n in
          let old = times-objects n g.live g.gone in
          let pushed = count_by-append (λ o. is_name o.name n) g.live (object ∷ []) in
          let all = times-objects n (g.live ++ object ∷ []) g.gone in
          omega (arith, one, before, old, pushed, all)

  -- the new name may begin with `_` only if it is that of the number
  pub names_free-created : is_reserved name number ≡ false → All (λ o. is_reserved o.name o.number.0 ≡ false) (created meta g name c number).live
  names_free-created free = All-push (λ o. is_reserved o.name o.number.0 ≡ false) g.live object side.names_free free

  -- the new object's class is there and isn't abstract
  pub classes_concrete-created : IsSomeAnd (slice_get meta.classes c.0) (λ info. info.is_abstract ≡ false) → All (IsConcrete meta) (created meta g name c number).live
  classes_concrete-created concrete = All-push (IsConcrete meta) g.live object side.classes_concrete concrete

-- ---- after some were deleted

-- a model without the objects whose numbers pass a test
abbrev pub without : Model → (ObjId → Bool) → List Link → Model
without g inside links = record {
  next = g.next;
  live = filter (λ o. not (inside o.number)) g.live;
  gone = fold with_gone g.gone (filter (λ o. inside o.number) g.live);
  values = filter (λ t. not (inside t.object)) g.values;
  links = links;
}

module _ (meta : Metamodel) (g : Model) (side : ObjectSide meta g) (inside : ObjId → Bool) (links : List Link) where
  -- those that are left rise
  pub objects_rise-without : IsStrictlySortedBy object_order (without g inside links).live
  objects_rise-without = IsStrictlySortedBy-filter object_order (λ o. not (inside o.number)) g.live side.objects_rise

  -- the deleted ones rise, each new one at its place
  pub gone_rise-without : IsStrictlySortedBy gone_order (without g inside links).gone
  gone_rise-without = IsStrictlySortedBy-with_gone g.gone (filter (λ o. inside o.number) g.live) side.gone_rise

  -- those that are left have numbers below the next
  pub numbers_below-without : All (λ o. o.number.0 < g.next) (without g inside links).live
  numbers_below-without = All-filter (λ o. not (inside o.number)) (λ o. o.number.0 < g.next) g.live side.numbers_below

  -- and so have the deleted ones
  pub gone_below-without : All (λ o. o.number.0 < g.next) (without g inside links).gone
  gone_below-without = All-with_gone (λ o. o.number.0 < g.next) g.gone (filter (λ o. inside o.number) g.live) side.gone_below
      (All-filter (λ o. inside o.number) (λ o. o.number.0 < g.next) g.live side.numbers_below)

  -- an object that is left was live, and its number fails the test
  pub numbers_differ-without : (o : Object) (p : GoneObject) → Contains (without g inside links).live o → Contains (without g inside links).gone p → o.number ≡ p.number → ⊥
  numbers_differ-without o p live gone =
      let left = All-contains (λ x. Contains g.live x × (not (inside x.number) ≡ true)) (without g inside links).live o (All-filter_passes (λ x. not (inside x.number)) (Contains g.live) g.live (All-contains_itself g.live)) live in
      All-contains (λ p. o.number ≡ p.number → ⊥) (without g inside links).gone p
      (All-with_gone (λ p. o.number ≡ p.number → ⊥) g.gone (filter (λ x. inside x.number) g.live)
      (All-weaker (Contains g.gone) (λ p. o.number ≡ p.number → ⊥) (λ p there. side.numbers_differ o p left.0 there) g.gone (All-contains_itself g.gone))
      (All-weaker (λ x. Contains g.live x × (inside x.number ≡ true)) (λ x. o.number ≡ x.number → ⊥)
      (λ x passes same. both_ways (inside o.number) (not-true (inside o.number) left.1) (subst (λ n. inside n ≡ true) (sym same) passes.1))
      (filter (λ x. inside x.number) g.live) (All-filter_passes (λ x. inside x.number) (Contains g.live) g.live (All-contains_itself g.live)))) gone

  -- each name stands as often as before, or less
  pub names_differ-without : is_distinct (map (λ o. o.name) (without g inside links).live ++ map (λ o. o.name) (without g inside links).gone) ≡ true
  names_differ-without = is_distinct-times (map (λ o. o.name) (without g inside links).live ++ map (λ o. o.name) (without g inside links).gone) once
    where
      once : (n : List ℕ) → times n (map (λ o. o.name) (without g inside links).live ++ map (λ o. o.name) (without g inside links).gone) ≤ 1
      once n =
          let before = times-is_distinct (map (λ o. o.name) g.live ++ map (λ o. o.name) g.gone) side.names_differ n in
          let old = times-objects n g.live g.gone in
          let both = count_by-filter_both (λ o. is_name o.name n) (λ o. inside o.number) g.live in
          let gone = count_by-with_gone (λ o. is_name o.name n) g.gone (filter (λ o. inside o.number) g.live) in
          let all = times-objects n (without g inside links).live (without g inside links).gone in
          omega (arith, before, old, both, gone, all)

  -- who is left keeps a name that it may have
  pub names_free-without : All (λ o. is_reserved o.name o.number.0 ≡ false) (without g inside links).live
  names_free-without = All-filter (λ o. not (inside o.number)) (λ o. is_reserved o.name o.number.0 ≡ false) g.live side.names_free

  -- and so does who was deleted
  pub gone_names_free-without : All (λ o. is_reserved o.name o.number.0 ≡ false) (without g inside links).gone
  gone_names_free-without = All-with_gone (λ o. is_reserved o.name o.number.0 ≡ false) g.gone (filter (λ o. inside o.number) g.live) side.gone_names_free
      (All-filter (λ o. inside o.number) (λ o. is_reserved o.name o.number.0 ≡ false) g.live side.names_free)

  -- the classes of those that are left are there and aren't abstract
  pub classes_concrete-without : All (IsConcrete meta) (without g inside links).live
  classes_concrete-without = All-filter (λ o. not (inside o.number)) (IsConcrete meta) g.live side.classes_concrete
