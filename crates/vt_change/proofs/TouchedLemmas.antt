-- The objects that the rows of changed values name are those that are touched.
use Rattle.std.proofs.Common.{◌≡◌, ℕ, Bool, true, false, ◌&&◌, List, [], ◌∷◌, ◌++◌, refl, sym, ap, ap₂, subst, ◌∙◌, ◌⊎◌, inl, inr, arith, cond}
use Rattle.std.proofs.lemmas.Bool.{true≢false, eqb-true, eq-eqb}
use Rattle.std.proofs.lemmas.Bool.Decides.{nat_tests}
use Rattle.std.proofs.lemmas.List.Elements.{All-contains, Contains-append_left, Contains-append_right, Contains-append_cases}
use Rattle.std.proofs.lemmas.List.Kept.{IsStrictlySortedBy-filter}
use Rattle.std.specs.Prelude.{◌<◌, ◌≢◌, ◌==◌, pos, nat_lt, is_some, Contains, filter, Option, Some, None, option_map}
use Rattle.std.specs.List.{filter_map}
use Rattle.vt_facts.proofs.BoolLemmas.{and_left, and_right}
use Rattle.vt_facts.proofs.MemberLemmas.{Contains-map, Contains-from_map, Contains-find, find-some, Contains-filter, Contains-from_filter}
use Rattle.vt_facts.proofs.ChosenLemmas.{Contains-filter_map, Contains-from_filter_map}
use Rattle.vt_delta.specs.Changes.{net}
use Rattle.vt_base.specs.declared.numbers.ObjId.{ObjId}
use Rattle.vt_base.specs.declared.value.Value.{Value}
use Rattle.vt_base.specs.declared.value.Value.TheVariants.{Obj, Int}
use Rattle.vt_model.specs.Metamodel.{Metamodel}
use Rattle.vt_model.specs.Model.{Model}
use Rattle.vt_model.specs.Assigning.{value_order, values_of}
use Rattle.vt_model.specs.Valid.{IsValid}
use Rattle.vt_model.specs.declared.model.Object.{Object}
use Rattle.vt_model.specs.declared.model.AttributeValue.{AttributeValue}
use Rattle.vt_graph.specs.Asked.{live_at, class_at}
use Rattle.vt_graph.proofs.ValueLemmas.{value_order_total}
use Rattle.vt_model.specs.Touched.{Rise, Lives, HasOtherValues, AreTouched}
use Rattle.vt_store.specs.Edits.{same_value, without}
use Rattle.vt_change.specs.Inside.Telling.{whole_rows}
use Rattle.vt_change.specs.Inside.Naming.{object_named, all_named}
use Rattle.vt_store.proofs.SameLemmas.{Decides-same_value}
use Rattle.vt_change.proofs.RowLemmas.{without-whole_rows}
use Rattle.vt_change.proofs.ItemLemmas.{Contains-without, Contains-from_without, differing}

-- ---- live objects

-- a live object lives
Lives-live : (g : Model) (x : Object) → Contains g.live x → Lives g x.number
Lives-live g x there = (x.class, record { name = x.name; there = there })

-- the class of what lives is found
found-Lives : (g : Model) (o : ObjId) → Lives g o → is_some (class_at g o) ≡ true
found-Lives g o lives =
    let found = find-some (λ (x : Object). x.number.0 == o.0) g.live (record { number = o; name = lives.1.name; class = lives.0 }) lives.1.there (eq-eqb o.0 o.0 refl) in
    ap (λ r. is_some (option_map (λ (x : Object). x.class) r)) found.1

-- what has a class is live
live-found : (g : Model) (o : ObjId) → is_some (class_at g o) ≡ true → (x : Object) × Contains g.live x × (x.number ≡ o)
live-found g o found = by (live_at g o) refl found
  where
    by : (r : Option Object) → live_at g o ≡ r → is_some (option_map (λ (x : Object). x.class) r) ≡ true → (x : Object) × Contains g.live x × (x.number ≡ o)
    by None at some = absurd (true≢false (sym some))
    by (Some x) at some =
        let there = Contains-find (λ (y : Object). y.number.0 == o.0) g.live x at in
        (x, there.0, ap (λ n. record { 0 = n }) (eqb-true x.number.0 o.0 there.1))

below-told : (m n : ℕ) → nat_lt m n ≡ true → m < n
below-told m n told = grind (arith, nat_tests)

told-below : (m n : ℕ) → m < n → nat_lt m n ≡ true
told-below m n below = grind (arith, nat_tests)

-- ---- the objects that rows name

module _ (next : ℕ) (g : Model) where
  -- those of values
  named : List AttributeValue → List ObjId
  named values = filter_map (object_named next g) (whole_rows values)

  named-from : (values : List AttributeValue) (o : ObjId) → Contains (named values) o
      → (t : AttributeValue) × Contains values t × (t.object ≡ o) × (o.0 < next) × (is_some (class_at g o) ≡ true)
  unfolding named
  named-from values o there =
      let of = Contains-from_filter_map (object_named next g) (whole_rows values) o there in
      let at = Contains-from_map (λ (t : AttributeValue). Obj t.object ∷ Int (pos t.attribute.0) ∷ t.value ∷ []) values of.0 of.1 in
      by at.0 at.1 (nat_lt at.0.object.0 next && is_some (class_at g at.0.object)) refl (ap (object_named next g) at.2 ∙ of.2)
    where
      by : (t : AttributeValue) → Contains values t → (b : Bool) → (nat_lt t.object.0 next && is_some (class_at g t.object)) ≡ b → cond b (Some t.object) None ≡ Some o
          → (t : AttributeValue) × Contains values t × (t.object ≡ o) × (o.0 < next) × (is_some (class_at g o) ≡ true)
      by t stands false fails named = cc
      by t stands true passes named =
          let is : t.object ≡ o = cc in (
            t,
            stands,
            is,
            subst (λ (o : ObjId). o.0 < next) is (below-told t.object.0 next (and_left (nat_lt t.object.0 next) (is_some (class_at g t.object)) passes)),
            subst (λ o. is_some (class_at g o) ≡ true) is (and_right (nat_lt t.object.0 next) (is_some (class_at g t.object)) passes),
          )

  named-there : (values : List AttributeValue) (t : AttributeValue) → Contains values t → t.object.0 < next → is_some (class_at g t.object) ≡ true → Contains (named values) t.object
  unfolding named
  named-there values t there below live =
      Contains-filter_map (object_named next g) (whole_rows values) (Obj t.object ∷ Int (pos t.attribute.0) ∷ t.value ∷ []) t.object
      (Contains-map (λ (t : AttributeValue). Obj t.object ∷ Int (pos t.attribute.0) ∷ t.value ∷ []) values t there)
      (ap (λ b. cond (b && is_some (class_at g t.object)) (Some t.object) None) (told-below t.object.0 next below) ∙ ap (λ b. cond b (Some t.object) None) live)

-- ---- the objects whose values changed

module _ (meta : Metamodel) (before after : Model) (valid : IsValid meta before) (still : IsValid meta after)
    (born : (x : Object) → Contains after.live x → x.number.0 < before.next → Contains before.live x) where
  -- the values that came, and those that went
  came : List AttributeValue
  came = without same_value before.values after.values

  went : List AttributeValue
  went = without same_value after.values before.values

  -- an object with a value that only the one model has
  touched-value : (o : ObjId) (t : AttributeValue) → t.object ≡ o → Contains came t ⊎ Contains went t → HasOtherValues before after o
  unfolding came went
  touched-value o t of changed same = elim changed [
    | inl new ↦
        let is = Contains-from_without same_value Decides-same_value before.values after.values t new in
        is.1 (Contains-from_filter (λ (u : AttributeValue). u.object.0 == o.0) before.values t (subst (λ ts. Contains ts t) (sym same) (own after.values is.0))).0
    | inr old ↦
        let is = Contains-from_without same_value Decides-same_value after.values before.values t old in
        is.1 (Contains-from_filter (λ (u : AttributeValue). u.object.0 == o.0) after.values t (subst (λ ts. Contains ts t) same (own before.values is.0))).0
  ]
    where
      own : (values : List AttributeValue) → Contains values t → Contains (filter (λ (u : AttributeValue). u.object.0 == o.0) values) t
      own values there = Contains-filter (λ (u : AttributeValue). u.object.0 == o.0) values t there (eq-eqb t.object.0 o.0 (ap (λ (n : ObjId). n.0) of))

  -- an object with other values has such a value
  value-touched : (o : ObjId) → HasOtherValues before after o → (t : AttributeValue) × (t.object ≡ o) × (Contains came t ⊎ Contains went t)
  unfolding came went
  value-touched o differ = by (differing same_value Decides-same_value value_order value_order_total (values_of before o) (values_of after o)
      (IsStrictlySortedBy-filter value_order (λ (t : AttributeValue). t.object.0 == o.0) before.values valid.values_rise)
      (IsStrictlySortedBy-filter value_order (λ (t : AttributeValue). t.object.0 == o.0) after.values still.values_rise) differ)
    where
      whole : (others xs : List AttributeValue) (t : AttributeValue) → Contains (without same_value (filter (λ (t : AttributeValue). t.object.0 == o.0) others) (filter (λ (t : AttributeValue). t.object.0 == o.0) xs)) t
          → (t.object ≡ o) × Contains (without same_value others xs) t
      whole others xs t there =
          let is = Contains-from_without same_value Decides-same_value (filter (λ (t : AttributeValue). t.object.0 == o.0) others) (filter (λ (t : AttributeValue). t.object.0 == o.0) xs) t there in
          let own = Contains-from_filter (λ (t : AttributeValue). t.object.0 == o.0) xs t is.0 in (
            ap (λ n. record { 0 = n }) (eqb-true t.object.0 o.0 own.1),
            Contains-without same_value Decides-same_value others xs t own.0 (λ other. is.1 (Contains-filter (λ (t : AttributeValue). t.object.0 == o.0) others t other own.1)),
          )

      by : (t : AttributeValue) × (Contains (without same_value (values_of before o) (values_of after o)) t ⊎ Contains (without same_value (values_of after o) (values_of before o)) t)
          → (t : AttributeValue) × (t.object ≡ o) × (Contains came t ⊎ Contains went t)
      by (t, inl new) = let is = whole before.values after.values t new in (t, is.0, inl is.1)
      by (t, inr old) = let is = whole after.values before.values t old in (t, is.0, inr is.1)

  -- what the rows name is touched
  named_is-touched : (o : ObjId) → Contains (named before.next after came ++ named before.next after went) o → Lives before o × Lives after o × HasOtherValues before after o
  named_is-touched o there = elim (Contains-append_cases (named before.next after came) (named before.next after went) o there) [
    | inl new ↦ let t = named-from before.next after came o new in both t.0 t.2 t.3 t.4 (inl t.1)
    | inr old ↦ let t = named-from before.next after went o old in both t.0 t.2 t.3 t.4 (inr t.1)
  ]
    where
      both : (t : AttributeValue) → t.object ≡ o → o.0 < before.next → is_some (class_at after o) ≡ true → Contains came t ⊎ Contains went t → Lives before o × Lives after o × HasOtherValues before after o
      both t of below live changed =
          let x = live-found after o live in
          let stood : Contains before.live x.0 = born x.0 x.1 (subst (λ (n : ObjId). n.0 < before.next) (sym x.2) below) in
          (subst (Lives before) x.2 (Lives-live before x.0 stood), subst (Lives after) x.2 (Lives-live after x.0 x.1), touched-value o t of changed)

  -- and what is touched they name
  touched-named : (o : ObjId) → Lives before o × Lives after o × HasOtherValues before after o → Contains (named before.next after came ++ named before.next after went) o
  touched-named o (lived, lives, differ) = by (value-touched o differ)
    where
      below : o.0 < before.next
      below = All-contains (λ (x : Object). x.number.0 < before.next) before.live (record { number = o; name = lived.1.name; class = lived.0 }) valid.numbers_below lived.1.there

      there : (values : List AttributeValue) (t : AttributeValue) → t.object ≡ o → Contains values t → Contains (named before.next after values) o
      there values t of stands = subst (λ o. Contains (named before.next after values) o) of
          (named-there before.next after values t stands (subst (λ (n : ObjId). n.0 < before.next) (sym of) below) (subst (λ n. is_some (class_at after n) ≡ true) (sym of) (found-Lives after o lives)))

      by : (t : AttributeValue) × (t.object ≡ o) × (Contains came t ⊎ Contains went t) → Contains (named before.next after came ++ named before.next after went) o
      by (t, of, inl new) = Contains-append_left (named before.next after came) (named before.next after went) o (there came t of new)
      by (t, of, inr old) = Contains-append_right (named before.next after came) (named before.next after went) o (there went t of old)

  named_net-is : all_named before.next after (net (whole_rows before.values) (whole_rows after.values)) ≡ named before.next after came ++ named before.next after went
  unfolding named came went
  named_net-is = ap₂ (λ new old. filter_map (object_named before.next after) new ++ filter_map (object_named before.next after) old)
      (sym (without-whole_rows after.values before.values)) (sym (without-whole_rows before.values after.values))

  -- a list in order of the objects that the net change of all values names
  pub AreTouched-named : (objects : List ObjId) → Rise objects
      → ((o : ObjId) → Contains objects o → Contains (all_named before.next after (net (whole_rows before.values) (whole_rows after.values))) o)
      → ((o : ObjId) → Contains (all_named before.next after (net (whole_rows before.values) (whole_rows after.values))) o → Contains objects o)
      → AreTouched before after objects
  AreTouched-named objects rise among all = record {
    rise = rise;
    each = λ o. (
      (λ there. named_is-touched o (subst (λ os. Contains os o) named_net-is (among o there))),
      (λ touched. all o (subst (λ os. Contains os o) (sym named_net-is) (touched-named o touched))),
    );
  }
