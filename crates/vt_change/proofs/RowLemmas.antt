-- The rows of a model after a change: those that came and those that went are the rows of its edit.
use Rattle.std.proofs.Common.{◌≡◌, ℕ, Bool, true, List, [], ◌∷◌, refl, sym, ap, ap₂, ◌∙◌, inl, inr, arith}
use Rattle.std.proofs.lemmas.Bool.{eqb-true}
use Rattle.std.proofs.lemmas.List.Elements.{All-contains}
use Rattle.std.specs.Prelude.{◌<◌, ◌==◌, pos, Contains, filter}
use Rattle.std.specs.declared.cmp.Ordering.TheVariants.{Equal}
use Rattle.std.proofs.lemmas.Bool.Decides.{nat_tests}
use Rattle.std.proofs.lemmas.Cmp.{on_total, nat_cmp_total}
use Rattle.vt_facts.proofs.RisingLemmas.{tied_is}
use Rattle.vt_facts.proofs.ChosenLemmas.{filter-all}
use Rattle.vt_delta.specs.Changes
use Rattle.vt_base.specs.declared.value.Value.{Value}
use Rattle.vt_base.specs.declared.value.Value.TheVariants.{Obj, Int}
use Rattle.vt_model.specs.Metamodel.{Metamodel, isa}
use Rattle.vt_model.specs.Model.{Model}
use Rattle.vt_model.specs.Valid.{IsValid, object_order}
use Rattle.vt_model.specs.declared.model.Object.{Object}
use Rattle.vt_model.specs.declared.model.AttributeValue.{AttributeValue}
use Rattle.vt_model.specs.declared.model.Link.{Link}
use Rattle.vt_store.specs.Edits.{same_object, same_value, same_link, without}
use Rattle.vt_change.specs.Inside.Telling.{object_rows, value_rows, link_rows, whole_rows}
use Rattle.vt_store.proofs.SameLemmas.{Decides-same_object, Decides-same_value, Decides-same_link}
use Rattle.vt_change.proofs.ChosenLemmas.{without-rows}
use Rattle.vt_change.specs.Inside.Working.{AreKnown}

-- the object that a row names first
abbrev first_of : List Value → ℕ
first_of [] = 0
first_of (Obj o ∷ row) = o.0
first_of (v ∷ row) = 0

abbrev second_of : List Value → Value
second_of [] = Obj (record { 0 = 0 })
second_of (v ∷ []) = v
second_of (v ∷ w ∷ row) = w

abbrev third_of : List Value → Value
third_of (u ∷ v ∷ w ∷ row) = w
third_of row = Obj (record { 0 = 0 })

abbrev number_of : Value → ℕ
number_of (Obj o) = o.0
number_of (Int (pos n)) = n
number_of v = 0

-- ---- values

module _ (xs others : List AttributeValue) where
  one_value : (a : ℕ) (t u : AttributeValue) → (t.attribute.0 == a) ≡ true → (u.attribute.0 == a) ≡ true
      → Obj u.object ∷ u.value ∷ [] ≡ Obj t.object ∷ t.value ∷ [] → t ≡ u
  one_value a t u is also same = λ i. record {
    object = record { 0 = sym (ap first_of same) i };
    attribute = record { 0 = (eqb-true t.attribute.0 a is ∙ sym (eqb-true u.attribute.0 a also)) i };
    value = sym (ap second_of same) i;
  }

  pub without-value_rows : (a : ℕ) → value_rows (without same_value others xs) a ≡ Changes.without (value_rows others a) (value_rows xs a)
  without-value_rows a = without-rows same_value Decides-same_value (λ (t : AttributeValue). t.attribute.0 == a) (λ (t : AttributeValue). Obj t.object ∷ t.value ∷ []) others xs
      (λ t u _ _ is also same. one_value a t u is also same)

  one_whole : (t u : AttributeValue) → Obj u.object ∷ Int (pos u.attribute.0) ∷ u.value ∷ [] ≡ Obj t.object ∷ Int (pos t.attribute.0) ∷ t.value ∷ [] → t ≡ u
  one_whole t u same = λ i. record {
    object = record { 0 = sym (ap first_of same) i };
    attribute = record { 0 = sym (ap (λ row. number_of (second_of row)) same) i };
    value = sym (ap third_of same) i;
  }

  pub without-whole_rows : whole_rows (without same_value others xs) ≡ Changes.without (whole_rows others) (whole_rows xs)
  without-whole_rows =
      sym (whole (without same_value others xs))
      ∙ without-rows same_value Decides-same_value (λ (t : AttributeValue). true) (λ (t : AttributeValue). Obj t.object ∷ Int (pos t.attribute.0) ∷ t.value ∷ []) others xs
      (λ t u _ _ _ _ same. one_whole t u same)
      ∙ ap₂ Changes.without (whole others) (whole xs)
    where
      whole : (ts : List AttributeValue) → whole_rows (filter (λ t. true) ts) ≡ whole_rows ts
      whole ts = ap whole_rows (filter-all (λ t. true) ts (λ t there. refl))

-- ---- links

module _ (xs others : List Link) where
  one_link : (r : ℕ) (l m : Link) → (l.reference.0 == r) ≡ true → (m.reference.0 == r) ≡ true
      → Obj m.source ∷ Obj m.target ∷ [] ≡ Obj l.source ∷ Obj l.target ∷ [] → l ≡ m
  one_link r l m is also same = λ i. record {
    source = record { 0 = sym (ap first_of same) i };
    reference = record { 0 = (eqb-true l.reference.0 r is ∙ sym (eqb-true m.reference.0 r also)) i };
    target = record { 0 = sym (ap (λ row. number_of (second_of row)) same) i };
  }

  pub without-link_rows : (r : ℕ) → link_rows (without same_link others xs) r ≡ Changes.without (link_rows others r) (link_rows xs r)
  without-link_rows r = without-rows same_link Decides-same_link (λ (l : Link). l.reference.0 == r) (λ (l : Link). Obj l.source ∷ Obj l.target ∷ []) others xs
      (λ l m _ _ is also same. one_link r l m is also same)

-- ---- objects

-- two objects with one number are one
abbrev pub AreOne : List Object → List Object → Type 0
AreOne xs others = (x y : Object) → Contains xs x → Contains others y → x.number.0 ≡ y.number.0 → x ≡ y

pub without-object_rows : (meta : Metamodel) (xs others : List Object) → AreOne xs others → (c : ℕ)
    → object_rows meta (without same_object others xs) c ≡ Changes.without (object_rows meta others c) (object_rows meta xs c)
without-object_rows meta xs others one c =
    without-rows same_object Decides-same_object (λ (o : Object). isa meta o.class (record { 0 = c })) (λ (o : Object). Obj o.number ∷ []) others xs
    (λ x y there other _ _ same. one x y there other (sym (ap first_of same)))

-- before and after a change they are
module _ (meta : Metamodel) (g after : Model) (valid : IsValid meta g) (known : AreKnown g after) where
  pub one_after : AreOne after.live g.live
  one_after x y there other same = elim (known x there) [
    | inl old ↦ tied_is object_order (on_total (λ (o : Object). o.number.0) nat_cmp_total) g.live valid.objects_rise x y old other (tied x y same)
    | inr new ↦ let below : y.number.0 < g.next = All-contains (λ (o : Object). o.number.0 < g.next) g.live y valid.numbers_below other in absurd (omega arith)
  ]
    where
      tied : (x y : Object) → x.number.0 ≡ y.number.0 → object_order x y ≡ Equal
      tied x y same = grind (arith, nat_tests)

  pub one_before : AreOne g.live after.live
  one_before x y there other same = sym (one_after y x other there (sym same))
