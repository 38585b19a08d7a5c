-- The rows of a model whose lists rise ascend.
use Rattle.std.proofs.Common.{◌≡◌, ℕ, List, [], ◌∷◌, length, map, get_or, refl, cond, Bool, true, false, arith}
use Rattle.std.specs.Prelude.{All, filter, ◌==◌}
use Rattle.std.proofs.lemmas.List.Elements.{All-map}
use Rattle.vt_base.specs.declared.value.Value.{Value}
use Rattle.std.specs.List.{AllByRecursion}
use Rattle.std.specs.List.Sorted.{IsStrictlySortedBy}
use Rattle.std.specs.Ordering.{nat_cmp, ordering_then}
use Rattle.std.specs.declared.cmp.Ordering.{Ordering}
use Rattle.std.specs.declared.cmp.Ordering.TheVariants.{Less, Equal, Greater}
use Rattle.std.proofs.lemmas.Bool.Decides.{nat_tests}
use Rattle.vt_base.specs.Order.{tuple_cmp}
use Rattle.vt_base.specs.Rows.{Ascends}
use Rattle.vt_base.specs.declared.numbers.ClassId.{ClassId}
use Rattle.vt_base.specs.declared.numbers.AttrId.{AttrId}
use Rattle.vt_base.specs.declared.numbers.RefId.{RefId}
use Rattle.vt_base.specs.declared.value.Value.TheVariants.{Obj}
use Rattle.vt_model.specs.Metamodel.{Metamodel, isa}
use Rattle.vt_model.specs.Model.{Model}
use Rattle.vt_model.specs.Assigning.{value_order}
use Rattle.vt_model.specs.Linking.{link_order}
use Rattle.vt_model.specs.Valid.{object_order}
use Rattle.vt_model.specs.Base.{class_rows, attribute_rows, reference_rows}
use Rattle.vt_model.specs.declared.model.Object.{Object}
use Rattle.vt_model.specs.declared.model.AttributeValue.{AttributeValue}
use Rattle.vt_model.specs.declared.model.Link.{Link}

-- ---- what is chosen from a list that rises, under another order

module _ {K L : Type 0} (R : K → K → Ordering) (S : L → L → Ordering) (p : K → Bool) (f : K → L)
    (keeps : (x y : K) → p x ≡ true → p y ≡ true → R x y ≡ Less → S (f x) (f y) ≡ Less) where
  -- what an item is below before, it is below afterwards
  below_chosen : (x : K) (xs : List K) → p x ≡ true → AllByRecursion (λ y. R x y ≡ Less) xs → AllByRecursion (λ l. S (f x) l ≡ Less) (map f (filter p xs))
  below_chosen x [] passes below = tt
  below_chosen x (y ∷ ys) passes below =
      elim (p y) as (λ b. p y ≡ b → AllByRecursion (λ l. S (f x) l ≡ Less) (map f (cond b (y ∷ filter p ys) (filter p ys)))) [
        | true ↦ λ also. (keeps x y passes also below.0, below_chosen x ys passes below.1)
        | false ↦ λ fails. below_chosen x ys passes below.1
      ] refl

  pub IsStrictlySortedBy-chosen : (xs : List K) → IsStrictlySortedBy R xs → IsStrictlySortedBy S (map f (filter p xs))
  unfolding IsStrictlySortedBy
  IsStrictlySortedBy-chosen [] rises = tt
  IsStrictlySortedBy-chosen (x ∷ xs) rises =
      elim (p x) as (λ b. p x ≡ b → IsStrictlySortedBy S (map f (cond b (x ∷ filter p xs) (filter p xs)))) [
        | true ↦ λ passes. (below_chosen x xs passes rises.0, IsStrictlySortedBy-chosen xs rises.1)
        | false ↦ λ fails. IsStrictlySortedBy-chosen xs rises.1
      ] refl

-- ---- the rows of a class

object_row : (o p : Object) → object_order o p ≡ Less → tuple_cmp (Obj o.number ∷ []) (Obj p.number ∷ []) ≡ Less
object_row o p below = rw below refl

pub Ascends-class_rows : (meta : Metamodel) (g : Model) (c : ClassId) → IsStrictlySortedBy object_order g.live → Ascends (class_rows meta g c)
Ascends-class_rows meta g c rises =
    IsStrictlySortedBy-chosen object_order tuple_cmp (λ (o : Object). isa meta o.class c) (λ (o : Object). Obj o.number ∷ [])
    (λ o p _ _ below. object_row o p below) g.live rises

-- ---- the rows of an attribute

-- where the later parts are the same, the first decides
first_decides : (first : Ordering) (m n k : ℕ) (rest : Ordering) → (m == k) ≡ true → (n == k) ≡ true
    → ordering_then first (nat_cmp m n) ≡ Less → ordering_then first rest ≡ Less
first_decides Less m n k rest is also below = refl
first_decides Equal m n k rest is also below = grind (arith, nat_tests)
first_decides Greater m n k rest is also below = below

value_row : (a : AttrId) (t u : AttributeValue) → (t.attribute.0 == a.0) ≡ true → (u.attribute.0 == a.0) ≡ true → value_order t u ≡ Less
    → tuple_cmp (Obj t.object ∷ t.value ∷ []) (Obj u.object ∷ u.value ∷ []) ≡ Less
value_row a t u is also below = first_decides (nat_cmp t.object.0 u.object.0) t.attribute.0 u.attribute.0 a.0 _ is also below

pub Ascends-attribute_rows : (g : Model) (a : AttrId) → IsStrictlySortedBy value_order g.values → Ascends (attribute_rows g a)
Ascends-attribute_rows g a rises =
    IsStrictlySortedBy-chosen value_order tuple_cmp (λ (t : AttributeValue). t.attribute.0 == a.0) (λ (t : AttributeValue). Obj t.object ∷ t.value ∷ [])
    (value_row a) g.values rises

-- ---- the rows of a reference

-- where the middle parts are the same, the others decide
others_decide : (first : Ordering) (m n k : ℕ) (last : Ordering) → (m == k) ≡ true → (n == k) ≡ true
    → ordering_then first (ordering_then (nat_cmp m n) last) ≡ Less → ordering_then first (ordering_then last Equal) ≡ Less
others_decide Less m n k last is also below = refl
others_decide Equal m n k Less is also below = refl
others_decide Equal m n k Equal is also below = grind (arith, nat_tests)
others_decide Equal m n k Greater is also below = grind (arith, nat_tests)
others_decide Greater m n k last is also below = below

link_row : (r : RefId) (a b : Link) → (a.reference.0 == r.0) ≡ true → (b.reference.0 == r.0) ≡ true → link_order a b ≡ Less
    → tuple_cmp (Obj a.source ∷ Obj a.target ∷ []) (Obj b.source ∷ Obj b.target ∷ []) ≡ Less
link_row r a b is also below =
    others_decide (nat_cmp a.source.0 b.source.0) a.reference.0 b.reference.0 r.0 (nat_cmp a.target.0 b.target.0) is also below

pub Ascends-reference_rows : (g : Model) (r : RefId) → IsStrictlySortedBy link_order g.links → Ascends (reference_rows g r)
Ascends-reference_rows g r rises =
    IsStrictlySortedBy-chosen link_order tuple_cmp (λ (link : Link). link.reference.0 == r.0) (λ (link : Link). Obj link.source ∷ Obj link.target ∷ [])
    (link_row r) g.links rises

-- ---- columns

-- each row has its columns
columns : {X : Type 0} (n : ℕ) (row : X → List Value) → ((x : X) → length (row x) ≡ n) → (xs : List X) → All (λ r. length r ≡ n) (map row xs)
columns n row each xs = All-map (λ r. length r ≡ n) row xs (λ k d within. each (get_or xs k d))

pub columns-class_rows : (meta : Metamodel) (g : Model) (c : ClassId) → All (λ row. length row ≡ 1) (class_rows meta g c)
columns-class_rows meta g c = columns 1 (λ (o : Object). Obj o.number ∷ []) (λ o. refl) (filter (λ (o : Object). isa meta o.class c) g.live)

pub columns-attribute_rows : (g : Model) (a : AttrId) → All (λ row. length row ≡ 2) (attribute_rows g a)
columns-attribute_rows g a = columns 2 (λ (t : AttributeValue). Obj t.object ∷ t.value ∷ []) (λ t. refl) (filter (λ (t : AttributeValue). t.attribute.0 == a.0) g.values)

pub columns-reference_rows : (g : Model) (r : RefId) → All (λ row. length row ≡ 2) (reference_rows g r)
columns-reference_rows g r = columns 2 (λ (link : Link). Obj link.source ∷ Obj link.target ∷ []) (λ link. refl) (filter (λ (link : Link). link.reference.0 == r.0) g.links)
