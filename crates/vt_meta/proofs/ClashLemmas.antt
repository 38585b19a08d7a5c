-- The features of a class, counted by the classes above it.
use Rattle.std.proofs.Common.{◌≡◌, ℕ, zero, suc, ◌+◌, ◌≤◌, ◌<◌, List, [], ◌∷◌, ◌++◌, length, map, filter, refl, sym, ap, subst, ◌∙◌, cond, Bool, true, false, arith}
use Rattle.std.specs.Prelude.{◌&&◌, ◌||◌, nat_eq, not, All, slice_get, Option, Some, None}
use Rattle.std.specs.List.{list_any, sum_by, IsDistinct, AllByRecursion}
use Rattle.std.specs.Option.{option_map_or}
use Rattle.std.proofs.lemmas.Bool.{and_parts, or_parts, or_from, not-true, not_from_false, eqb-true, eqb-false, ne_eqb}
use Rattle.std.proofs.lemmas.List.{map-append, length-map}
use Rattle.std.proofs.lemmas.List.Sums.{sum_by-cons}
use Rattle.std.proofs.lemmas.List.Elements.{filter-append, All-head, All-tail}
use Rattle.std.proofs.lemmas.Map.Keys.{IsDistinct-head, IsDistinct-tail}
use Rattle.vt_base.specs.declared.numbers.ClassId.{ClassId}
use Rattle.vt_model.specs.Metamodel.{isa, is_within, feature_names}
use Rattle.vt_meta.specs.Declarations.{declared_names, supers_in}
use Rattle.vt_facts.specs.Names.{is_name, is_distinct}
use Rattle.vt_meta.specs.Built.{Declared, declared_by, attributes_from, references_from, attr_info, ref_info, class_info, metamodel_of}
use Rattle.vt_meta.specs.Faults.{has_clash}
use Rattle.vt_meta.specs.Inside.Above.{supers_places}
use Rattle.vt_model.specs.Above.{class_id, ids, IsAbove}
use Rattle.vt_meta.specs.Inside.Features.{names_at, names_at_each}
use Rattle.vt_model.specs.declared.metamodel.AttrInfo.{AttrInfo}
use Rattle.vt_model.specs.declared.metamodel.RefInfo.{RefInfo}
use Rattle.vt_meta.specs.declared.document.ClassDocument.{ClassDocument}
use Rattle.vt_meta.specs.declared.document.AttributeDocument.{AttributeDocument}
use Rattle.vt_meta.specs.declared.document.ReferenceDocument.{ReferenceDocument}
use Rattle.vt_meta.specs.declared.document.MetamodelDocument.{MetamodelDocument}
use Rattle.vt_model.proofs.PlacesLemmas.{same_name, is_name-itself}
use Rattle.vt_meta.proofs.SupersLemmas.{ids_supers_places, length_supers}
use Rattle.vt_model.proofs.AboveLemmas.{same_bool}
use Rattle.vt_facts.proofs.BoolLemmas.{or-false}

-- ---- how often a name stands in a list

abbrev pub one_if : Bool → ℕ
one_if b = cond b 1 0

abbrev pub count : List ℕ → List (List ℕ) → ℕ
count q [] = 0
count q (n ∷ names) = one_if (is_name n q) + count q names

pub count_append : (q : List ℕ) (xs ys : List (List ℕ)) → count q (xs ++ ys) ≡ count q xs + count q ys
count_append q [] ys = omega arith
count_append q (x ∷ xs) ys = let rest = count_append q xs ys in omega arith

count-none : (q : List ℕ) (names : List (List ℕ)) → list_any (λ n. is_name n q) names ≡ false → count q names ≡ 0
count-none q [] e = refl
count-none q (n ∷ names) e =
    let parts = or_parts (is_name n q) (list_any (λ n. is_name n q) names) e in
    let here : one_if (is_name n q) ≡ 0 = ap one_if parts.0 in
    let rest = count-none q names parts.1 in
    omega arith

none-count : (q : List ℕ) (names : List (List ℕ)) → count q names ≡ 0 → list_any (λ n. is_name n q) names ≡ false
none-count q [] e = refl
none-count q (n ∷ names) e = or_from (is_name n q) (list_any (λ n. is_name n q) names) (here (is_name n q) refl) (none-count q names (omega arith))
  where
    here : (b : Bool) → is_name n q ≡ b → b ≡ false
    here false is = refl
    here true is = let one : one_if (is_name n q) ≡ 1 = ap one_if is in absurd (omega arith)

-- no name stands twice where none is counted twice, and the other way
count-distinct : (names : List (List ℕ)) → is_distinct names ≡ true → (q : List ℕ) → count q names ≤ 1
count-distinct [] e q = omega arith
count-distinct (n ∷ names) e q =
    let parts = and_parts (not (list_any (λ m. is_name m n) names)) (is_distinct names) e in
    by (is_name n q) refl (count-none n names (not-true (list_any (λ m. is_name m n) names) parts.0)) (count-distinct names parts.1 q)
  where
    by : (b : Bool) → is_name n q ≡ b → count n names ≡ 0 → count q names ≤ 1 → count q (n ∷ names) ≤ 1
    by true is none rest =
        let one : one_if (is_name n q) ≡ 1 = ap one_if is in
        let same : count n names ≡ count q names = ap (λ m. count m names) (same_name n q is) in
        omega arith
    by false is none rest = let one : one_if (is_name n q) ≡ 0 = ap one_if is in omega arith

distinct-count : (names : List (List ℕ)) → ((q : List ℕ) → count q names ≤ 1) → is_distinct names ≡ true
distinct-count [] few = refl
distinct-count (n ∷ names) few =
    let one : one_if (is_name n n) ≡ 1 = ap one_if (is_name-itself n) in
    let here : one_if (is_name n n) + count n names ≤ 1 = few n in
    let first : not (list_any (λ m. is_name m n) names) ≡ true = not_from_false (list_any (λ m. is_name m n) names) (none-count n names (omega arith)) in
    (λ i. first i && distinct-count names (λ q. let all : one_if (is_name n q) + count q names ≤ 1 = few q in omega arith) i)

same_distinct : (xs ys : List (List ℕ)) → ((q : List ℕ) → count q xs ≡ count q ys) → is_distinct xs ≡ true → is_distinct ys ≡ true
same_distinct xs ys same e = distinct-count ys (λ q. let x = count-distinct xs e q in let s = same q in omega arith)

-- ---- sums over places from n on

abbrev pub sum_up : ℕ → ℕ → (ℕ → ℕ) → ℕ
sum_up n zero f = 0
sum_up n (suc len) f = f n + sum_up (n + 1) len f

sum_up-zero : (n len : ℕ) → sum_up n len (λ _. 0) ≡ 0
sum_up-zero n zero = refl
sum_up-zero n (suc len) = let rest = sum_up-zero (n + 1) len in omega arith

sum_up-add : (n len : ℕ) (f g : ℕ → ℕ) → sum_up n len (λ i. f i + g i) ≡ sum_up n len f + sum_up n len g
sum_up-add n zero f g = refl
sum_up-add n (suc len) f g = let rest = sum_up-add (n + 1) len f g in omega arith

sum_up-past : (n len k v : ℕ) → k < n → sum_up n len (λ i. cond (nat_eq i k) v 0) ≡ 0
sum_up-past n zero k v past = refl
sum_up-past n (suc len) k v past =
    let rest : sum_up (n + 1) len (λ i. cond (nat_eq i k) v 0) ≡ 0 = sum_up-past (n + 1) len k v (omega arith) in
    let here : cond (nat_eq n k) v 0 ≡ 0 = ap (λ b. cond b v 0) (ne_eqb n k (λ e. omega arith)) in
    omega arith

sum_up-one : (n len k v : ℕ) → n ≤ k → k < n + len → sum_up n len (λ i. cond (nat_eq i k) v 0) ≡ v
sum_up-one n zero k v low high = absurd (omega arith)
sum_up-one n (suc len) k v low high = by (nat_eq n k) refl (λ later. sum_up-one (n + 1) len k v later (omega arith))
  where
    by : (b : Bool) → nat_eq n k ≡ b → (n + 1 ≤ k → sum_up (n + 1) len (λ i. cond (nat_eq i k) v 0) ≡ v) → cond (nat_eq n k) v 0 + sum_up (n + 1) len (λ i. cond (nat_eq i k) v 0) ≡ v
    by true is later =
        let here : cond (nat_eq n k) v 0 ≡ v = ap (λ b. cond b v 0) is in
        let same : n ≡ k = eqb-true n k is in
        let rest = sum_up-past (n + 1) len k v (omega arith) in
        omega arith
    by false is later =
        let here : cond (nat_eq n k) v 0 ≡ 0 = ap (λ b. cond b v 0) is in
        let other : n ≡ k → ⊥ = eqb-false n k is in
        let above : n + 1 ≤ k = omega arith in
        let rest = later above in
        omega arith

-- a key that none of the others is
absent : (k : ℕ) (keys : List ℕ) → AllByRecursion (λ y. nat_eq k y ≡ false) keys → list_any (nat_eq k) keys ≡ false
absent k [] none = refl
absent k (x ∷ keys) none = or_from (nat_eq k x) (list_any (nat_eq k) keys) none.0 (absent k keys none.1)

-- keys that differ, each counted at its place
sum_up-keys : (len : ℕ) (g : ℕ → ℕ) (keys : List ℕ) → IsDistinct nat_eq keys → All (λ k. k < len) keys
    → sum_by g keys ≡ sum_up 0 len (λ i. cond (list_any (nat_eq i) keys) (g i) 0)
sum_up-keys len g [] distinct below = sym (sum_up-zero 0 len)
sum_up-keys len g (k ∷ keys) distinct below =
    sum_by-cons g k keys
    ∙ ap (λ n. g k + n) (sum_up-keys len g keys (IsDistinct-tail nat_eq k keys distinct) (All-tail (λ k. k < len) k keys below))
    ∙ ap (λ n. n + sum_up 0 len (λ i. cond (list_any (nat_eq i) keys) (g i) 0)) (sym (sum_up-one 0 len k (g k) (omega arith) (omega (arith, All-head (λ k. k < len) k keys below))))
    ∙ sym (sum_up-add 0 len (λ i. cond (nat_eq i k) (g k) 0) (λ i. cond (list_any (nat_eq i) keys) (g i) 0))
    ∙ (λ j. sum_up 0 len (λ i. split i (nat_eq i k) refl j))
  where
    none : list_any (nat_eq k) keys ≡ false
    none = absent k keys (IsDistinct-head nat_eq k keys distinct)

    split : (i : ℕ) (b : Bool) → nat_eq i k ≡ b → cond (nat_eq i k) (g k) 0 + cond (list_any (nat_eq i) keys) (g i) 0 ≡ cond (nat_eq i k || list_any (nat_eq i) keys) (g i) 0
    split i true is =
        let same : i ≡ k = eqb-true i k is in
        let first : cond (nat_eq i k) (g k) 0 ≡ g k = ap (λ b. cond b (g k) 0) is in
        let second : cond (list_any (nat_eq i) keys) (g i) 0 ≡ 0 = ap (λ b. cond b (g i) 0) (ap (λ n. list_any (nat_eq n) keys) same ∙ none) in
        let whole : cond (nat_eq i k || list_any (nat_eq i) keys) (g i) 0 ≡ g i = ap (λ b. cond (b || list_any (nat_eq i) keys) (g i) 0) is in
        let value : g i ≡ g k = ap g same in
        omega arith
    split i false is =
        let first : cond (nat_eq i k) (g k) 0 ≡ 0 = ap (λ b. cond b (g k) 0) is in
        let whole : cond (nat_eq i k || list_any (nat_eq i) keys) (g i) 0 ≡ cond (list_any (nat_eq i) keys) (g i) 0 = ap (λ b. cond (b || list_any (nat_eq i) keys) (g i) 0) is in
        omega arith

-- ---- what the classes that pass a test declare

module _ {F I : Type 0} (is : ClassId → Bool) (name : F → List ℕ) (info : Declared F → I) (class_of : I → ClassId) (name_of : I → List ℕ)
    (same_class : (d : Declared F) → class_of (info d) ≡ d.class) (same_name_of : (d : Declared F) → name_of (info d) ≡ name d.feature) (q : List ℕ) where
  -- how often the name stands among those of some declarations
  abbrev counted : List (Declared F) → ℕ
  counted ds = count q (map name_of (filter (λ i. is (class_of i)) (map info ds)))

  counted-append : (xs ys : List (Declared F)) → counted (xs ++ ys) ≡ counted xs + counted ys
  counted-append xs ys =
      ap (λ l. count q (map name_of (filter (λ i. is (class_of i)) l))) (map-append info xs ys)
      ∙ ap (λ l. count q (map name_of l)) (filter-append (λ i. is (class_of i)) (map info xs) (map info ys))
      ∙ ap (count q) (map-append name_of (filter (λ i. is (class_of i)) (map info xs)) (filter (λ i. is (class_of i)) (map info ys)))
      ∙ count_append q (map name_of (filter (λ i. is (class_of i)) (map info xs))) (map name_of (filter (λ i. is (class_of i)) (map info ys)))

  nothing : (b : Bool) → cond {A = ℕ} b 0 0 ≡ 0
  nothing true = refl
  nothing false = refl

  pick : (d : Declared F) (rest : List I) (later : ℕ) (b : Bool) → count q (map name_of rest) ≡ cond b later 0
      → count q (map name_of (cond b (info d ∷ rest) rest)) ≡ cond b (one_if (is_name (name d.feature) q) + later) 0
  pick d rest later true e = λ i. one_if (is_name (same_name_of d i) q) + e i
  pick d rest later false e = e

  counted-declared_by : (n : ℕ) (fs : List F) → counted (declared_by n fs) ≡ cond (is (class_id n)) (count q (map name fs)) 0
  counted-declared_by n [] = sym (nothing (is (class_id n)))
  counted-declared_by n (f ∷ fs) =
      let d : Declared F = record { class = class_id n; feature = f } in
      let rest : List I = filter (λ i. is (class_of i)) (map info (declared_by n fs)) in
      ap (λ c. count q (map name_of (cond (is c) (info d ∷ rest) rest))) (same_class d)
      ∙ pick d rest (count q (map name fs)) (is (class_id n)) (counted-declared_by n fs)

  module _ (own : ClassDocument → List F) (from : ℕ → List ClassDocument → List (Declared F))
      (from-nil : (n : ℕ) → from n [] ≡ []) (from-cons : (n : ℕ) (c : ClassDocument) (cs : List ClassDocument) → from n (c ∷ cs) ≡ declared_by n (own c) ++ from (n + 1) cs) where
    pub counted-from : (n : ℕ) (cs : List ClassDocument) (g : ℕ → ℕ) → ((j : ℕ) (c : ClassDocument) → slice_get cs j ≡ Some c → g (n + j) ≡ count q (map name (own c)))
        → counted (from n cs) ≡ sum_up n (length cs) (λ i. cond (is (class_id i)) (g i) 0)
    counted-from n [] g agree = ap counted (from-nil n)
    counted-from n (c ∷ cs) g agree =
        let none : n ≡ n + 0 = omega arith in
        let here : g n ≡ count q (map name (own c)) = ap g none ∙ agree 0 c refl in
        ap counted (from-cons n c cs)
        ∙ counted-append (declared_by n (own c)) (from (n + 1) cs)
        ∙ ap (λ k. k + counted (from (n + 1) cs)) (counted-declared_by n (own c) ∙ ap (λ k. cond (is (class_id n)) k 0) (sym here))
        ∙ ap (λ k. cond (is (class_id n)) (g n) 0 + k) (counted-from (n + 1) cs g (λ j c' e. let next : n + 1 + j ≡ n + suc j = omega arith in ap g next ∙ agree (suc j) c' e))

-- ---- the features of a class

module _ (document : MetamodelDocument) where
  abbrev classes : List ClassDocument
  classes = document.classes

  attribute_count : List ℕ → ℕ → ℕ
  attribute_count q i = option_map_or (λ (c : ClassDocument). count q (map (λ a. a.name) c.attributes)) (slice_get document.classes i) 0

  reference_count : List ℕ → ℕ → ℕ
  reference_count q i = option_map_or (λ (c : ClassDocument). count q (map (λ r. r.name) c.references)) (slice_get document.classes i) 0

  -- what is above the class with a number
  abbrev above : ClassId → ClassId → Bool
  above c d = isa (metamodel_of document) c d

  counted-attributes : (q : List ℕ) (c : ClassId)
      → count q (map (λ (a : AttrInfo). a.name) (filter (λ (a : AttrInfo). above c a.class) (map (attr_info document) (attributes_from 0 document.classes))))
      ≡ sum_up 0 (length document.classes) (λ i. cond (above c (class_id i)) (attribute_count q i) 0)
  unfolding attribute_count
  counted-attributes q c = counted-from (above c) (λ (a : AttributeDocument). a.name) (attr_info document) (λ (a : AttrInfo). a.class) (λ (a : AttrInfo). a.name) (λ d. refl) (λ d. refl) q
      (λ (c : ClassDocument). c.attributes) attributes_from (λ n. refl) (λ n c cs. refl) 0 document.classes (attribute_count q)
      (λ j c e. let same : 0 + j ≡ j = omega arith in ap (λ k. option_map_or (λ (c : ClassDocument). count q (map (λ a. a.name) c.attributes)) (slice_get document.classes k) 0) same ∙ ap (λ r. option_map_or (λ (c : ClassDocument). count q (map (λ a. a.name) c.attributes)) r 0) e)

  counted-references : (q : List ℕ) (c : ClassId)
      → count q (map (λ (r : RefInfo). r.name) (filter (λ (r : RefInfo). above c r.class) (map (ref_info document) (references_from 0 document.classes))))
      ≡ sum_up 0 (length document.classes) (λ i. cond (above c (class_id i)) (reference_count q i) 0)
  unfolding reference_count
  counted-references q c = counted-from (above c) (λ (r : ReferenceDocument). r.name) (ref_info document) (λ (r : RefInfo). r.class) (λ (r : RefInfo). r.name) (λ d. refl) (λ d. refl) q
      (λ (c : ClassDocument). c.references) references_from (λ n. refl) (λ n c cs. refl) 0 document.classes (reference_count q)
      (λ j c e. let same : 0 + j ≡ j = omega arith in ap (λ k. option_map_or (λ (c : ClassDocument). count q (map (λ r. r.name) c.references)) (slice_get document.classes k) 0) same ∙ ap (λ r. option_map_or (λ (c : ClassDocument). count q (map (λ r. r.name) c.references)) r 0) e)

  both : (q : List ℕ) (b : Bool) (i : ℕ) → cond b (attribute_count q i) 0 + cond b (reference_count q i) 0 ≡ cond b (count q (names_at document.classes i)) 0
  unfolding attribute_count reference_count
  both q true i = by (slice_get document.classes i)
    where
      by : (r : Option ClassDocument) → option_map_or (λ (c : ClassDocument). count q (map (λ a. a.name) c.attributes)) r 0 + option_map_or (λ (c : ClassDocument). count q (map (λ r. r.name) c.references)) r 0
          ≡ count q (option_map_or declared_names r [])
      by None = refl
      by (Some c) = sym (count_append q (map (λ a. a.name) c.attributes) (map (λ r. r.name) c.references))
  both q false i = refl

  counted-feature_names : (q : List ℕ) (c : ClassId)
      → count q (feature_names (metamodel_of document) c) ≡ sum_up 0 (length document.classes) (λ i. cond (above c (class_id i)) (count q (names_at document.classes i)) 0)
  counted-feature_names q c =
      count_append q (map (λ (a : AttrInfo). a.name) (filter (λ (a : AttrInfo). above c a.class) (map (attr_info document) (attributes_from 0 document.classes)))) (map (λ (r : RefInfo). r.name) (filter (λ (r : RefInfo). above c r.class) (map (ref_info document) (references_from 0 document.classes))))
      ∙ (λ j. counted-attributes q c j + counted-references q c j)
      ∙ sym (sum_up-add 0 (length document.classes) (λ i. cond (above c (class_id i)) (attribute_count q i) 0) (λ i. cond (above c (class_id i)) (reference_count q i) 0))
      ∙ (λ j. sum_up 0 (length document.classes) (λ i. both q (above c (class_id i)) i j))

  counted-names_at_each : (q : List ℕ) (keys : List ℕ) → count q (names_at_each document.classes keys) ≡ sum_by (λ i. count q (names_at document.classes i)) keys
  counted-names_at_each q [] = refl
  counted-names_at_each q (k ∷ keys) =
      count_append q (names_at document.classes k) (names_at_each document.classes keys)
      ∙ ap (λ n. count q (names_at document.classes k) + n) (counted-names_at_each q keys)
      ∙ sym (sum_by-cons (λ i. count q (names_at document.classes i)) k keys)

  is_above : (supers : List (List ℕ)) (c : ℕ) (keys : List ℕ) → supers ≡ supers_places document → IsAbove supers (c ∷ []) keys
      → (i : ℕ) → list_any (nat_eq i) keys ≡ above (class_id c) (class_id i)
  is_above supers c keys is w i =
      let above_there : ids supers ≡ supers_in document = ap ids is ∙ ids_supers_places document in
      let steps : length supers ≡ length (map class_info document.classes) = length_supers document supers is ∙ sym (length-map document.classes class_info) in
      w.exact i ∙ or-false (is_within (ids supers) (length supers) (class_id c) (class_id i)) ∙ (λ j. is_within (above_there j) (steps j) (class_id c) (class_id i))

  same_count : (supers : List (List ℕ)) (c : ℕ) (keys : List ℕ) → supers ≡ supers_places document → IsAbove supers (c ∷ []) keys
      → (q : List ℕ) → count q (names_at_each document.classes keys) ≡ count q (feature_names (metamodel_of document) (class_id c))
  same_count supers c keys is w q =
      let len : length supers ≡ length document.classes = length_supers document supers is in
      counted-names_at_each q keys
      ∙ sum_up-keys (length document.classes) (λ i. count q (names_at document.classes i)) keys w.distinct (subst (λ n. All (λ k. k < n) keys) len w.there)
      ∙ (λ j. sum_up 0 (length document.classes) (λ i. cond (is_above supers c keys is w i j) (count q (names_at document.classes i)) 0))
      ∙ sym (counted-feature_names q (class_id c))

  pub clash : (supers : List (List ℕ)) (c : ℕ) (keys : List ℕ) → supers ≡ supers_places document → IsAbove supers (c ∷ []) keys
      → not (is_distinct (names_at_each document.classes keys)) ≡ has_clash document (class_id c)
  clash supers c keys is w =
      let same = same_count supers c keys is w in
      ap not (same_bool (is_distinct (names_at_each document.classes keys)) (is_distinct (feature_names (metamodel_of document) (class_id c)))
      (same_distinct (names_at_each document.classes keys) (feature_names (metamodel_of document) (class_id c)) same)
      (same_distinct (feature_names (metamodel_of document) (class_id c)) (names_at_each document.classes keys) (λ q. sym (same q))))
