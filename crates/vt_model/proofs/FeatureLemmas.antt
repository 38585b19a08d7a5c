-- The features that are kept for each class are those that the definition finds.
use Rattle.std.proofs.Common.{◌≡◌, ℕ, ◌+◌, List, [], ◌∷◌, ◌++◌, length, map, get_or, take, refl, sym, ap, subst, ◌∙◌, ⊎_elim, cond, Bool, true, false, arith, length-append}
use Rattle.std.specs.Prelude.{◌<◌, ◌≤◌, ◌&&◌, ◌==◌, nat_eq, All, find, position, slice_get, unwrap_or, is_some, Option, Some, None, option_map, option_and_then}
use Rattle.std.specs.List.{list_any}
use Rattle.std.specs.Option.{option_or}
use Rattle.std.proofs.lemmas.Bool.{cases_lt, ne_eqb, lt-ltb, le-ltb, eqb-true, eq-eqb, or_parts, or_from, or_left, or_right, and_left, and_right, true≢false}
use Rattle.std.proofs.lemmas.List.{take_more, get_or_append_left, get_or_at}
use Rattle.std.proofs.lemmas.List.Folds.{find-append, list_any-append, list_any_at, list_any_none}
use Rattle.std.proofs.lemmas.List.Elements.{All-head, All-tail, All-weaker}
use Rattle.std.proofs.lemmas.Option.{slice_get-get_or, slice_get_past, same_Some}
use Rattle.indexmap.specs.IndexMap.{IndexMap, get}
use Rattle.vt_base.specs.declared.numbers.ClassId.{ClassId}
use Rattle.vt_model.specs.Metamodel.{Metamodel, as_metamodel, is_within, isa, feature, or_reference, is_attribute_of, is_reference_of}
use Rattle.vt_facts.specs.Names.{is_name}
use Rattle.vt_model.specs.Places.{place_in, FindsIn}
use Rattle.vt_model.specs.Inside.Tables.{is_marked, MarksAbove}
use Rattle.vt_model.specs.Inside.FeatureTable.{all_names, name_number, attribute_entries, reference_entries, all_entries, is_entry_of, first_entry, feature_if, kept_at, KeepsFirst, FindsFeatures, AreFeatures}
use Rattle.vt_model.specs.declared.places.Places.{Places}
use Rattle.vt_model.specs.Sound.{IsSound}
use Rattle.vt_model.specs.declared.metamodel.Lists.{Lists}
use Rattle.vt_model.specs.declared.metamodel.AttrInfo.{AttrInfo}
use Rattle.vt_model.specs.declared.metamodel.RefInfo.{RefInfo}
use Rattle.vt_model.specs.declared.metamodel.Feature.{Feature}
use Rattle.vt_model.specs.declared.metamodel.Feature.TheVariants.{Attr, Ref}
use Rattle.vt_model.specs.declared.features.Entry.{Entry}
use Rattle.vt_model.specs.declared.features.Features.{Features}
use Rattle.vt_facts.proofs.PositionLemmas.{position-cons, position_agree, IsAt-position}
use Rattle.vt_model.proofs.PlacesLemmas.{same_name, is_name-itself}
use Rattle.vt_model.proofs.DistinctLemmas.{is_some-position}
use Rattle.vt_model.proofs.AboveLemmas.{same_bool}
use Rattle.vt_model.proofs.TableLemmas.{alone_of_classes}
use Rattle.vt_facts.proofs.MapLemmas.{list_any-map}

-- ---- one more entry, one more row

option_map-option_or : {X Y : Type 0} (f : X → Y) (a b : Option X) → option_map f (option_or a b) ≡ option_or (option_map f a) (option_map f b)
option_map-option_or f None b = refl
option_map-option_or f (Some x) b = refl

pub first_entry-append : (above : List (List Bool)) (class number : ℕ) (xs ys : List Entry) → first_entry above class number (xs ++ ys) ≡ option_or (first_entry above class number xs) (first_entry above class number ys)
first_entry-append above class number xs ys =
    ap (option_map (λ (e : Entry). e.feature)) (find-append (is_entry_of above class number) xs ys)
    ∙ option_map-option_or (λ (e : Entry). e.feature) (find (is_entry_of above class number) xs) (find (is_entry_of above class number) ys)

one_entry : (above : List (List Bool)) (class number : ℕ) (e : Entry) → first_entry above class number (e ∷ []) ≡ feature_if (is_entry_of above class number e) e.feature
one_entry above class number e = by (is_entry_of above class number e)
  where
    by : (b : Bool) → option_map (λ (e : Entry). e.feature) (cond b (Some e) None) ≡ feature_if b e.feature
    by true = refl
    by false = refl

pub first_entry_more : (above : List (List Bool)) (class number : ℕ) (entries : List Entry) (i : ℕ) (d : Entry) → i < length entries
    → option_or (first_entry above class number (take i entries)) (feature_if (is_entry_of above class number (get_or entries i d)) (get_or entries i d).feature) ≡ first_entry above class number (take (i + 1) entries)
first_entry_more above class number entries i d below =
    sym (ap (first_entry above class number) (take_more entries i d below)
    ∙ first_entry-append above class number (take i entries) (get_or entries i d ∷ [])
    ∙ ap (option_or (first_entry above class number (take i entries))) (one_entry above class number (get_or entries i d)))

module _ {S : Type 0} (entries : List Entry) (above : List (List Bool)) where
  pub keeps_more : (count : ℕ) (rows : List (IndexMap ℕ Feature S)) (row : IndexMap ℕ Feature S) → length rows ≡ count → KeepsFirst entries above count rows
      → ((number : ℕ) → get nat_eq row number ≡ first_entry above count number entries) → KeepsFirst entries above (count + 1) (rows ++ row ∷ [])
  keeps_more count rows row len keeps made class number = ⊎_elim
      (λ before. ap (λ r. at r) (earlier before) ∙ keeps class number ∙ ap choose (lt-ltb class count before ∙ sym (lt-ltb class (count + 1) (omega arith))))
      (λ past. ⊎_elim
      (λ here.
      let same : class ≡ count = omega arith in
      ap (λ r. at r) (last same) ∙ made number ∙ ap (λ c. first_entry above c number entries) (sym same) ∙ ap choose (sym (lt-ltb class (count + 1) (omega arith))))
      (λ behind. ap (λ r. at r) (none behind) ∙ ap choose (sym (le-ltb class (count + 1) behind)))
      (cases_lt class (count + 1)))
      (cases_lt class count)
    where
      at : Option (IndexMap ℕ Feature S) → Option Feature
      at r = option_and_then (λ row. get nat_eq row number) r

      choose : Bool → Option Feature
      choose b = cond b (first_entry above class number entries) None

      earlier : class < count → slice_get (rows ++ row ∷ []) class ≡ slice_get rows class
      earlier before =
          let within : class < length (rows ++ row ∷ []) = simp length-append (omega arith) in
          let inside : class < length rows = omega arith in
          slice_get-get_or (rows ++ row ∷ []) class row within ∙ ap Some (get_or_append_left rows (row ∷ []) row class inside) ∙ sym (slice_get-get_or rows class row inside)

      last : class ≡ count → slice_get (rows ++ row ∷ []) class ≡ Some row
      last same =
          let within : class < length (rows ++ row ∷ []) = simp length-append (omega arith) in
          slice_get-get_or (rows ++ row ∷ []) class row within ∙ ap Some (get_or_at rows row [] row class (len ∙ sym same))

      none : count + 1 ≤ class → slice_get (rows ++ row ∷ []) class ≡ None
      none behind =
          let past : length (rows ++ row ∷ []) ≤ class = simp length-append (omega arith) in
          slice_get_past (rows ++ row ∷ []) class past

-- ---- names by their numbers

module _ (names : List (List ℕ)) (p : Places) (finds : FindsIn names p) where
  -- two names have one number where they are one name
  number_tells : (x y : List ℕ) (k : ℕ) → is_some (place_in p x) ≡ true → place_in p y ≡ Some k → (name_number p x == k) ≡ is_name x y
  number_tells x y k there at = by (place_in p x) refl
    where
      by : (r : Option ℕ) → place_in p x ≡ r → (name_number p x == k) ≡ is_name x y
      by None e = absurd (true≢false (sym there ∙ ap is_some e))
      by (Some n) e = same_bool (name_number p x == k) (is_name x y)
          (λ same. let is : n ≡ k = sym (ap (λ r. unwrap_or r 0) e) ∙ eqb-true (name_number p x) k same in one_name n e is)
          (λ same. let is : x ≡ y = same_name x y same in eq-eqb (name_number p x) k (ap (name_number p) is ∙ ap (λ r. unwrap_or r 0) at))
        where
          one_name : (n : ℕ) → place_in p x ≡ Some n → n ≡ k → is_name x y ≡ true
          one_name n e is =
              let first = IsAt-position (λ m. is_name m x) names n (sym (finds x) ∙ e) in
              let second = IsAt-position (λ m. is_name m y) names k (sym (finds y) ∙ at) in
              let item : first.item ≡ second.item = same_Some first.item second.item (sym first.there ∙ ap (slice_get names) is ∙ second.there) in
              let whole : x ≡ y = sym (same_name first.item x first.passes) ∙ item ∙ same_name second.item y second.passes in
              subst (λ m. is_name x m ≡ true) whole (is_name-itself x)

  -- a name of the list has a number
  has_number : (x : List ℕ) → list_any (λ n. is_name n x) names ≡ true → is_some (place_in p x) ≡ true
  has_number x there = ap is_some (finds x) ∙ is_some-position (λ n. is_name n x) names ∙ there

  -- ---- features of one sort, in the order of their numbers

  module _ {I : Type 0} (name_of : I → List ℕ) (class_of : I → ClassId) (make : ℕ → Feature) (entries : ℕ → List I → List Entry)
      (entries-nil : (n : ℕ) → entries n [] ≡ [])
      (entries-cons : (n : ℕ) (i : I) (is : List I) → entries n (i ∷ is) ≡ record { number = name_number p (name_of i); class = class_of i; feature = make n } ∷ entries (n + 1) is)
      (above : List (List Bool)) (class : ℕ) (y : List ℕ) where
    abbrev test : I → Bool
    test i = is_marked above class (class_of i).0 && is_name (name_of i) y

    later : (n : ℕ) (r : Option ℕ) → option_map (λ i. make (n + 1 + i)) r ≡ option_map (λ i. make (n + i)) (option_map (λ i. i + 1) r)
    later n None = refl
    later n (Some i) = let same : n + 1 + i ≡ n + (i + 1) = omega arith in ap (λ k. Some (make k)) same

    first_of_sort : (k : ℕ) → place_in p y ≡ Some k → (n : ℕ) (is : List I) → All (λ i. is_some (place_in p (name_of i)) ≡ true) is
        → first_entry above class k (entries n is) ≡ option_map (λ i. make (n + i)) (position test is)
    first_of_sort k at n [] there = ap (first_entry above class k) (entries-nil n)
    first_of_sort k at n (i ∷ is) there =
        let e : Entry = record { number = name_number p (name_of i); class = class_of i; feature = make n } in
        let same : is_entry_of above class k e ≡ test i = ap (λ b. is_marked above class (class_of i).0 && b) (number_tells (name_of i) y k (All-head (λ i. is_some (place_in p (name_of i)) ≡ true) i is there) at) in
        let rest = first_of_sort k at (n + 1) is (All-tail (λ i. is_some (place_in p (name_of i)) ≡ true) i is there) ∙ later n (position test is) in
        ap (first_entry above class k) (entries-cons n i is)
        ∙ ap (λ b. option_map (λ (e : Entry). e.feature) (cond b (Some e) (find (is_entry_of above class k) (entries (n + 1) is)))) same
        ∙ by (test i) rest
        ∙ ap (option_map (λ i. make (n + i))) (sym (position-cons test i is))
      where
        by : (b : Bool) → first_entry above class k (entries (n + 1) is) ≡ option_map (λ i. make (n + i)) (option_map (λ i. i + 1) (position test is))
            → option_map (λ (e : Entry). e.feature) (cond b (Some (record { number = name_number p (name_of i); class = class_of i; feature = make n })) (find (is_entry_of above class k) (entries (n + 1) is)))
            ≡ option_map (λ i. make (n + i)) (cond b (Some 0) (option_map (λ i. i + 1) (position test is)))
        by true rest = let same : n ≡ n + 0 = omega arith in ap (λ k. Some (make k)) same
        by false rest = rest

    -- a name that none of them has
    none_of_sort : (is : List I) → list_any (λ n. is_name n y) (map name_of is) ≡ false → position test is ≡ None
    none_of_sort is none = nowhere (position test is) (is_some-position test is ∙ weaker is (sym (list_any-map (λ n. is_name n y) name_of is) ∙ none))
      where
        nowhere : (r : Option ℕ) → is_some r ≡ false → r ≡ None
        nowhere None e = refl
        nowhere (Some i) e = absurd (true≢false e)

        weaker : (is : List I) → list_any (λ i. is_name (name_of i) y) is ≡ false → list_any test is ≡ false
        weaker [] e = refl
        weaker (i ∷ is) e =
            let parts = or_parts (is_name (name_of i) y) (list_any (λ i. is_name (name_of i) y) is) e in
            or_from (test i) (list_any test is) (and_right (is_marked above class (class_of i).0) (is_name (name_of i) y) parts.0) (weaker is parts.1)

-- ---- the features of a metamodel

-- nothing passes a test
position_none : {X : Type 0} (p : X → Bool) (xs : List X) → All (λ x. p x ≡ false) xs → position p xs ≡ None
position_none p xs none = by (position p xs) (is_some-position p xs ∙ list_any_none p xs none)
  where
    by : (r : Option ℕ) → is_some r ≡ false → r ≡ None
    by None e = refl
    by (Some i) e = absurd (true≢false e)

join : (a r : Option ℕ) → option_or (option_map (λ i. Attr (record { 0 = 0 + i })) a) (option_map (λ i. Ref (record { 0 = 0 + i })) r) ≡ or_reference a r
join (Some a) r = let same : 0 + a ≡ a = omega arith in ap (λ i. Some (Attr (record { 0 = i }))) same
join None None = refl
join None (Some r) = let same : 0 + r ≡ r = omega arith in ap (λ i. Some (Ref (record { 0 = i }))) same

module _ (meta : Metamodel) (above : List (List Bool)) (count : ℕ) (f : Features) (are : AreFeatures meta.attributes meta.references above count f)
    (marks : MarksAbove meta.supers (length meta.classes) above)
    (outside : (c d : ClassId) → count ≤ c.0 → d.0 < count → isa meta c d ≡ false)
    (attributes_below : All (λ (a : AttrInfo). a.class.0 < count) meta.attributes) (references_below : All (λ (r : RefInfo). r.class.0 < count) meta.references) where
  abbrev names : List (List ℕ)
  names = all_names meta.attributes meta.references

  abbrev attribute_name : AttrInfo → List ℕ
  attribute_name a = a.name

  abbrev reference_name : RefInfo → List ℕ
  reference_name r = r.name

  attributes_there : All (λ (a : AttrInfo). is_some (place_in f.names a.name) ≡ true) meta.attributes
  attributes_there k d below =
      let a = get_or meta.attributes k d in
      let own : list_any (λ n. is_name n a.name) (map attribute_name meta.attributes) ≡ true =
      list_any-map (λ n. is_name n a.name) attribute_name meta.attributes ∙ list_any_at (λ (b : AttrInfo). is_name b.name a.name) meta.attributes k d below (is_name-itself a.name) in
      has_number names f.names are.names a.name (list_any-append (λ n. is_name n a.name) (map attribute_name meta.attributes) (map reference_name meta.references) ∙ or_left _ (list_any (λ n. is_name n a.name) (map reference_name meta.references)) own)

  references_there : All (λ (r : RefInfo). is_some (place_in f.names r.name) ≡ true) meta.references
  references_there k d below =
      let r = get_or meta.references k d in
      let own : list_any (λ n. is_name n r.name) (map reference_name meta.references) ≡ true =
      list_any-map (λ n. is_name n r.name) reference_name meta.references ∙ list_any_at (λ (b : RefInfo). is_name b.name r.name) meta.references k d below (is_name-itself r.name) in
      has_number names f.names are.names r.name (list_any-append (λ n. is_name n r.name) (map attribute_name meta.attributes) (map reference_name meta.references) ∙ or_right (list_any (λ n. is_name n r.name) (map attribute_name meta.attributes)) _ own)

  -- by the marks, the tests are those of the definition
  same_attribute : (c : ClassId) (name : List ℕ) → position (λ (a : AttrInfo). is_marked above c.0 a.class.0 && is_name a.name name) meta.attributes ≡ position (is_attribute_of meta c name) meta.attributes
  same_attribute c name = position_agree (λ (a : AttrInfo). is_marked above c.0 a.class.0 && is_name a.name name) (is_attribute_of meta c name) (λ a. ap (λ b. b && is_name a.name name) (marks c a.class)) meta.attributes

  same_reference : (c : ClassId) (name : List ℕ) → position (λ (r : RefInfo). is_marked above c.0 r.class.0 && is_name r.name name) meta.references ≡ position (is_reference_of meta c name) meta.references
  same_reference c name = position_agree (λ (r : RefInfo). is_marked above c.0 r.class.0 && is_name r.name name) (is_reference_of meta c name) (λ r. ap (λ b. b && is_name r.name name) (marks c r.class)) meta.references

  -- a name with a number, at a class that is there
  found : (c : ClassId) (name : List ℕ) (k : ℕ) → place_in f.names name ≡ Some k → first_entry above c.0 k (all_entries f.names meta.attributes meta.references) ≡ feature meta c name
  found c name k at =
      let first = first_of_sort names f.names are.names attribute_name (λ (a : AttrInfo). a.class) (λ n. Attr (record { 0 = n })) (attribute_entries f.names) (λ n. refl) (λ n i is. refl) above c.0 name k at 0 meta.attributes attributes_there in
      let second = first_of_sort names f.names are.names reference_name (λ (r : RefInfo). r.class) (λ n. Ref (record { 0 = n })) (reference_entries f.names) (λ n. refl) (λ n i is. refl) above c.0 name k at 0 meta.references references_there in
      first_entry-append above c.0 k (attribute_entries f.names 0 meta.attributes) (reference_entries f.names 0 meta.references)
      ∙ (λ j. option_or (first j) (second j))
      ∙ join (position (λ (a : AttrInfo). is_marked above c.0 a.class.0 && is_name a.name name) meta.attributes) (position (λ (r : RefInfo). is_marked above c.0 r.class.0 && is_name r.name name) meta.references)
      ∙ (λ j. or_reference (same_attribute c name j) (same_reference c name j))

  -- a name that no feature has
  unnamed : (c : ClassId) (name : List ℕ) → place_in f.names name ≡ None → None ≡ feature meta c name
  unnamed c name at =
      let none : list_any (λ n. is_name n name) names ≡ false = sym (is_some-position (λ n. is_name n name) names) ∙ ap is_some (sym (are.names name) ∙ at) in
      let parts = or_parts (list_any (λ n. is_name n name) (map attribute_name meta.attributes)) (list_any (λ n. is_name n name) (map reference_name meta.references)) (sym (list_any-append (λ n. is_name n name) (map attribute_name meta.attributes) (map reference_name meta.references)) ∙ none) in
      let first : position (is_attribute_of meta c name) meta.attributes ≡ None = sym (same_attribute c name) ∙ none_of_sort names f.names are.names attribute_name (λ (a : AttrInfo). a.class) (λ n. Attr (record { 0 = n })) (attribute_entries f.names) (λ n. refl) (λ n i is. refl) above c.0 name meta.attributes parts.0 in
      let second : position (is_reference_of meta c name) meta.references ≡ None = sym (same_reference c name) ∙ none_of_sort names f.names are.names reference_name (λ (r : RefInfo). r.class) (λ n. Ref (record { 0 = n })) (reference_entries f.names) (λ n. refl) (λ n i is. refl) above c.0 name meta.references parts.1 in
      λ j. or_reference (sym first j) (sym second j)

  -- no class
  nothing : (c : ClassId) (name : List ℕ) → count ≤ c.0 → None ≡ feature meta c name
  nothing c name past =
      let first : position (is_attribute_of meta c name) meta.attributes ≡ None = position_none (is_attribute_of meta c name) meta.attributes
      (All-weaker (λ (a : AttrInfo). a.class.0 < count) (λ a. is_attribute_of meta c name a ≡ false) (λ a below. and_left (isa meta c a.class) (is_name a.name name) (outside c a.class past below)) meta.attributes attributes_below) in
      let second : position (is_reference_of meta c name) meta.references ≡ None = position_none (is_reference_of meta c name) meta.references
      (All-weaker (λ (r : RefInfo). r.class.0 < count) (λ r. is_reference_of meta c name r ≡ false) (λ r below. and_left (isa meta c r.class) (is_name r.name name) (outside c r.class past below)) meta.references references_below) in
      λ j. or_reference (sym first j) (sym second j)

  pub finds_features : FindsFeatures meta f
  finds_features c name = by (place_in f.names name) refl
    where
      by : (r : Option ℕ) → place_in f.names name ≡ r → option_and_then (kept_at f.rows c.0) r ≡ feature meta c name
      by None at = unnamed c name at
      by (Some k) at = are.rows c.0 k ∙ ⊎_elim
          (λ here. ap (λ b. cond b (first_entry above c.0 k (all_entries f.names meta.attributes meta.references)) None) (lt-ltb c.0 count here) ∙ found c name k at)
          (λ past. ap (λ b. cond b (first_entry above c.0 k (all_entries f.names meta.attributes meta.references)) None) (le-ltb c.0 count past) ∙ nothing c name past)
          (cases_lt c.0 count)

-- ---- the tables of a sound metamodel

module _ (lists : Lists) (sound : IsSound (as_metamodel lists)) where
  abbrev meta : Metamodel
  meta = as_metamodel lists

  pub supers_there : All (All (λ (e : ClassId). e.0 < length lists.supers)) lists.supers
  supers_there = subst (λ n. All (All (λ (e : ClassId). e.0 < n)) lists.supers) (sym sound.one_list) sound.supers

  pub marks_classes : (rows : List (List Bool)) → MarksAbove lists.supers (length lists.supers) rows → MarksAbove lists.supers (length lists.classes) rows
  marks_classes rows marks = subst (λ n. MarksAbove lists.supers n rows) sound.one_list marks

  outside : (c d : ClassId) → length lists.classes ≤ c.0 → d.0 < length lists.classes → isa meta c d ≡ false
  outside c d past below =
      let other : nat_eq c.0 d.0 ≡ false = ne_eqb c.0 d.0 (λ e. omega arith) in
      let past_all : length lists.supers ≤ c.0 = subst (λ n. n ≤ c.0) (sym sound.one_list) past in
      (λ i. is_within lists.supers (sym sound.one_list i) c d) ∙ sym (alone_of_classes lists.supers supers_there c d past_all) ∙ other

  pub features_found : (rows : List (List Bool)) (f : Features) → MarksAbove lists.supers (length lists.supers) rows
      → AreFeatures lists.attributes lists.references rows (length lists.classes) f → FindsFeatures meta f
  features_found rows f marks are = finds_features meta rows (length lists.classes) f are (marks_classes rows marks) outside sound.owners sound.sources
