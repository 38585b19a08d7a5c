-- The rows of what a list has without another are the rows that it has without the other's.
use Rattle.std.proofs.Common.{◌≡◌, Bool, true, false, not, List, [], ◌∷◌, map, refl, sym, ap, ◌∙◌, cond}
use Rattle.std.specs.Prelude.{Contains, Decides, filter}
use Rattle.std.specs.List.{list_any}
use Rattle.std.proofs.lemmas.Map.Made.{is_member-Decides}
use Rattle.vt_facts.proofs.MemberLemmas.{Contains-head, Contains-behind, Contains-map, Contains-from_map, Contains-filter, Contains-from_filter}
use Rattle.vt_base.specs.Rows.{has_row}
use Rattle.vt_delta.specs.Changes.{without}
use Rattle.vt_base.specs.declared.value.Value.{Value}
use Rattle.vt_base.specs.Inside.OrderLaws.{IsTotalOrder-tuple_cmp}
use Rattle.vt_base.proofs.OrderLemmas.{exact-tuple_cmp, eq_by_cmp-Decides}
use Rattle.vt_store.specs.Edits

has_row-Decides : (rows : List (List Value)) (row : List Value) → Decides (has_row rows row) (Contains rows row)
has_row-Decides rows row = is_member-Decides (eq_by_cmp-Decides IsTotalOrder-tuple_cmp exact-tuple_cmp) rows row

-- two tests of which each says the other are the same
same_test : (a b : Bool) → (a ≡ true → b ≡ true) → (b ≡ true → a ≡ true) → a ≡ b
same_test true b there back = sym (there refl)
same_test false true there back = back refl
same_test false false there back = refl

module _ {T : Type 0} (same : T → T → Bool) (decides : (x y : T) → Decides (same x y) (x ≡ y)) (p : T → Bool) (f : T → List Value) where
  -- the rows of a list
  abbrev pub rows : List T → List (List Value)
  rows xs = map f (filter p xs)

  -- an item that is chosen and its row stand together, where it is the only one with the row
  has_row-rows : (others : List T) (x : T) → p x ≡ true → ((y : T) → Contains others y → p y ≡ true → f y ≡ f x → x ≡ y)
      → has_row (rows others) (f x) ≡ list_any (same x) others
  has_row-rows others x passes only = same_test (has_row (rows others) (f x)) (list_any (same x) others) there back
    where
      there : has_row (rows others) (f x) ≡ true → list_any (same x) others ≡ true
      there found =
          let of = Contains-from_map f (filter p others) (f x) ((has_row-Decides (rows others) (f x)).0 found) in
          let stands = Contains-from_filter p others of.0 of.1 in
          let is : x ≡ of.0 = only of.0 stands.0 stands.1 of.2 in
          (is_member-Decides decides others x).1 (rw is stands.0)

      back : list_any (same x) others ≡ true → has_row (rows others) (f x) ≡ true
      back found = (has_row-Decides (rows others) (f x)).1
          (Contains-map f (filter p others) x (Contains-filter p others x ((is_member-Decides decides others x).0 found) passes))

  -- where a row tells its item, in both lists
  pub without-rows : (others xs : List T) → ((x y : T) → Contains xs x → Contains others y → p x ≡ true → p y ≡ true → f y ≡ f x → x ≡ y)
      → rows (Edits.without same others xs) ≡ without (rows others) (rows xs)
  without-rows others [] only = refl
  without-rows others (x ∷ xs) only = by (without-rows others xs (λ y z there. only y z (Contains-behind x y xs there))) (p x) refl (list_any (same x) others) refl
    where
      by : rows (Edits.without same others xs) ≡ without (rows others) (rows xs)
          → (passes : Bool) → p x ≡ passes → (found : Bool) → list_any (same x) others ≡ found
          → map f (filter p (cond (not found) (x ∷ Edits.without same others xs) (Edits.without same others xs))) ≡ without (rows others) (map f (cond passes (x ∷ filter p xs) (filter p xs)))
      by rest true is true found = let e : has_row (rows others) (f x) ≡ true = has_row-rows others x is (λ y there. only x y (Contains-head x xs) there is) ∙ found in rw e rest
      by rest true is false found = let e : has_row (rows others) (f x) ≡ false = has_row-rows others x is (λ y there. only x y (Contains-head x xs) there is) ∙ found in rw (is, e) (ap (λ more. f x ∷ more) rest)
      by rest false is true found = rest
      by rest false is false found = rw is rest
