-- A list that rises by a number: where a binary search ends, and what stands after a change there.
use Rattle.std.proofs.Common.{◌≡◌, ℕ, zero, suc, ◌+◌, ◌<◌, ◌≤◌, List, [], ◌∷◌, length, map, get_or, set, insert, remove, refl, sym, ap, subst, ◌∙◌, cond, Bool, false, not, arith, eqb, eq-eqb, ne_eqb, Result, Ok, Err, Some, None, find, filter}
use Rattle.std.specs.Ordering.{nat_cmp, ordering_index, ordering_reverse, match_ordering, is_lt, MatchOrdering}
use Rattle.std.specs.declared.cmp.Ordering.{Ordering}
use Rattle.std.specs.declared.cmp.Ordering.TheVariants.{Less, Equal, Greater}
use Rattle.std.specs.Cmp.{ranks, nat_cmp_is, nat_cmp_total}
use Rattle.std.specs.BTreeSet.{insert_key}
use Rattle.std.specs.List.{AllByRecursion, AllWithin}
use Rattle.std.specs.List.Sorted.{IsStrictlySortedBy, IsNonDecreasingBy, IsSearchInRange, IsBinarySearchResult}
use Rattle.std.proofs.lemmas.List.Elements.{All-from_all_within, recursion_from_All}
use Rattle.std.proofs.lemmas.List.Sorted.{searchable_from_sorted}
use Rattle.std.proofs.lemmas.Map.Keys.{sorted_head, sorted_tail, Less-from_sorted}
use Rattle.vt_slots.specs.Inside.Place.{StandsAt, GoesAt, IsPlace}

-- ---- numbers in order

pub below : (a b : ℕ) → nat_cmp a b ≡ Less → a < b
below a b e = subst (λ r. MatchOrdering r (a < b) (a ≡ b) (b < a)) e (ranks a b)

same : (a b : ℕ) → nat_cmp a b ≡ Equal → a ≡ b
same a b e = subst (λ r. MatchOrdering r (a < b) (a ≡ b) (b < a)) e (ranks a b)

above : (a b : ℕ) → nat_cmp a b ≡ Greater → b < a
above a b e = subst (λ r. MatchOrdering r (a < b) (a ≡ b) (b < a)) e (ranks a b)

pub is_less : (a b : ℕ) → a < b → nat_cmp a b ≡ Less
is_less a b l = sym (nat_cmp_is a b Less l)

is_equal : (a b : ℕ) → a ≡ b → nat_cmp a b ≡ Equal
is_equal a b e = sym (nat_cmp_is a b Equal e)

is_greater : (a b : ℕ) → b < a → nat_cmp a b ≡ Greater
is_greater a b l = sym (nat_cmp_is a b Greater l)

module _ {X : Type 0} (key : X → ℕ) where
  abbrev pub key_order : X → X → Ordering
  key_order x y = nat_cmp (key x) (key y)

  abbrev pub has_key : ℕ → X → Bool
  has_key k x = eqb (key x) k

  has_low : (k : ℕ) (x : X) → key x < k → has_key k x ≡ false
  has_low k x l = ne_eqb (key x) k (λ (e : key x ≡ k). let no : ⊥ = omega arith in no)

  has_high : (k : ℕ) (x : X) → k < key x → has_key k x ≡ false
  has_high k x l = ne_eqb (key x) k (λ (e : key x ≡ k). let no : ⊥ = omega arith in no)

  -- ---- where a binary search ends

  rises : (k : ℕ) (xs : List X) → IsStrictlySortedBy key_order xs → IsNonDecreasingBy (λ y. ordering_index (nat_cmp (key y) k)) xs
  rises k xs s = searchable_from_sorted nat_cmp_total key xs k
      (λ i d _ lt. ap is_lt (nat_cmp_total.antisymm (key (get_or xs (i + 1) d)) (key (get_or xs i d)) ∙ ap ordering_reverse (Less-from_sorted key_order xs i (i + 1) d s (omega arith) lt)))

  above_each : (k : ℕ) (x : X) (ys : List X) → key x ≡ k → AllByRecursion (λ y. key_order x y ≡ Less) ys → AllByRecursion (λ y. k < key y) ys
  above_each k x [] e b = tt
  above_each k x (y ∷ ys) e b = (subst (λ n. n < key y) e (below _ _ b.0), above_each k x ys e b.1)

  stands : (k : ℕ) (xs : List X) (i : ℕ) → IsStrictlySortedBy key_order xs → i < length xs → ((d : X) → nat_cmp (key (get_or xs i d)) k ≡ Equal) → StandsAt key k xs i
  stands k [] i s inside e = absurd (omega arith)
  stands k (x ∷ xs) zero s inside e = let is : key x ≡ k = same (key x) k (e x) in (is, above_each k x xs is (sorted_head key_order x xs s))
  stands k (x ∷ xs) (suc i) s inside e =
      let is : key (get_or xs i x) ≡ k = same _ k (e x) in
      let first : key x < key (get_or xs i x) = below _ _ (Less-from_sorted key_order (x ∷ xs) 0 (suc i) x s (omega arith) inside) in
      (omega arith, stands k xs i (sorted_tail key_order x xs s) (omega arith) e)

  goes : (k : ℕ) (xs : List X) (i : ℕ) → i ≤ length xs → AllWithin (λ y. nat_cmp (key y) k ≡ Less) xs 0 i → AllWithin (λ y. nat_cmp (key y) k ≡ Greater) xs i (length xs) → GoesAt key k xs i
  goes k [] zero inside low high = tt
  goes k [] (suc i) inside low high = absurd (omega arith)
  goes k (x ∷ xs) zero inside low high = recursion_from_All (λ y. k < key y) (x ∷ xs) (All-from_all_within (λ y. k < key y) (x ∷ xs) (λ j d a b. above _ k (high j d a b)))
  goes k (x ∷ xs) (suc i) inside low high = (
    below (key x) k (low 0 x (omega arith) (omega arith)),
    goes k xs i (omega arith) (λ j d a b. low (suc j) d (omega arith) (omega arith)) (λ j d a b. high (suc j) d (omega arith) (omega arith)),
  )

  pub placed : (xs : List X) (k : ℕ) (r : Result ℕ ℕ) → IsStrictlySortedBy key_order xs → IsSearchInRange r (length xs) → IsBinarySearchResult (λ y. nat_cmp (key y) k) xs r → IsPlace key k xs r
  placed xs k (Ok i) s bound found = stands k xs i s bound found
  placed xs k (Err i) s bound gap = let sides = gap (rises k xs s) in goes k xs i bound sides.0 sides.1

  -- ---- an item that is found

  find_above : (k : ℕ) (xs : List X) → AllByRecursion (λ y. k < key y) xs → find (has_key k) xs ≡ None
  find_above k [] h = refl
  find_above k (x ∷ xs) h = ap (λ b. cond b (Some x) (find (has_key k) xs)) (has_high k x h.0) ∙ find_above k xs h.1

  pub find_stands : (k : ℕ) (xs : List X) (i : ℕ) → StandsAt key k xs i → (d : X) → find (has_key k) xs ≡ Some (get_or xs i d)
  find_stands k [] i h d = absurd h
  find_stands k (x ∷ xs) zero h d = ap (λ b. cond b (Some x) (find (has_key k) xs)) (eq-eqb (key x) k h.0)
  find_stands k (x ∷ xs) (suc i) h d = ap (λ b. cond b (Some x) (find (has_key k) xs)) (has_low k x h.0) ∙ find_stands k xs i h.1 d

  pub find_goes : (k : ℕ) (xs : List X) (i : ℕ) → GoesAt key k xs i → find (has_key k) xs ≡ None
  find_goes k [] i h = refl
  find_goes k (x ∷ xs) zero h = find_above k (x ∷ xs) h
  find_goes k (x ∷ xs) (suc i) h = ap (λ b. cond b (Some x) (find (has_key k) xs)) (has_low k x h.0) ∙ find_goes k xs i h.1

  pub inside_stands : (k : ℕ) (xs : List X) (i : ℕ) → StandsAt key k xs i → i < length xs
  inside_stands k [] i h = absurd h
  inside_stands k (x ∷ xs) zero h = omega arith
  inside_stands k (x ∷ xs) (suc i) h = let rest = inside_stands k xs i h.1 in omega arith

  pub inside_goes : (k : ℕ) (xs : List X) (i : ℕ) → GoesAt key k xs i → i ≤ length xs
  inside_goes k [] zero h = omega arith
  inside_goes k [] (suc i) h = absurd h
  inside_goes k (x ∷ xs) zero h = omega arith
  inside_goes k (x ∷ xs) (suc i) h = let rest = inside_goes k xs i h.1 in omega arith

  -- the item at the place has the number
  pub key_stands : (k : ℕ) (xs : List X) (i : ℕ) → StandsAt key k xs i → (d : X) → key (get_or xs i d) ≡ k
  key_stands k [] i h d = absurd h
  key_stands k (x ∷ xs) zero h d = h.0
  key_stands k (x ∷ xs) (suc i) h d = key_stands k xs i h.1 d

  -- ---- an item that is changed

  below_alike : (x y : X) (xs ys : List X) → key y ≡ key x → map key ys ≡ map key xs → AllByRecursion (λ z. key_order x z ≡ Less) xs → AllByRecursion (λ z. key_order y z ≡ Less) ys
  below_alike x y xs [] head tail b = tt
  below_alike x y [] (z ∷ ys) head tail b = cc
  below_alike x y (w ∷ xs) (z ∷ ys) head tail b =
      let first : key z ≡ key w = cc in
      let rest : map key ys ≡ map key xs = cc in
      (ap (λ n. nat_cmp n (key z)) head ∙ ap (nat_cmp (key x)) first ∙ b.0, below_alike x y xs ys head rest b.1)

  -- the order of a list is that of its numbers
  pub sorted_alike : (xs ys : List X) → map key ys ≡ map key xs → IsStrictlySortedBy key_order xs → IsStrictlySortedBy key_order ys
  unfolding IsStrictlySortedBy
  sorted_alike xs [] e s = tt
  sorted_alike [] (y ∷ ys) e s = cc
  sorted_alike (x ∷ xs) (y ∷ ys) e s =
      let head : key y ≡ key x = cc in
      let tail : map key ys ≡ map key xs = cc in
      (below_alike x y xs ys head tail s.0, sorted_alike xs ys tail s.1)

  map_above : (k : ℕ) (f : X → X) (xs : List X) → AllByRecursion (λ y. k < key y) xs → map (λ x. cond (has_key k x) (f x) x) xs ≡ xs
  map_above k f [] h = refl
  map_above k f (x ∷ xs) h = ap (λ b. cond b (f x) x ∷ map (λ y. cond (has_key k y) (f y) y) xs) (has_high k x h.0) ∙ ap (λ ys. x ∷ ys) (map_above k f xs h.1)

  pub map_stands : (k : ℕ) (f : X → X) (xs : List X) (i : ℕ) → StandsAt key k xs i → (d : X) → map (λ x. cond (has_key k x) (f x) x) xs ≡ set xs i (f (get_or xs i d))
  map_stands k f [] i h d = absurd h
  map_stands k f (x ∷ xs) zero h d = ap (λ b. cond b (f x) x ∷ map (λ y. cond (has_key k y) (f y) y) xs) (eq-eqb (key x) k h.0) ∙ ap (λ ys. f x ∷ ys) (map_above k f xs h.1)
  map_stands k f (x ∷ xs) (suc i) h d = ap (λ b. cond b (f x) x ∷ map (λ y. cond (has_key k y) (f y) y) xs) (has_low k x h.0) ∙ ap (λ ys. x ∷ ys) (map_stands k f xs i h.1 d)

  pub map_goes : (k : ℕ) (f : X → X) (xs : List X) (i : ℕ) → GoesAt key k xs i → map (λ x. cond (has_key k x) (f x) x) xs ≡ xs
  map_goes k f [] i h = refl
  map_goes k f (x ∷ xs) zero h = map_above k f (x ∷ xs) h
  map_goes k f (x ∷ xs) (suc i) h = ap (λ b. cond b (f x) x ∷ map (λ y. cond (has_key k y) (f y) y) xs) (has_low k x h.0) ∙ ap (λ ys. x ∷ ys) (map_goes k f xs i h.1)

  -- a search for the number finds the new item, any other search what it found before
  pub find_set_same : (k : ℕ) (xs : List X) (i : ℕ) (y : X) → StandsAt key k xs i → key y ≡ k → find (has_key k) (set xs i y) ≡ Some y
  find_set_same k [] i y h e = absurd h
  find_set_same k (x ∷ xs) zero y h e = ap (λ b. cond b (Some y) (find (has_key k) xs)) (eq-eqb (key y) k e)
  find_set_same k (x ∷ xs) (suc i) y h e = ap (λ b. cond b (Some x) (find (has_key k) (set xs i y))) (has_low k x h.0) ∙ find_set_same k xs i y h.1 e

  pub find_set_other : (j k : ℕ) (xs : List X) (i : ℕ) (y : X) → (j ≡ k → ⊥) → StandsAt key k xs i → key y ≡ k → find (has_key j) (set xs i y) ≡ find (has_key j) xs
  find_set_other j k [] i y apart h e = absurd h
  find_set_other j k (x ∷ xs) zero y apart h e =
      ap (λ b. cond b (Some y) (find (has_key j) xs)) (ne_eqb (key y) j (λ (is : key y ≡ j). apart (sym is ∙ e)))
      ∙ sym (ap (λ b. cond b (Some x) (find (has_key j) xs)) (ne_eqb (key x) j (λ (is : key x ≡ j). apart (sym is ∙ h.0))))
  find_set_other j k (x ∷ xs) (suc i) y apart h e = ap (λ r. cond (has_key j x) (Some x) r) (find_set_other j k xs i y apart h.1 e)

  -- ---- an item that is put in

  pub insert_goes : (k : ℕ) (xs : List X) (i : ℕ) (y : X) → GoesAt key k xs i → key y ≡ k → insert xs i y ≡ insert_key key_order xs y
  insert_goes k [] zero y h e = refl
  insert_goes k [] (suc i) y h e = absurd h
  insert_goes k (x ∷ xs) zero y h e =
      ap (λ r. match_ordering r (y ∷ x ∷ xs) (x ∷ xs) (x ∷ insert_key key_order xs y)) (sym (is_less (key y) (key x) (subst (λ n. n < key x) (sym e) h.0)))
  insert_goes k (x ∷ xs) (suc i) y h e =
      ap (λ ys. x ∷ ys) (insert_goes k xs i y h.1 e)
      ∙ ap (λ r. match_ordering r (y ∷ x ∷ xs) (x ∷ xs) (x ∷ insert_key key_order xs y)) (sym (is_greater (key y) (key x) (subst (λ n. key x < n) (sym e) h.0)))

  pub find_insert_same : (k : ℕ) (xs : List X) (i : ℕ) (y : X) → GoesAt key k xs i → key y ≡ k → find (has_key k) (insert xs i y) ≡ Some y
  find_insert_same k [] zero y h e = ap (λ b. cond b (Some y) None) (eq-eqb (key y) k e)
  find_insert_same k [] (suc i) y h e = absurd h
  find_insert_same k (x ∷ xs) zero y h e = ap (λ b. cond b (Some y) (find (has_key k) (x ∷ xs))) (eq-eqb (key y) k e)
  find_insert_same k (x ∷ xs) (suc i) y h e = ap (λ b. cond b (Some x) (find (has_key k) (insert xs i y))) (has_low k x h.0) ∙ find_insert_same k xs i y h.1 e

  pub find_insert_other : (j k : ℕ) (xs : List X) (i : ℕ) (y : X) → (j ≡ k → ⊥) → GoesAt key k xs i → key y ≡ k → find (has_key j) (insert xs i y) ≡ find (has_key j) xs
  find_insert_other j k [] zero y apart h e = ap (λ b. cond b (Some y) None) (ne_eqb (key y) j (λ (is : key y ≡ j). apart (sym is ∙ e)))
  find_insert_other j k [] (suc i) y apart h e = absurd h
  find_insert_other j k (x ∷ xs) zero y apart h e = ap (λ b. cond b (Some y) (find (has_key j) (x ∷ xs))) (ne_eqb (key y) j (λ (is : key y ≡ j). apart (sym is ∙ e)))
  find_insert_other j k (x ∷ xs) (suc i) y apart h e = ap (λ r. cond (has_key j x) (Some x) r) (find_insert_other j k xs i y apart h.1 e)

  -- what stands already stays as it is
  pub insert_key_stands : (k : ℕ) (xs : List X) (i : ℕ) (y : X) → StandsAt key k xs i → key y ≡ k → insert_key key_order xs y ≡ xs
  insert_key_stands k [] i y h e = absurd h
  insert_key_stands k (x ∷ xs) zero y h e = ap (λ r. match_ordering r (y ∷ x ∷ xs) (x ∷ xs) (x ∷ insert_key key_order xs y)) (is_equal (key y) (key x) (e ∙ sym h.0))
  insert_key_stands k (x ∷ xs) (suc i) y h e =
      ap (λ r. match_ordering r (y ∷ x ∷ xs) (x ∷ xs) (x ∷ insert_key key_order xs y)) (is_greater (key y) (key x) (subst (λ n. key x < n) (sym e) h.0))
      ∙ ap (λ ys. x ∷ ys) (insert_key_stands k xs i y h.1 e)

  -- ---- an item that is taken out

  filter_above : (k : ℕ) (xs : List X) → AllByRecursion (λ y. k < key y) xs → filter (λ x. not (has_key k x)) xs ≡ xs
  filter_above k [] h = refl
  filter_above k (x ∷ xs) h = ap (λ b. cond (not b) (x ∷ filter (λ y. not (has_key k y)) xs) (filter (λ y. not (has_key k y)) xs)) (has_high k x h.0) ∙ ap (λ ys. x ∷ ys) (filter_above k xs h.1)

  pub filter_stands : (k : ℕ) (xs : List X) (i : ℕ) → StandsAt key k xs i → remove xs i ≡ filter (λ x. not (has_key k x)) xs
  filter_stands k [] i h = absurd h
  filter_stands k (x ∷ xs) zero h = sym (ap (λ b. cond (not b) (x ∷ filter (λ y. not (has_key k y)) xs) (filter (λ y. not (has_key k y)) xs)) (eq-eqb (key x) k h.0) ∙ filter_above k xs h.1)
  filter_stands k (x ∷ xs) (suc i) h =
      ap (λ ys. x ∷ ys) (filter_stands k xs i h.1)
      ∙ sym (ap (λ b. cond (not b) (x ∷ filter (λ y. not (has_key k y)) xs) (filter (λ y. not (has_key k y)) xs)) (has_low k x h.0))

  pub filter_goes : (k : ℕ) (xs : List X) (i : ℕ) → GoesAt key k xs i → filter (λ x. not (has_key k x)) xs ≡ xs
  filter_goes k [] i h = refl
  filter_goes k (x ∷ xs) zero h = filter_above k (x ∷ xs) h
  filter_goes k (x ∷ xs) (suc i) h = ap (λ b. cond (not b) (x ∷ filter (λ y. not (has_key k y)) xs) (filter (λ y. not (has_key k y)) xs)) (has_low k x h.0) ∙ ap (λ ys. x ∷ ys) (filter_goes k xs i h.1)

-- a word that the new item shares with the old one stays the same over the list
pub map_set_alike : {X Y : Type 0} (f : X → Y) (xs : List X) (i : ℕ) (y d : X) → f y ≡ f (get_or xs i d) → map f (set xs i y) ≡ map f xs
map_set_alike f [] i y d e = refl
map_set_alike f (x ∷ xs) zero y d e = ap (λ z. z ∷ map f xs) e
map_set_alike f (x ∷ xs) (suc i) y d e = ap (λ zs. f x ∷ zs) (map_set_alike f xs i y d e)
