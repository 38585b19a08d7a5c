-- What happens to the change at each number while rows come and go.
use Rattle.std.proofs.Common.{◌≡◌, ◌<◌, ◌≢◌, ℕ, ◌+◌, Bool, true, false, cond, List, [], ◌∷◌, map, length, refl, sym, ap, ◌∙◌, arith}
use Rattle.std.proofs.lemmas.Bool.{eqb-true}
use Rattle.std.proofs.lemmas.Bool.Decides.{nat_tests}
use Rattle.std.proofs.lemmas.List.{length-map, length-set, get_or-set_same, get_or-set_other}
use Rattle.std.specs.Prelude.{◌==◌, nat_lt, filter, fold, slice_index_or}
use Rattle.vt_delta.specs.Changes.{Change, no_change, change_of, changes_of, turned_at}
use Rattle.vt_delta.specs.declared.delta.Delta.{Delta}
use Rattle.vt_base.specs.declared.value.Value.{Value}
use Rattle.vt_base.specs.declared.value.Value.TheVariants.{Obj}
use Rattle.vt_model.specs.Metamodel.{Metamodel, isa}
use Rattle.vt_model.specs.declared.model.Object.{Object}
use Rattle.vt_change.specs.declared.telling.Way.{Way}
use Rattle.vt_change.specs.declared.telling.Way.TheVariants.{Coming, Going}
use Rattle.vt_change.specs.Inside.Telling.{object_rows, moved, change_at, Moves, Turns}

-- ---- a change that turns at one number

module _ (turn : Change → Change) (old new : List Delta) (m : ℕ) (is : changes_of new ≡ turned_at turn (changes_of old) m) where
  pub length-turned : length new ≡ length old
  length-turned =
      sym (length-map new change_of) ∙ ap (λ cs. length cs) is
      ∙ length-set (changes_of old) m (turn (slice_index_or (changes_of old) m no_change)) ∙ length-map old change_of

  pub change_at-turned : (n : ℕ) → n < length old → change_at new n ≡ cond (m == n) (turn (change_at old n)) (change_at old n)
  change_at-turned n below = ap (λ cs. slice_index_or cs n no_change) is ∙ by (m == n) refl
    where
      by : (b : Bool) → (m == n) ≡ b → slice_index_or (turned_at turn (changes_of old) m) n no_change ≡ cond b (turn (change_at old n)) (change_at old n)
      by true same =
          let is : m ≡ n = eqb-true m n same in
          ap (λ k. slice_index_or (turned_at turn (changes_of old) k) n no_change) is
          ∙ get_or-set_same (changes_of old) n (turn (change_at old n)) no_change (let e = length-map old change_of in omega arith)
      by false other = get_or-set_other (changes_of old) m n (turn (slice_index_or (changes_of old) m no_change)) no_change (apart other)
        where
          apart : (m == n) ≡ false → n ≢ m
          apart other same = let back : (m == n) ≡ true = grind (arith, nat_tests) in cc

-- ---- the items of a list, one after the other

-- what the rows that are left make of the changes is what all rows make of those at the start
abbrev pub Leaves : Way → (ℕ → List (List Value)) → (ℕ → List (List Value)) → List Delta → List Delta → Type 0
Leaves way left rows start now = (length now ≡ length start)
    × ((n : ℕ) → n < length start → fold (moved way) (change_at now n) (left n) ≡ fold (moved way) (change_at start n) (rows n))

-- none is left
pub Moves-left : (way : Way) (rows : ℕ → List (List Value)) (start now : List Delta) → Leaves way (λ n. []) rows start now → Moves way rows start now
Moves-left way rows start now leaves = record { count = leaves.0; each = leaves.1 }

module _ {T : Type 0} (place : T → ℕ) (row : T → List Value) (way : Way) (start old new : List Delta) (x : T) (rest : List T)
    (is : changes_of new ≡ turned_at (λ change. moved way change (row x)) (changes_of old) (place x)) where
  tell-item : (n : ℕ) → n < length old
      → fold (moved way) (change_at new n) (map row (filter (λ y. place y == n) rest)) ≡ fold (moved way) (change_at old n) (map row (filter (λ y. place y == n) (x ∷ rest)))
  tell-item n below =
      ap (λ change. fold (moved way) change (map row (filter (λ y. place y == n) rest))) (change_at-turned (λ change. moved way change (row x)) old new (place x) is n below)
      ∙ by (place x == n)
    where
      by : (b : Bool) → fold (moved way) (cond b (moved way (change_at old n) (row x)) (change_at old n)) (map row (filter (λ y. place y == n) rest))
          ≡ fold (moved way) (change_at old n) (map row (cond b (x ∷ filter (λ y. place y == n) rest) (filter (λ y. place y == n) rest)))
      by true = refl
      by false = refl

  -- one item told
  pub Leaves-item : (rows : ℕ → List (List Value)) → Leaves way (λ n. map row (filter (λ y. place y == n) (x ∷ rest))) rows start old
      → Leaves way (λ n. map row (filter (λ y. place y == n) rest)) rows start new
  Leaves-item rows leaves = (
    length-turned (λ change. moved way change (row x)) old new (place x) is ∙ leaves.0,
    λ n below. tell-item n (let e = leaves.0 in omega arith) ∙ leaves.1 n below,
  )

-- ---- an object, class by class

-- where the classes up to one have told
abbrev pub told_below : Metamodel → Way → Object → Change → ℕ → ℕ → Change
told_below meta way o change c n = cond (nat_lt n c) (fold (moved way) change (object_rows meta (o ∷ []) n)) change

module _ (meta : Metamodel) (way : Way) (o : Object) (change : Change) where
  -- a class that the object is of
  pub told_below-of : (c n : ℕ) → isa meta o.class (record { 0 = c }) ≡ true
      → cond (c == n) (moved way (told_below meta way o change c n) (Obj o.number ∷ [])) (told_below meta way o change c n) ≡ told_below meta way o change (c + 1) n
  told_below-of c n of = by (c == n) refl
    where
      by : (b : Bool) → (c == n) ≡ b → cond b (moved way (told_below meta way o change c n) (Obj o.number ∷ [])) (told_below meta way o change c n) ≡ told_below meta way o change (c + 1) n
      by true same =
          let is : c ≡ n = eqb-true c n same in
          let not_yet : nat_lt n c ≡ false = grind (arith, nat_tests) in
          let then : nat_lt n (c + 1) ≡ true = grind (arith, nat_tests) in
          let here : isa meta o.class (record { 0 = n }) ≡ true = ap (λ k. isa meta o.class (record { 0 = k })) (sym is) ∙ of in
          rw (not_yet, then, here) refl
      by false other =
          let still : nat_lt n (c + 1) ≡ nat_lt n c = grind (arith, nat_tests) in
          rw still refl

  -- and one that it isn't of
  pub told_below-other : (c n : ℕ) → isa meta o.class (record { 0 = c }) ≡ false → told_below meta way o change c n ≡ told_below meta way o change (c + 1) n
  told_below-other c n none = by (c == n) refl
    where
      by : (b : Bool) → (c == n) ≡ b → told_below meta way o change c n ≡ told_below meta way o change (c + 1) n
      by true same =
          let is : c ≡ n = eqb-true c n same in
          let not_yet : nat_lt n c ≡ false = grind (arith, nat_tests) in
          let then : nat_lt n (c + 1) ≡ true = grind (arith, nat_tests) in
          let here : isa meta o.class (record { 0 = n }) ≡ false = ap (λ k. isa meta o.class (record { 0 = k })) (sym is) ∙ none in
          rw (not_yet, then, here) refl
      by false other =
          let still : nat_lt n (c + 1) ≡ nat_lt n c = grind (arith, nat_tests) in
          rw still refl

  told_below-none : (n : ℕ) → told_below meta way o change 0 n ≡ change
  told_below-none n = let none : nat_lt n 0 ≡ false = grind (arith, nat_tests) in rw none refl

  told_below-all : (c n : ℕ) → n < c → told_below meta way o change c n ≡ fold (moved way) change (object_rows meta (o ∷ []) n)
  told_below-all c n below = let all : nat_lt n c ≡ true = grind (arith, nat_tests) in rw all refl

module _ (meta : Metamodel) (way : Way) (o : Object) (start : List Delta) where
  -- so have they at each number
  abbrev pub TellsBelow : List Delta → ℕ → Type 0
  TellsBelow now c = (length now ≡ length start) × ((n : ℕ) → n < length start → change_at now n ≡ told_below meta way o (change_at start n) c n)

  pub TellsBelow-none : TellsBelow start 0
  TellsBelow-none = (refl, λ n below. sym (told_below-none meta way o (change_at start n) n))

  -- a class that the object is of told
  pub TellsBelow-of : (old new : List Delta) (c : ℕ) → changes_of new ≡ turned_at (λ change. moved way change (Obj o.number ∷ [])) (changes_of old) c
      → isa meta o.class (record { 0 = c }) ≡ true → TellsBelow old c → TellsBelow new (c + 1)
  TellsBelow-of old new c is of tells = (
    length-turned (λ change. moved way change (Obj o.number ∷ [])) old new c is ∙ tells.0,
    λ n below.
        change_at-turned (λ change. moved way change (Obj o.number ∷ [])) old new c is n (let e = tells.0 in omega arith)
        ∙ ap (λ change. cond (c == n) (moved way change (Obj o.number ∷ [])) change) (tells.1 n below)
        ∙ told_below-of meta way o (change_at start n) c n of,
  )

  -- one that it isn't of has nothing to tell
  pub TellsBelow-other : (now : List Delta) (c : ℕ) → isa meta o.class (record { 0 = c }) ≡ false → TellsBelow now c → TellsBelow now (c + 1)
  TellsBelow-other now c none tells = (tells.0, λ n below. tells.1 n below ∙ told_below-other meta way o (change_at start n) c n none)

  -- all classes told
  pub Moves-below : (now : List Delta) (c : ℕ) → c ≡ length start → TellsBelow now c → Moves way (object_rows meta (o ∷ [])) start now
  Moves-below now c all tells = record {
    count = tells.0;
    each = λ n below. tells.1 n below ∙ told_below-all meta way o (change_at start n) c n (let e = all in omega arith);
  }

-- ---- objects, one after the other

module _ (meta : Metamodel) (way : Way) (start old new : List Delta) (o : Object) (rest : List Object) (moves : Moves way (object_rows meta (o ∷ [])) old new) where
  tell-object : (n : ℕ) → n < length old → fold (moved way) (change_at new n) (object_rows meta rest n) ≡ fold (moved way) (change_at old n) (object_rows meta (o ∷ rest) n)
  tell-object n below =
      ap (λ change. fold (moved way) change (object_rows meta rest n)) (moves.each n below) ∙ by (isa meta o.class (record { 0 = n }))
    where
      by : (b : Bool) → fold (moved way) (fold (moved way) (change_at old n) (map (λ (p : Object). Obj p.number ∷ []) (cond b (o ∷ []) []))) (object_rows meta rest n)
          ≡ fold (moved way) (change_at old n) (map (λ (p : Object). Obj p.number ∷ []) (cond b (o ∷ filter (λ (p : Object). isa meta p.class (record { 0 = n })) rest) (filter (λ (p : Object). isa meta p.class (record { 0 = n })) rest)))
      by true = refl
      by false = refl

  -- one object told
  pub Leaves-object : (rows : ℕ → List (List Value)) → Leaves way (object_rows meta (o ∷ rest)) rows start old → Leaves way (object_rows meta rest) rows start new
  Leaves-object rows leaves = (
    moves.count ∙ leaves.0,
    λ n below. tell-object n (let e = leaves.0 in omega arith) ∙ leaves.1 n below,
  )

-- ---- rows that went, and rows that came

module _ (gone came : ℕ → List (List Value)) (old new : List Delta) where
  pub Turns-both : (mid : List Delta) → Moves Going gone old mid → Moves Coming came mid new → Turns gone came old new
  Turns-both mid went arrived = record {
    count = arrived.count ∙ went.count;
    each = λ n below. arrived.each n (let e = went.count in omega arith) ∙ ap (λ change. fold (moved Coming) change (came n)) (went.each n below);
  }

  -- none came
  pub Turns-gone : Moves Going gone old new → ((n : ℕ) → came n ≡ []) → Turns gone came old new
  Turns-gone went none = record {
    count = went.count;
    each = λ n below. went.each n below ∙ ap (λ rows. fold (moved Coming) (fold (moved Going) (change_at old n) (gone n)) rows) (sym (none n));
  }
