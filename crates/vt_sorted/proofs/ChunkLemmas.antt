-- Pieces in use, and behind them some without items.
use Rattle.std.proofs.Common.{◌≡◌, ℕ, zero, suc, ◌<◌, ◌≤◌, ◌-◌, length, get_or, set, take, drop, ◌+◌, List, [], ◌∷◌, ◌++◌, refl, sym, ap, ◌∙◌, arith, subst}
use Rattle.std.specs.List.{AllByRecursion, insert, remove}
use Rattle.std.proofs.Math.Seq.{take-set-lt}
use Rattle.std.proofs.lemmas.List.{append-nil, drop-set-lt, length-set}
use Rattle.std.proofs.lemmas.List.Edits.{length-insert, length-remove}
use Rattle.vt_sorted.specs.Inside.Pieces.{joined, AreBehind}
use Rattle.vt_sorted.proofs.PieceLemmas.{joined_parts}

-- ---- places below n and from n on

pub get_or-take : {X : Type 0} (xs : List X) (n j : ℕ) (d : X) → j < n → get_or (take n xs) j d ≡ get_or xs j d
get_or-take xs zero j d l = absurd (omega arith)
get_or-take [] (suc n) j d l = refl
get_or-take (x ∷ xs) (suc n) zero d l = refl
get_or-take (x ∷ xs) (suc n) (suc j) d l = get_or-take xs n j d (omega arith)

pub take-insert : {X : Type 0} (xs : List X) (n i : ℕ) (x : X) → i ≤ n → n ≤ length xs → take (suc n) (insert xs i x) ≡ insert (take n xs) i x
take-insert xs n zero x l m = refl
take-insert xs zero (suc i) x l m = absurd (omega arith)
take-insert [] (suc n) (suc i) x l m = absurd (omega arith)
take-insert (y ∷ ys) (suc n) (suc i) x l m = ap (λ zs. y ∷ zs) (take-insert ys n i x (omega arith) (omega arith))

pub drop-insert : {X : Type 0} (xs : List X) (n i : ℕ) (x : X) → i ≤ n → n ≤ length xs → drop (suc n) (insert xs i x) ≡ drop n xs
drop-insert xs n zero x l m = refl
drop-insert xs zero (suc i) x l m = absurd (omega arith)
drop-insert [] (suc n) (suc i) x l m = absurd (omega arith)
drop-insert (y ∷ ys) (suc n) (suc i) x l m = drop-insert ys n i x (omega arith) (omega arith)

-- one below n is taken out
pub take-remove_below : {X : Type 0} (xs : List X) (n i : ℕ) → i ≤ n → n < length xs → take n (remove xs i) ≡ remove (take (suc n) xs) i
take-remove_below [] n i l m = absurd (omega arith)
take-remove_below (y ∷ ys) n zero l m = refl
take-remove_below (y ∷ ys) zero (suc i) l m = absurd (omega arith)
take-remove_below (y ∷ ys) (suc n) (suc i) l m = ap (λ zs. y ∷ zs) (take-remove_below ys n i (omega arith) (omega arith))

pub drop-remove_below : {X : Type 0} (xs : List X) (n i : ℕ) → i ≤ n → n < length xs → drop n (remove xs i) ≡ drop (suc n) xs
drop-remove_below [] n i l m = absurd (omega arith)
drop-remove_below (y ∷ ys) n zero l m = refl
drop-remove_below (y ∷ ys) zero (suc i) l m = absurd (omega arith)
drop-remove_below (y ∷ ys) (suc n) (suc i) l m = drop-remove_below ys n i (omega arith) (omega arith)

-- the one at n is taken out
pub take-remove_at : {X : Type 0} (xs : List X) (n : ℕ) → take n (remove xs n) ≡ take n xs
take-remove_at xs zero = refl
take-remove_at [] (suc n) = refl
take-remove_at (y ∷ ys) (suc n) = ap (λ zs. y ∷ zs) (take-remove_at ys n)

pub take-push : {X : Type 0} (xs : List X) (n : ℕ) (x : X) → n ≤ length xs → take n (xs ++ x ∷ []) ≡ take n xs
take-push xs zero x l = refl
take-push [] (suc n) x l = absurd (omega arith)
take-push (y ∷ ys) (suc n) x l = ap (λ zs. y ∷ zs) (take-push ys n x (omega arith))

pub length-take_le : {X : Type 0} (xs : List X) (n : ℕ) → n ≤ length xs → length (take n xs) ≡ n
length-take_le xs zero l = refl
length-take_le [] (suc n) l = absurd (omega arith)
length-take_le (y ∷ ys) (suc n) l = ap suc (length-take_le ys n (omega arith))

-- ---- what stands behind has no items

joined-empty : {T : Type 0} (cs : List (List T)) → AllByRecursion (λ c. c ≡ []) cs → joined cs ≡ []
joined-empty [] a = refl
joined-empty (c ∷ cs) a = ap (λ xs. xs ++ joined cs) a.0 ∙ joined-empty cs a.1

pub joined-behind : {T : Type 0} (n : ℕ) (cs : List (List T)) → AreBehind n cs → joined cs ≡ joined (take n cs)
joined-behind n cs b =
    joined_parts cs n ∙ ap (λ xs. joined (take n cs) ++ xs) (joined-empty (drop n cs) b.empty) ∙ append-nil (joined (take n cs))

empty_at : {T : Type 0} (cs : List (List T)) (n : ℕ) → AllByRecursion (λ c. c ≡ []) (drop n cs) → get_or cs n [] ≡ []
empty_at [] n a = refl
empty_at (c ∷ cs) zero a = a.0
empty_at (c ∷ cs) (suc n) a = empty_at cs n a

pub free_is_empty : {T : Type 0} (n : ℕ) (cs : List (List T)) → AreBehind n cs → get_or cs n [] ≡ []
free_is_empty n cs b = empty_at cs n b.empty

-- ---- they stay behind

pub behind-set : {T : Type 0} (n : ℕ) (cs : List (List T)) (j : ℕ) (c : List T) → j < n → AreBehind n cs → AreBehind n (set cs j c)
behind-set n cs j c l b =
    let same = length-set cs j c in
    let at = b.in_range in
    record {
      in_range = omega arith;
      empty = subst (AllByRecursion (λ d. d ≡ [])) (sym (drop-set-lt n cs j c l)) b.empty;
    }

length-push : {X : Type 0} (xs : List X) (x : X) → length (xs ++ x ∷ []) ≡ suc (length xs)
length-push [] x = refl
length-push (y ∷ ys) x = ap suc (length-push ys x)

empty-push : {T : Type 0} (cs : List (List T)) (n : ℕ) → AllByRecursion (λ c. c ≡ []) (drop n cs) → AllByRecursion (λ c. c ≡ []) (drop n (cs ++ [] ∷ []))
empty-push [] zero a = (refl, tt)
empty-push [] (suc zero) a = tt
empty-push [] (suc (suc n)) a = tt
empty-push (c ∷ cs) zero a = (a.0, empty-push cs zero a.1)
empty-push (c ∷ cs) (suc n) a = empty-push cs n a

pub behind-push : {T : Type 0} (n : ℕ) (cs : List (List T)) (c : List T) → c ≡ [] → AreBehind n cs → AreBehind n (cs ++ c ∷ [])
behind-push n cs c e b =
    let more = length-push cs c in
    let at = b.in_range in
    record {
      in_range = omega arith;
      empty = subst (λ d. AllByRecursion (λ x. x ≡ []) (drop n (cs ++ d ∷ []))) (sym e) (empty-push cs n b.empty);
    }

all_further : {X : Type 0} (P : X → Type 0) (xs : List X) (n : ℕ) → AllByRecursion P (drop n xs) → AllByRecursion P (drop (suc n) xs)
all_further P [] n a = tt
all_further P (x ∷ xs) zero a = a.1
all_further P (x ∷ xs) (suc n) a = all_further P xs n a

-- the first of them is taken out
pub behind-remove_at : {T : Type 0} (n : ℕ) (cs : List (List T)) → n < length cs → AreBehind n cs → AreBehind n (remove cs n)
behind-remove_at n cs l b =
    let less = length-remove cs n l in
    record {
      in_range = omega arith;
      empty = subst (AllByRecursion (λ d. d ≡ [])) (sym (drop-remove_below cs n n (omega arith) l)) (all_further (λ d. d ≡ []) cs n b.empty);
    }

-- one of those before them is taken out
pub behind-remove_below : {T : Type 0} (n : ℕ) (cs : List (List T)) (i : ℕ) → i ≤ n → AreBehind (suc n) cs → AreBehind n (remove cs i)
behind-remove_below n cs i l b =
    let at = b.in_range in
    let less = length-remove cs i (omega arith) in
    record {
      in_range = omega arith;
      empty = subst (AllByRecursion (λ d. d ≡ [])) (sym (drop-remove_below cs n i l (omega arith))) b.empty;
    }

-- one more is put among those before them
pub behind-insert : {T : Type 0} (n : ℕ) (cs : List (List T)) (i : ℕ) (c : List T) → i ≤ n → AreBehind n cs → AreBehind (suc n) (insert cs i c)
behind-insert n cs i c l b =
    let at = b.in_range in
    let more = length-insert cs i c (omega arith) in
    record {
      in_range = omega arith;
      empty = subst (AllByRecursion (λ d. d ≡ [])) (sym (drop-insert cs n i c l at)) b.empty;
    }
