-- Texts that are put one after the other, and the ending of what was put.
use Rattle.std.proofs.Common.{◌≡◌, ℕ, zero, suc, ◌+◌, ◌≤◌, min, List, [], ◌∷◌, ◌++◌, length, take, Option, Result, Ok, Err, refl, sym, ap, subst, ◌∙◌, arith, inl, inr}
use Rattle.std.specs.Prelude.{IsErr, OnOk, OnErr}
use Rattle.std.specs.Io.KnownBytes.{Appends}
use Rattle.std.proofs.KnownBytes.{Appends-nil, Appends-trans}
use Rattle.vt_outside.specs.Faults.{raised, CountsPut}
use Rattle.vt_outside.specs.Sink.{AppendsPrefix}
use Rattle.vt_outside.specs.declared.sink.PutFail.{PutFail}
use Rattle.vt_outside.specs.declared.sink.PutFail.TheVariants as put
use Rattle.vt_cli.specs.Inside.Prepared.{Delivers}
use Rattle.vt_cli.specs.Inside.Begun.{IsPut, ended}
use Rattle.vt_cli.specs.declared.ending.Outcome.{Outcome}

abbrev whole : Unit {0} → Result (Unit {0}) PutFail
whole done = Ok done

-- ---- fronts of two texts

take_over : (bs cs : List ℕ) (n : ℕ) → take (length bs + n) (bs ++ cs) ≡ bs ++ take n cs
take_over [] cs n = ap (λ m. take m cs) none_more
  where
    none_more : 0 + n ≡ n
    none_more = omega arith
take_over (b ∷ bs) cs n = ap (λ m. take m (b ∷ (bs ++ cs))) one_more ∙ ap (λ l. b ∷ l) (take_over bs cs n)
  where
    one_more : suc (length bs) + n ≡ suc (length bs + n)
    one_more = omega arith

abbrev none : List ℕ
none = []

take_none : (n : ℕ) → take n none ≡ none
take_none zero = refl
take_none (suc n) = refl

take_within : (bs cs : List ℕ) (n : ℕ) → take (min n (length bs)) (bs ++ cs) ≡ take n bs
take_within [] cs n = ap (λ m. take m cs) least ∙ sym (take_none n)
  where
    least : min n 0 ≡ 0
    least = omega arith
take_within (b ∷ bs) cs zero = ap (λ m. take m (b ∷ (bs ++ cs))) least
  where
    least : min 0 (suc (length bs)) ≡ 0
    least = omega arith
take_within (b ∷ bs) cs (suc n) = ap (λ m. take m (b ∷ (bs ++ cs))) lesser ∙ ap (λ l. b ∷ l) (take_within bs cs n)
  where
    lesser : min (suc n) (suc (length bs)) ≡ suc (min n (length bs))
    lesser = omega arith

-- one text whole, and then a front of another
pub front_after : (a b c : Option (List ℕ)) (bs cs : List ℕ) → Appends a b bs → AppendsPrefix b c cs → AppendsPrefix a c (bs ++ cs)
front_after a b c bs cs whole part = record {
  count = length bs + part.count;
  grown = subst (Appends a c) (sym (take_over bs cs part.count)) (Appends-trans a b c bs (take part.count cs) whole part.grown);
}

-- a front of the first of two
pub front_within : (a b : Option (List ℕ)) (bs cs : List ℕ) → AppendsPrefix a b bs → AppendsPrefix a b (bs ++ cs)
front_within a b bs cs part = record {
  count = min part.count (length bs);
  grown = subst (Appends a b) (sym (take_within bs cs part.count)) part.grown;
}

-- nothing of it
pub front_none : (a : Option (List ℕ)) (cs : List ℕ) → AppendsPrefix a a cs
front_none a cs = record { count = 0; grown = Appends-nil a }

-- a text whole, and nothing of what comes after
pub front_only : (a b : Option (List ℕ)) (bs cs : List ℕ) → Appends a b bs → AppendsPrefix a b (bs ++ cs)
front_only a b bs cs whole = front_after a b b bs cs whole (front_none b cs)

-- where a text can't be put whole, a front of it was
pub cut_put : (Is : List ℕ → Type 0) (result : Result (Unit {0}) PutFail) (old new : Option (List ℕ)) → IsErr result
    → (text : List ℕ) × Is text × AppendsPrefix old new text → (text : List ℕ) × Is text × IsPut result old new text
cut_put Is (Ok done) old new err cut = absurd (let none : ⊥ = cc in none)
cut_put Is (Err why) old new err cut = cut

-- a piece that was put counts no failure
pub calm_put : (done : Unit {0}) (before now : ℕ) → CountsPut before now (whole done) → now ≡ before
calm_put done before now counts = counts.same_count (λ failed. let none : ⊥ = cc in none)

-- ---- the ending

-- what a sink says of a put
pub IsPut-from : (result : Result (Unit {0}) PutFail) (old new : Option (List ℕ)) (piece : List ℕ)
    → OnOk result (Appends old new piece) → OnErr result (AppendsPrefix old new piece) → IsPut result old new piece
IsPut-from (Ok done) old new piece whole part = whole
IsPut-from (Err why) old new piece whole part = part

pub Delivers-put : (outcome : Outcome) (result : Result (Unit {0}) PutFail) (before now : ℕ) (old new : Option (List ℕ))
    → IsPut result old new outcome.text → CountsPut before now result → Delivers outcome (ended outcome.ending result) before now old new
Delivers-put outcome (Ok done) before now old new is counts = inl (refl, is)
Delivers-put outcome (Err put.Failed) before now old new is counts = inr (subst (λ n. raised before ≤ n) (sym (counts.one refl)) (omega arith), is)
Delivers-put outcome (Err put.NoMemory) before now old new is counts = inr (tt, is)
