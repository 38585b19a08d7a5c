-- What is made for a new object: an object that is listed and taken out again.
use Rattle.std.proofs.Common.{◌≡◌, ℕ, ◌<◌, List, [], ◌∷◌, ◌++◌, length, set, get_or, sym, ap, subst, ◌∙◌, Option, Some, None, MatchOption, length-set}
use Rattle.std.specs.Prelude.{All}
use Rattle.std.proofs.lemmas.List.{set-set, set-get_or, get_or-set_same}
use Rattle.std.proofs.lemmas.List.Elements.{All-tail}
use Rattle.vt_base.specs.declared.numbers.ObjId.{ObjId}
use Rattle.vt_base.specs.declared.numbers.ClassId.{ClassId}
use Rattle.vt_slots.proofs.SlotsLemmas.{shorter_alike}

-- the classes behind the first have listings still
pub rest_there : {X : Type 0} (listings : List X) (classes rest : List ClassId) (c : ClassId) (i : ℕ) (x : X) → classes ≡ c ∷ rest
    → All (λ c. c.0 < length listings) classes → All (λ c. c.0 < length (set listings i x)) rest
rest_there listings classes rest c i x is there =
    subst (λ n. All (λ (d : ClassId). d.0 < n) rest) (sym (length-set listings i x)) (All-tail (λ (d : ClassId). d.0 < length listings) c rest (subst (All (λ (d : ClassId). d.0 < length listings)) is there))

-- an object that was added and is taken out leaves the listings as they were
pub taken_back : (listings now : List (List ObjId)) (i : ℕ) (o : ObjId) (had added at left : List ObjId) (last : Option ObjId) → i < length listings
    → had ≡ get_or listings i had → added ≡ had ++ o ∷ [] → now ≡ set listings i added → at ≡ get_or now i at
    → MatchOption last ((at ≡ []) × (left ≡ [])) (λ x. at ≡ left ++ x ∷ []) → set now i left ≡ listings
taken_back listings now i o had added at left last there is more changed now_at popped = by last popped
  where
    stands : at ≡ had ++ o ∷ []
    stands = now_at ∙ ap (λ all. get_or all i at) changed ∙ get_or-set_same listings i added at there ∙ more

    longer : (xs : List ObjId) → xs ++ o ∷ [] ≡ [] → ⊥
    longer [] e = cc
    longer (x ∷ xs) e = cc

    by : (r : Option ObjId) → MatchOption r ((at ≡ []) × (left ≡ [])) (λ x. at ≡ left ++ x ∷ []) → set now i left ≡ listings
    by None none = absurd (longer had (sym stands ∙ none.0))
    by (Some x) e =
        let same : left ≡ had = shorter_alike left had x o (sym e ∙ stands) in
        ap (λ all. set all i left) changed ∙ set-set listings i added left ∙ ap (set listings i) (same ∙ is) ∙ set-get_or listings i had
