-- Lists that are changed item by item.
use Rattle.std.proofs.Common.{◌≡◌, ℕ, ◌+◌, List, [], ◌∷◌, ◌++◌, length, map, drop, get_or, sym, ap, ◌∙◌}
use Rattle.std.specs.Prelude.{◌<◌}
use Rattle.std.proofs.lemmas.List.{append_assoc, at_drop_more}

-- what is out, and what the rest gives, at a step of a loop
pub out_more : {A B : Type 0} (f : A → B) (xs : List A) (i : ℕ) (x : A) (out new whole : List B) → i < length xs → x ≡ get_or xs i x → out ++ map f (drop i xs) ≡ whole
    → new ≡ out ++ f x ∷ [] → new ++ map f (drop (i + 1) xs) ≡ whole
out_more f xs i x out new whole below at before is =
    ap (λ l. l ++ map f (drop (i + 1) xs)) is
    ∙ append_assoc out (f x ∷ []) (map f (drop (i + 1) xs))
    ∙ ap (λ y. out ++ (f y ∷ map f (drop (i + 1) xs))) at
    ∙ ap (λ l. out ++ l) (sym (at_drop_more (map f) xs i x below))
    ∙ before
