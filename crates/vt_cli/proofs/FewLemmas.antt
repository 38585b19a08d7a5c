-- What a session asks of a program and of what is new in a model.
use Rattle.std.proofs.Common.{◌≡◌, ℕ, suc, ◌≤◌, length, Bool, true, false, ◌&&◌, List, [], ◌∷◌, Option, Some, None, option_map, refl, sym, ap, subst, ◌∙◌, arith}
use Rattle.std.specs.Prelude.{nat_le, map, if◌then◌else◌}
use Rattle.std.proofs.lemmas.Bool.Decides.{nat_tests}
use Rattle.vt_facts.specs.Names.{is_distinct}
use Rattle.vt_facts.specs.Parts.{◌>>=◌}
use Rattle.vt_delta.specs.Deltas.{IsNet, change_of, net, without}
use Rattle.vt_delta.specs.declared.delta.Delta.{Delta}
use Rattle.vt_delta.specs.declared.delta.BaseDelta.{BaseDelta}
use Rattle.vt_base.specs.declared.value.Value.{Value}
use Rattle.vt_model.specs.Metamodel.{Metamodel}
use Rattle.vt_model.specs.Model.{Model, empty_model}
use Rattle.vt_model.specs.Base.{base_of}
use Rattle.vt_model_json.specs.Difference.{IsFromEmpty, IsAllAdded}
use Rattle.vt_query.specs.declared.program.Pattern.{Pattern}
use Rattle.vt_query.specs.declared.program.Program.{Program}
use Rattle.vt_vql.specs.Resolving.{all_of, narrow_pattern, narrow_program}
use Rattle.vt_vql.specs.Queries.{Accepts}
use Rattle.vt_vql.specs.declared.tree.FileTree.{FileTree}

-- ---- the patterns of a program

some_same : {X : Type 0} (x y : X) → Some x ≡ Some y → x ≡ y
some_same x y e = cc

module _ {B : Type 0} where
  joined : (ys : List B) (n : ℕ) (y : B) (found : Option (List B)) → ((zs : List B) → found ≡ Some zs → length zs ≡ n) → (found >>= λ zs. Some (y ∷ zs)) ≡ Some ys → length ys ≡ suc n
  joined ys n y None each e = absurd (let none : ⊥ = cc in none)
  joined ys n y (Some zs) each e = ap length (sym (some_same (y ∷ zs) ys e)) ∙ ap suc (each zs refl)

  with_first : (ys : List B) (n : ℕ) (others : Option (List B)) (found : Option B) → ((zs : List B) → others ≡ Some zs → length zs ≡ n) → (found >>= λ y. others >>= λ zs. Some (y ∷ zs)) ≡ Some ys → length ys ≡ suc n
  with_first ys n others None each e = absurd (let none : ⊥ = cc in none)
  with_first ys n others (Some y) each e = joined ys n y others each e

module _ {A B : Type 0} where
  length-all_of : (f : A → Option B) (xs : List A) (ys : List B) → all_of f xs ≡ Some ys → length ys ≡ length xs
  length-all_of f [] ys e = ap length (sym (some_same [] ys e))
  length-all_of f (x ∷ xs) ys e = with_first ys (length xs) (all_of f xs) (f x) (λ zs is. length-all_of f xs zs is) e

few_of : (meta : Metamodel) (tree : FileTree) (program : Program) → narrow_program meta tree ≡ Some program → length program.patterns ≤ 512
unfolding narrow_program
few_of meta tree program e =
    let parts = cases (nat_le (length tree.patterns) 512) (is_distinct (map (λ p. p.name) tree.patterns)) (all_of (narrow_pattern meta) tree.patterns) e in
    let count : length program.patterns ≡ length tree.patterns = length-all_of (narrow_pattern meta) tree.patterns program.patterns parts.1 in
    subst (λ n. n ≤ 512) (sym count) (at_most (length tree.patterns) 512 parts.0)
  where
    at_most : (m n : ℕ) → nat_le m n ≡ true → m ≤ n
    at_most m n e = grind (arith, nat_tests)

    cases : (a b : Bool) (made : Option (List Pattern)) → (if a && b then option_map (λ patterns. record { patterns = patterns }) made else None) ≡ Some program
        → (a ≡ true) × (made ≡ Some program.patterns)
    cases true true (Some patterns) e = (refl, ap (λ (o : Option Program). option_map (λ (p : Program). p.patterns) o) e)
    cases true true None e = absurd (let none : ⊥ = cc in none)
    cases true false made e = absurd (let none : ⊥ = cc in none)
    cases false b made e = absurd (let none : ⊥ = cc in none)

pub few_patterns : (meta : Metamodel) (bytes : List ℕ) (program : Program) → Accepts meta bytes program → length program.patterns ≤ 65536
few_patterns meta bytes program accepts = let few = few_of meta accepts.tree program accepts.makes in omega (arith, few)

-- ---- what is new in a model

all_new : (rows : List (List Value)) → without [] rows ≡ rows
all_new [] = refl
all_new (row ∷ rows) = ap (λ rest. row ∷ rest) (all_new rows)

is_net : (rows : List (List Value)) (delta : Delta) → IsAllAdded rows delta → change_of delta ≡ net [] rows
is_net rows delta all i = record { added = (all.added ∙ sym (all_new rows)) i; removed = all.removed i }

pub net_from_empty : (meta : Metamodel) (g : Model) (loaded : BaseDelta) → IsFromEmpty (base_of meta g) loaded → IsNet (base_of meta empty_model) (base_of meta g) loaded
net_from_empty meta g loaded all = record {
  counts = record { classes = all.class_count; attributes = all.attribute_count; references = all.reference_count };
  classes = λ n delta at. is_net ((base_of meta g).of_class (record { 0 = n })) delta (all.classes n delta at);
  attributes = λ n delta at. is_net ((base_of meta g).of_attribute (record { 0 = n })) delta (all.attributes n delta at);
  references = λ n delta at. is_net ((base_of meta g).of_reference (record { 0 = n })) delta (all.references n delta at);
}
