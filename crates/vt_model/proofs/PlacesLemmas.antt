-- Names by their places: what one more name changes.
use Rattle.std.proofs.Common.{◌≡◌, ℕ, suc, map, ◌+◌, List, [], ◌∷◌, ◌++◌, length, refl, sym, ap, subst, ◌∙◌, cond, Bool, true, false, arith, take, get_or}
use Rattle.std.specs.Prelude.{◌<◌, position, Option, Some, None, is_some, option_map}
use Rattle.std.specs.Option.{option_or}
use Rattle.std.specs.Str.{bytes_eq}
use Rattle.std.specs.Map.{update}
use Rattle.std.specs.Cmp.Lexicographic.{nat_list_eq_equiv}
use Rattle.std.proofs.lemmas.Bool.{true≢false}
use Rattle.std.proofs.lemmas.List.{take_more, length-take-le}
use Rattle.std.proofs.lemmas.Slice.Eq.{bytes_eq-Decides}
use Rattle.vt_facts.specs.Names.{is_name}
use Rattle.vt_model.specs.Places.{place_in, FindsIn, AddsPlace}
use Rattle.vt_model.specs.Inside.Tables.{FindsEnumInfo, FindsClassInfo}
use Rattle.vt_model.specs.declared.places.Places.{Places}
use Rattle.vt_model.specs.declared.metamodel.EnumInfo.{EnumInfo}
use Rattle.vt_model.specs.declared.metamodel.ClassInfo.{ClassInfo}
use Rattle.vt_facts.proofs.PositionLemmas.{position-cons, position-map}

-- one name is the other
pub same_name : (a b : List ℕ) → is_name a b ≡ true → a ≡ b
same_name a b e = (bytes_eq-Decides a b).0 e

pub is_name-itself : (a : List ℕ) → is_name a a ≡ true
is_name-itself a = nat_list_eq_equiv.refl a

-- a name that has a place keeps it
pub AddsPlace-present : (p : Places) (added : List ℕ) (place : ℕ) → is_some (place_in p added) ≡ true → AddsPlace p p added place
AddsPlace-present p added place there name = by (place_in p name) (is_name added name) refl refl
  where
    by : (r : Option ℕ) (b : Bool) → place_in p name ≡ r → is_name added name ≡ b → r ≡ option_or r (cond b (Some place) None)
    by (Some n) b found same = refl
    by None false found same = refl
    by None true found same =
        let is : added ≡ name = same_name added name same in
        absurd (true≢false (sym there ∙ ap (λ n. is_some (place_in p n)) is ∙ ap is_some found))

-- a new name
pub AddsPlace-new : (old new : Places) (added : List ℕ) (place : ℕ) → is_some (place_in old added) ≡ false
    → ((name : List ℕ) → place_in new name ≡ update bytes_eq (place_in old) added (Some place) name) → AddsPlace old new added place
AddsPlace-new old new added place fresh changed name = changed name ∙ by (place_in old name) (is_name added name) refl refl
  where
    by : (r : Option ℕ) (b : Bool) → place_in old name ≡ r → is_name added name ≡ b → cond b (Some place) r ≡ option_or r (cond b (Some place) None)
    by None true found same = refl
    by None false found same = refl
    by (Some n) false found same = refl
    by (Some n) true found same =
        let is : added ≡ name = same_name added name same in
        absurd (true≢false (sym (ap is_some found) ∙ ap (λ n. is_some (place_in old n)) (sym is) ∙ fresh))

-- ---- a search in a list that is one longer

pub position-push : {X : Type 0} (p : X → Bool) (xs : List X) (y : X)
    → position p (xs ++ y ∷ []) ≡ option_or (position p xs) (cond (p y) (Some (length xs)) None)
position-push p [] y = position-cons p y []
position-push p (x ∷ xs) y =
    position-cons p x (xs ++ y ∷ [])
    ∙ ap (λ r. cond (p x) (Some 0) (option_map (λ n. n + 1) r)) (position-push p xs y)
    ∙ by (p x) (position p xs) (p y)
    ∙ ap (λ r. option_or r (cond (p y) (Some (suc (length xs))) None)) (sym (position-cons p x xs))
  where
    by : (a : Bool) (r : Option ℕ) (b : Bool)
        → cond a (Some 0) (option_map (λ n. n + 1) (option_or r (cond b (Some (length xs)) None))) ≡ option_or (cond a (Some 0) (option_map (λ n. n + 1) r)) (cond b (Some (suc (length xs))) None)
    by true r b = refl
    by false (Some n) b = refl
    by false None true = ap Some (omega arith)
    by false None false = refl

pub FindsIn-push : (names : List (List ℕ)) (old new : Places) (added : List ℕ) → FindsIn names old → AddsPlace old new added (length names) → FindsIn (names ++ added ∷ []) new
FindsIn-push names old new added finds adds name =
    adds name ∙ ap (λ r. option_or r (cond (is_name added name) (Some (length names)) None)) (finds name) ∙ sym (position-push (λ n. is_name n name) names added)

-- the same at a step of a loop
pub FindsIn_more : (names : List (List ℕ)) (i : ℕ) (d : List ℕ) (old new : Places) → i < length names → FindsIn (take i names) old → AddsPlace old new (get_or names i d) i → FindsIn (take (i + 1) names) new
FindsIn_more names i d old new below finds adds =
    let at : length (take i names) ≡ i = length-take-le i names (omega arith) in
    subst (λ l. FindsIn l new) (sym (take_more names i d below))
    (FindsIn-push (take i names) old new (get_or names i d) finds (subst (AddsPlace old new (get_or names i d)) (sym at) adds))

-- ---- the names of a metamodel

pub finds_enum_infos : (enums : List EnumInfo) (p : Places) → FindsIn (map (λ e. e.name) enums) p → FindsEnumInfo enums p
finds_enum_infos enums p finds name = finds name ∙ position-map (λ (e : EnumInfo). e.name) (λ n. is_name n name) enums

pub finds_class_infos : (classes : List ClassInfo) (p : Places) → FindsIn (map (λ c. c.name) classes) p → FindsClassInfo classes p
finds_class_infos classes p finds name = finds name ∙ position-map (λ (c : ClassInfo). c.name) (λ n. is_name n name) classes
