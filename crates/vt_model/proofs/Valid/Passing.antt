-- What a change that isn't refused has passed.
use Rattle.std.proofs.Common.{◌≡◌, ℕ, List, ◌∷◌, refl, Bool, true, false}
use Rattle.std.specs.Prelude.{◌<◌, not, nat_le, is_none, Option, Some, None, Ok, unwrap_or}
use Rattle.std.specs.Option.{option_map_or}
use Rattle.std.proofs.lemmas.Bool.{leb-false, not-false}
use Rattle.vt_model.specs.Metamodel.{Metamodel, class_named}
use Rattle.vt_model.specs.Model.{Model, feature_at, never_existed, was_deleted}
use Rattle.vt_model.specs.Creating.{is_abstract, is_taken, new_number, is_reserved}
use Rattle.vt_model.specs.Assigning.{kind_asked, has_kind}
use Rattle.vt_model.specs.Effect.{refusal, changed, unless_refused, effect}
use Rattle.vt_model.specs.declared.change.Given.{Given}
use Rattle.vt_model.specs.declared.change.Change.{Change}
use Rattle.vt_model.specs.declared.change.Change.TheVariants.{Create, Set}
use Rattle.vt_model.specs.declared.change.Refusal.{Refusal}
use Rattle.vt_model.specs.declared.change.Refusal.TheVariants.{UnknownObject, Gone, UnknownClass, AbstractClass, NameTaken, ReservedName, UnknownFeature, WrongKind, TooManyObjects}
use Rattle.vt_facts.specs.Firsts.{first_of}

-- ---- first_of

-- the first test of a list that stops nothing fails, and its other tests stop nothing
pub first_of-None : (b : Bool) (why : Refusal) (rest : List (Bool × Refusal)) → first_of ((b, why) ∷ rest) ≡ None → (b ≡ false) × (first_of rest ≡ None)
first_of-None true why rest e = cc
first_of-None false why rest e = (refl, e)

-- ---- refusal

-- a new object's class isn't abstract, its name and its number are free, and there are not too many objects
pub record PassesCreate (meta : Metamodel) (g : Model) (name class : List ℕ) (number : Option ℕ) : Type 0 where
  pub concrete : is_abstract meta (class_named meta class) ≡ false
  pub fresh : is_taken g name ≡ false
  pub free : is_reserved name (new_number g number) ≡ false
  pub below : new_number g number < 1048576

-- a creation that isn't refused has passed these tests
pub PassesCreate-refusal : (meta : Metamodel) (g : Model) (name class : List ℕ) (number : Option ℕ)
    → refusal meta g (Create name class number) ≡ None → PassesCreate meta g name class number
PassesCreate-refusal meta g name class number passes =
    let first = first_of-None (is_none (class_named meta class)) UnknownClass _ passes in
    let second = first_of-None (is_abstract meta (class_named meta class)) AbstractClass _ first.1 in
    let third = first_of-None (is_taken g name) NameTaken _ second.1 in
    let fourth = first_of-None (is_reserved name (new_number g number)) ReservedName _ third.1 in
    let fifth = first_of-None (nat_le 1048576 (new_number g number)) TooManyObjects _ fourth.1 in
    record { concrete = second.0; fresh = third.0; free = fourth.0; below = leb-false 1048576 (new_number g number) fifth.0 }

-- a value that is set is of its attribute's kind
pub has_kind-refusal : (meta : Metamodel) (g : Model) (name attr : List ℕ) (given : Given)
    → refusal meta g (Set name attr given) ≡ None → option_map_or (has_kind meta given) (kind_asked meta (feature_at meta g name attr)) false ≡ true
has_kind-refusal meta g name attr given passes =
    let first = first_of-None (never_existed g name) UnknownObject _ passes in
    let second = first_of-None (was_deleted g name) Gone _ first.1 in
    let third = first_of-None (is_none (feature_at meta g name attr)) UnknownFeature _ second.1 in
    let fourth = first_of-None (not (option_map_or (has_kind meta given) (kind_asked meta (feature_at meta g name attr)) false)) WrongKind _ third.1 in
    not-false (option_map_or (has_kind meta given) (kind_asked meta (feature_at meta g name attr)) false) fourth.0

-- ---- effect

-- the model after a change is what the change makes, and no test refused the change
pub refusal-effect : (meta : Metamodel) (g after : Model) (change : Change) → effect meta g change ≡ Ok after
    → (refusal meta g change ≡ None) × (unwrap_or (changed meta g change) g ≡ after)
refusal-effect meta g after change e = by (refusal meta g change) refl e
  where
    by : (r : Option Refusal) → refusal meta g change ≡ r → unless_refused r (unwrap_or (changed meta g change) g) ≡ Ok after
        → (refusal meta g change ≡ None) × (unwrap_or (changed meta g change) g ≡ after)
    by (Some why) passes e = cc
    by None passes e = let is : unwrap_or (changed meta g change) g ≡ after = cc in (passes, is)
