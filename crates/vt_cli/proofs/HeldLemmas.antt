-- What the changes of open buffers give can be held, whatever is done to the buffers.
use Rattle.std.proofs.Common.{◌≡◌, ℕ, List, [], ◌∷◌, ◌++◌, Bool, true, false, not, cond, Option, Some, None, Result, Ok, Err, subst}
use Rattle.std.specs.Prelude.{filter, map, find, is_some, nat_le, ◌==◌, length, if◌then◌else◌}
use Rattle.std.specs.List.{AllByRecursion}
use Rattle.vt_facts.specs.Names.{is_name}
use Rattle.vt_model.specs.Storable.{GivesStorable}
use Rattle.vt_model.specs.declared.change.Change.{Change}
use Rattle.vt_session.specs.declared.buffers.Buffer.{Buffer}
use Rattle.vt_session.specs.Buffers.{Denial, already_open, too_many_open, not_open, too_many_changes, buffer_of, without_buffer, with_its_change, with_change, begun, changed_in, changed, aborted}
use Rattle.vt_cli.specs.Inside.Begun.{AreHeld}

-- ---- AllByRecursion

pub all_on : {X : Type 0} (P : X → Type 0) (a b : List X) → AllByRecursion P a → AllByRecursion P b → AllByRecursion P (a ++ b)
all_on P [] b first second = second
all_on P (x ∷ a) b first second = (first.0, all_on P a b first.1 second)

all-filter : {X : Type 0} (P : X → Type 0) (t : X → Bool) (xs : List X) → AllByRecursion P xs → AllByRecursion P (filter t xs)
all-filter P t [] all = tt
all-filter P t (x ∷ xs) all =
    elim (t x) as (λ b. AllByRecursion P (cond b (x ∷ filter t xs) (filter t xs))) [
      | true ↦ (all.0, all-filter P t xs all.1)
      | false ↦ all-filter P t xs all.1
    ]

all-map : {X : Type 0} (P : X → Type 0) (f : X → X) → ((x : X) → P x → P (f x)) → (xs : List X) → AllByRecursion P xs → AllByRecursion P (map f xs)
all-map P f keeps [] all = tt
all-map P f keeps (x ∷ xs) all = (keeps x all.0, all-map P f keeps xs all.1)

-- ---- buffers

abbrev IsHeld : Buffer → Type 0
IsHeld b = AllByRecursion GivesStorable b.changes

pub held-without : (client : List ℕ) (buffers : List Buffer) → AreHeld buffers → AreHeld (without_buffer client buffers)
held-without client buffers held = all-filter IsHeld (λ b. not (is_name b.client client)) buffers held

abbrev Made : Type 0
Made = Result (List Buffer) Denial

abbrev made : List Buffer → Made
made xs = Ok xs

abbrev not_made : Denial → Made
not_made denial = Err denial

same_buffers : (xs ys : List Buffer) → made xs ≡ made ys → xs ≡ ys
same_buffers xs ys e = cc

begun_is : (a b : Bool) (xs ys : List Buffer) → (if a then not_made already_open else if b then not_made too_many_open else made xs) ≡ made ys → xs ≡ ys
begun_is true b xs ys e = absurd (let none : ⊥ = cc in none)
begun_is false true xs ys e = absurd (let none : ⊥ = cc in none)
begun_is false false xs ys e = same_buffers xs ys e

pub held-begun : (client : List ℕ) (buffers after : List Buffer) → AreHeld buffers → begun client buffers ≡ Ok after → AreHeld after
held-begun client buffers after held e =
    let fresh : Buffer = record { client = client; changes = [] } in
    subst AreHeld (begun_is (is_some (buffer_of client buffers)) (nat_le 64 (length buffers)) (buffers ++ fresh ∷ []) after e)
    (all_on IsHeld buffers (fresh ∷ []) held (tt, tt))

held-with_its_change : (client : List ℕ) (change : Change) → GivesStorable change → (b : Buffer) → IsHeld b → IsHeld (with_its_change client change b)
held-with_its_change client change storable b h = elim (is_name b.client client) as (λ t. IsHeld (if t then record b { changes = b.changes ++ change ∷ [] } else b)) [
  | true ↦ all_on GivesStorable b.changes (change ∷ []) h (storable, tt)
  | false ↦ h
]

held-with_change : (client : List ℕ) (change : Change) (buffers : List Buffer) → GivesStorable change → AreHeld buffers → AreHeld (with_change client change buffers)
held-with_change client change buffers storable held =
    all-map IsHeld (with_its_change client change) (held-with_its_change client change storable) buffers held

changed_is : (client : List ℕ) (change : Change) (buffers after : List Buffer) (found : Option Buffer) → changed_in client change buffers found ≡ Ok after → with_change client change buffers ≡ after
changed_is client change buffers after None e = absurd (let none : ⊥ = cc in none)
changed_is client change buffers after (Some b) e = full (length b.changes == 65536) e
  where
    full : (t : Bool) → (if t then not_made too_many_changes else made (with_change client change buffers)) ≡ made after → with_change client change buffers ≡ after
    full true e = absurd (let none : ⊥ = cc in none)
    full false e = same_buffers (with_change client change buffers) after e

pub held-changed : (client : List ℕ) (change : Change) (buffers after : List Buffer) → GivesStorable change → AreHeld buffers → changed client change buffers ≡ Ok after → AreHeld after
held-changed client change buffers after storable held e =
    subst AreHeld (changed_is client change buffers after (buffer_of client buffers) e) (held-with_change client change buffers storable held)

aborted_is : (a : Bool) (xs ys : List Buffer) → (if a then made xs else not_made not_open) ≡ made ys → xs ≡ ys
aborted_is true xs ys e = same_buffers xs ys e
aborted_is false xs ys e = absurd (let none : ⊥ = cc in none)

pub held-aborted : (client : List ℕ) (buffers after : List Buffer) → AreHeld buffers → aborted client buffers ≡ Ok after → AreHeld after
held-aborted client buffers after held e =
    subst AreHeld (aborted_is (is_some (buffer_of client buffers)) (without_buffer client buffers) after e) (held-without client buffers held)

-- a buffer that is found is one of them
pub held-found : (client : List ℕ) (buffers : List Buffer) (b : Buffer) → AreHeld buffers → buffer_of client buffers ≡ Some b → AllByRecursion GivesStorable b.changes
held-found client [] b held e = absurd (let none : ⊥ = cc in none)
held-found client (x ∷ buffers) b held e =
    elim (is_name x.client client) as (λ t. cond t (Some x) (find (λ y. is_name y.client client) buffers) ≡ Some b → IsHeld b) [
      | true ↦ λ same. subst IsHeld (some_same x b same) held.0
      | false ↦ λ rest. held-found client buffers b held.1 rest
    ] e
  where
    some_same : (x y : Buffer) → Some x ≡ Some y → x ≡ y
    some_same x y e = cc
