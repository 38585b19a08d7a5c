-- The deleted objects, after more of them came.
use Rattle.std.proofs.Common.{◌≡◌, ◌+◌, List, [], ◌∷◌, cond, arith, Bool}
use Rattle.std.specs.Prelude.{◌≤◌, All, count_by, fold}
use Rattle.std.specs.List.Sorted.{IsStrictlySortedBy}
use Rattle.std.specs.Cmp.{IsTotalOrder}
use Rattle.std.proofs.lemmas.Cmp.{on_total, nat_cmp_total}
use Rattle.std.proofs.lemmas.List.Elements.{All-head, All-tail}
use Rattle.std.proofs.lemmas.Map.Views.{All-insert_key}
use Rattle.vt_model.specs.Deleting.{gone_order, with_gone}
use Rattle.vt_model.specs.declared.model.Object.{Object}
use Rattle.vt_model.specs.declared.model.GoneObject.{GoneObject}
use Rattle.vt_facts.proofs.OrderedLemmas.{IsStrictlySortedBy-insert_key}
use Rattle.vt_facts.proofs.CountLemmas.{count_by-cons, count_by-insert_key-le}

-- what stays of an object
abbrev pub gone_of : Object → GoneObject
gone_of o = record { number = o.number; name = o.name }

-- deleted objects are ordered by their numbers
gone_order_total : IsTotalOrder gone_order
gone_order_total = on_total (λ o. o.number.0) nat_cmp_total

-- they rise still
pub IsStrictlySortedBy-with_gone : (gone : List GoneObject) (objects : List Object) → IsStrictlySortedBy gone_order gone → IsStrictlySortedBy gone_order (fold with_gone gone objects)
IsStrictlySortedBy-with_gone gone [] rise = rise
IsStrictlySortedBy-with_gone gone (o ∷ objects) rise =
    IsStrictlySortedBy-with_gone (with_gone gone o) objects (IsStrictlySortedBy-insert_key gone_order gone_order_total gone (gone_of o) rise)

-- what holds of the old and of the new ones holds of all
pub All-with_gone : (P : GoneObject → Type 0) (gone : List GoneObject) (objects : List Object) → All P gone → All (λ o. P (gone_of o)) objects → All P (fold with_gone gone objects)
All-with_gone P gone [] old new = old
All-with_gone P gone (o ∷ objects) old new =
    All-with_gone P (with_gone gone o) objects
    (All-insert_key gone_order (gone_of o) P gone old (All-head (λ o. P (gone_of o)) o objects new))
    (All-tail (λ o. P (gone_of o)) o objects new)

-- no more of them pass a test than old and new ones do
pub count_by-with_gone : (p : GoneObject → Bool) (gone : List GoneObject) (objects : List Object)
    → count_by p (fold with_gone gone objects) ≤ count_by p gone + count_by (λ o. p (gone_of o)) objects
count_by-with_gone p gone [] = omega arith
count_by-with_gone p gone (o ∷ objects) =
    let first : count_by p (with_gone gone o) ≤ cond (p (gone_of o)) 1 0 + count_by p gone = count_by-insert_key-le p gone_order gone (gone_of o) in
    let rest : count_by p (fold with_gone (with_gone gone o) objects) ≤ count_by p (with_gone gone o) + count_by (λ o. p (gone_of o)) objects = count_by-with_gone p (with_gone gone o) objects in
    let all : count_by (λ o. p (gone_of o)) (o ∷ objects) ≡ cond (p (gone_of o)) 1 0 + count_by (λ o. p (gone_of o)) objects = count_by-cons (λ o. p (gone_of o)) o objects in
    omega arith
