-- The orders of entries are total, and entries that tie are one.
use Rattle.std.specs.Prelude.{◌≡◌, ℕ, ◌≤◌, true, false, nat_le, refl}
use Rattle.std.proofs.Common.{le_trans}
use Rattle.std.proofs.lemmas.Bool.{leb-true, le-leb}
use Rattle.std.specs.declared.option.Option.TheVariants.{Some}
use Rattle.std.specs.declared.cmp.Ordering.{Ordering}
use Rattle.std.specs.declared.cmp.Ordering.TheVariants.{Less, Equal, Greater}
use Rattle.std.specs.Ordering.{nat_cmp, ordering_then, is_gt}
use Rattle.std.specs.Cmp.{IsTotalOrder}
use Rattle.std.proofs.lemmas.Cmp.{nat_cmp_total, int_cmp_total, on_total, then_total}
use Rattle.std.proofs.lemmas.Map.Keys.{le_from_not_gt}
use Rattle.std.proofs.lemmas.Map.Lookups.{exact_unsigned, exact_signed}
use Rattle.vt_base.specs.Inside.OrderLaws.{IsTotalOrder-tuple_cmp}
use Rattle.vt_base.proofs.OrderLemmas.{exact-tuple_cmp}
use Rattle.vt_base.specs.declared.numbers.RuleId.{RuleId}
use Rattle.vt_base.specs.declared.agenda.State.{State}
use Rattle.vt_base.specs.declared.agenda.State.TheVariants.{Inactive, Created, Updated, Fired, Deleted}
use Rattle.vt_resolve.specs.Choice.{is_passed}
use Rattle.vt_resolve.specs.Entries.{by_match, by_priority, by_signed, by_age, state_place, signed}
use Rattle.vt_resolve.specs.declared.entry.Entry.{Entry}

-- items that tie are one
abbrev pub IsExact : {K : Type 0} → (K → K → Ordering) → Type 0
IsExact {K} R = (x y : K) → R x y ≡ Equal → x ≡ y

-- ---- total

pub match_total : IsTotalOrder by_match
match_total =
    then_total (on_total (λ (e : Entry). e.rule.0) nat_cmp_total)
    (then_total (on_total (λ (e : Entry). e.tuple) IsTotalOrder-tuple_cmp)
    (then_total (on_total (λ (e : Entry). state_place e.state) nat_cmp_total)
    (then_total (on_total (λ (e : Entry). e.priority) int_cmp_total)
    (on_total (λ (e : Entry). e.since) nat_cmp_total))))

pub priority_total : IsTotalOrder by_priority
priority_total = then_total (on_total (λ (e : Entry). e.priority) int_cmp_total) match_total

pub signed_total : IsTotalOrder by_signed
signed_total = then_total (on_total (λ (e : Entry). signed e.state e.priority) int_cmp_total) match_total

pub age_total : IsTotalOrder by_age
age_total = then_total (on_total (λ (e : Entry). e.since) nat_cmp_total) priority_total

-- ---- exact

then_first : (a b : Ordering) → ordering_then a b ≡ Equal → a ≡ Equal
then_first Less b e = e
then_first Equal b e = refl
then_first Greater b e = e

pub then_second : (a b : Ordering) → ordering_then a b ≡ Equal → b ≡ Equal
then_second Less b e = cc
then_second Equal b e = e
then_second Greater b e = cc

state_exact : (s t : State) → state_place s ≡ state_place t → s ≡ t
state_exact Inactive Inactive e = refl
state_exact Created Created e = refl
state_exact Updated Updated e = refl
state_exact Fired Fired e = refl
state_exact Deleted Deleted e = refl
state_exact s t e = cc

pub match_exact : IsExact by_match
match_exact a b e =
    let r : a.rule.0 ≡ b.rule.0 = exact_unsigned a.rule.0 b.rule.0 (then_first _ _ e) in
    let e1 = then_second _ _ e in
    let t : a.tuple ≡ b.tuple = exact-tuple_cmp a.tuple b.tuple (then_first _ _ e1) in
    let e2 = then_second _ _ e1 in
    let s : a.state ≡ b.state = state_exact a.state b.state (exact_unsigned _ _ (then_first _ _ e2)) in
    let e3 = then_second _ _ e2 in
    let p : a.priority ≡ b.priority = exact_signed a.priority b.priority (then_first _ _ e3) in
    let n : a.since ≡ b.since = exact_unsigned a.since b.since (then_second _ _ e3) in
    λ i. record { rule = record { 0 = r i }; tuple = t i; state = s i; priority = p i; since = n i }

pub priority_exact : IsExact by_priority
priority_exact a b e = match_exact a b (then_second _ _ e)

pub signed_exact : IsExact by_signed
signed_exact a b e = match_exact a b (then_second _ _ e)

pub age_exact : IsExact by_age
age_exact a b e = priority_exact a b (then_second _ _ e)

-- ---- the entries of the rules up to one

not_gt : (a b : Ordering) → ordering_then a b ≡ Less → is_gt a ≡ false
not_gt Less b e = refl
not_gt Equal b e = refl
not_gt Greater b e = cc

no_later : (m n last : ℕ) → m ≤ n → nat_le n last ≡ true → nat_le m last ≡ true
no_later m n last l e = le-leb m last (le_trans l (leb-true n last e))

-- with an entry they have all that are before it
pub passed_closed : (last : RuleId) (x y : Entry) → by_match x y ≡ Less → is_passed (Some last) y ≡ true → is_passed (Some last) x ≡ true
passed_closed last x y l e = no_later x.rule.0 y.rule.0 last.0 (le_from_not_gt x.rule.0 y.rule.0 (not_gt (nat_cmp x.rule.0 y.rule.0) _ l)) e
