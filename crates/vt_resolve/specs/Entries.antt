-- How entries are compared: by one thing after the other.
use Rattle.std.specs.Prelude.{ℕ, ℤ, neg_ℤ, List, [], ◌∷◌}
use Rattle.std.specs.declared.cmp.Ordering.{Ordering}
use Rattle.std.specs.declared.cmp.Ordering.TheVariants.{Equal}
use Rattle.std.specs.Ordering.{int_cmp, nat_cmp, ordering_then}
use Rattle.vt_base.specs.Order.{tuple_cmp}
use Rattle.vt_base.specs.declared.agenda.State.{State}
use Rattle.vt_base.specs.declared.agenda.State.TheVariants.{Inactive, Created, Updated, Fired, Deleted}
use Rattle.vt_resolve.specs.declared.entry.Entry.{Entry}

-- the first comparison that tells a difference decides
abbrev pub in_turn : List Ordering → Ordering
in_turn [] = Equal
in_turn (r ∷ []) = r
in_turn (r ∷ s ∷ rs) = ordering_then r (in_turn (s ∷ rs))

-- the place of a state in the sequence of states
abbrev pub state_place : State → ℕ
state_place Inactive = 0
state_place Created = 1
state_place Updated = 2
state_place Fired = 3
state_place Deleted = 4

-- the priority, negated as a whole number for an entry in state Deleted
abbrev pub signed : State → ℤ → ℤ
signed Deleted priority = neg_ℤ priority
signed state priority = priority

-- by rule and match
abbrev pub by_activation : Entry → Entry → Ordering
by_activation a b = in_turn
    (nat_cmp a.rule.0 b.rule.0
    ∷ tuple_cmp a.tuple b.tuple
    ∷ [])

-- by rule and match; entries of one rule and match, which are never held together, by what is left
abbrev pub by_match : Entry → Entry → Ordering
by_match a b = in_turn
    (nat_cmp a.rule.0 b.rule.0
    ∷ tuple_cmp a.tuple b.tuple
    ∷ nat_cmp (state_place a.state) (state_place b.state)
    ∷ int_cmp a.priority b.priority
    ∷ nat_cmp a.since b.since
    ∷ [])

-- by priority, rule and match
abbrev pub by_priority : Entry → Entry → Ordering
by_priority a b = in_turn
    (int_cmp a.priority b.priority
    ∷ by_match a b
    ∷ [])

-- by signed priority, rule and match
abbrev pub by_signed : Entry → Entry → Ordering
by_signed a b = in_turn
    (int_cmp (signed a.state a.priority) (signed b.state b.priority)
    ∷ by_match a b
    ∷ [])

-- by the step at which they came to be enabled, priority, rule and match
abbrev pub by_age : Entry → Entry → Ordering
by_age a b = in_turn
    (nat_cmp a.since b.since
    ∷ int_cmp a.priority b.priority
    ∷ by_match a b
    ∷ [])
