-- What a resolver holds, and which entry it picks.
use Rattle.std.specs.Prelude.{ℕ, Bool, false, not, cond, List, [], ◌∷◌, nat_le}
use Rattle.std.specs.declared.option.Option.{Option}
use Rattle.std.specs.declared.option.Option.TheVariants.{None, Some}
use Rattle.std.specs.declared.cmp.Ordering.{Ordering}
use Rattle.std.specs.List.{find, list_any}
use Rattle.std.specs.Ordering.{is_eq, is_lt, nat_cmp}
use Rattle.vt_base.specs.declared.agenda.Policy.{Policy}
use Rattle.vt_base.specs.declared.agenda.Policy.TheVariants.{Fixed, Inverted, Oldest, Turns}
use Rattle.vt_base.specs.declared.numbers.RuleId.{RuleId}
use Rattle.vt_resolve.specs.Entries.{in_turn, by_activation, by_match, by_priority, by_signed, by_age}
use Rattle.vt_resolve.specs.declared.entry.Entry.{Entry}

-- whether the entry's rule has had its turn: it isn't above the one that fired last
abbrev pub is_passed : Option RuleId → Entry → Bool
is_passed None e = false
is_passed (Some last) e = nat_le e.rule.0 last.0

-- the round in which the entry's rule has its turn: this one, or the next
abbrev pub round : Option RuleId → Entry → ℕ
round last e = cond (is_passed last e) 1 0

-- by round, rule and match
abbrev pub by_turn : Option RuleId → Entry → Entry → Ordering
by_turn last a b = in_turn
    (nat_cmp (round last a) (round last b)
    ∷ by_match a b
    ∷ [])

-- the order in which a policy takes entries, given the rule that fired last
abbrev pub order_of : Policy → Option RuleId → Entry → Entry → Ordering
order_of Fixed last = by_priority
order_of Inverted last = by_signed
order_of Oldest last = by_age
order_of Turns last = by_turn last

-- whether one of the entries is before this one
abbrev pub is_preceded : {K : Type 0} → (K → K → Ordering) → List K → K → Bool
is_preceded R entries e = list_any (λ f. is_lt (R f e)) entries

-- the entry that no entry is before; none where there are none
abbrev pub choose : Policy → Option RuleId → List Entry → Option Entry
choose policy last entries = find (λ e. not (is_preceded (order_of policy last) entries e)) entries

-- whether an entry of this rule and match is held
abbrev pub holds_match : List Entry → Entry → Bool
holds_match entries q = list_any (λ e. is_eq (by_activation e q)) entries

-- what a resolver is seen as: its policy, the rule that fired last, the entries that it holds, by
-- rule and match, and how many more it takes with no memory
pub record Resolving : Type 0 where
  pub policy : Policy
  pub last : Option RuleId
  pub held : List Entry
  pub spare : ℕ

-- the same without the policy: what a resolver's fields come to
pub record Keeping : Type 0 where
  pub last : Option RuleId
  pub held : List Entry
  pub spare : ℕ
