-- Deltas that are kept at their numbers, and the empty one that stands for all others.
use Rattle.std.specs.Prelude.{ℕ, List, map, unwrap_or, option_map}
use Rattle.std.specs.BTreeMap.{BTreeMap, get}
use Rattle.std.specs.List.{range_with_len}
use Rattle.std.specs.Ordering.{nat_cmp}
use Rattle.vt_base.specs.declared.value.Value.{Value}
use Rattle.vt_delta.specs.Changes.{Change, change_of, no_change, after_coming, after_going}
use Rattle.vt_delta.specs.declared.delta.Delta.{Delta}
use Rattle.vt_delta.specs.declared.deltas.Way.{Way}
use Rattle.vt_delta.specs.declared.deltas.Way.TheVariants.{Coming, Going}

-- the delta that is kept at a number, or the empty one
abbrev pub delta_at : BTreeMap ℕ Delta → Delta → ℕ → Delta
delta_at kept empty n = unwrap_or (get nat_cmp kept n) empty

-- the deltas of so many numbers, from one on
abbrev pub deltas_from : BTreeMap ℕ Delta → Delta → ℕ → ℕ → List Delta
deltas_from kept empty start count = map (delta_at kept empty) (range_with_len start count)

-- the change that is kept at a number, or none
abbrev pub change_at : BTreeMap ℕ Delta → ℕ → Change
change_at kept n = unwrap_or (option_map change_of (get nat_cmp kept n)) no_change

-- the change, once a row came or went
abbrev pub moved : Way → List Value → Change → Change
moved Coming row change = after_coming change row
moved Going row change = after_going change row
