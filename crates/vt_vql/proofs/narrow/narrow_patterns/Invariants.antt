use Rattle.std.proofs.Common.{◌≡◌, drop}
use Rattle.vt_facts.specs.Parts.{with_front}
use Rattle.vt_vql.specs.Resolving.{all_of, narrow_pattern}
use Rattle.vt_vql.proofs.narrow.narrow_patterns.Given as goal

-- what is out, and what the rest gives, is what the whole gives
abbrev pub invariant-loop-tree : goal.invariant-loop-tree
invariant-loop-tree l = with_front l.patterns (all_of (narrow_pattern l.meta) (drop l.tree-index l.trees)) ≡ all_of (narrow_pattern l.meta) l.trees
