use Rattle.std.proofs.Common.{◌≡◌, ◌+◌, drop, length}
use Rattle.vt_facts.specs.Parts.{with_front}
use Rattle.vt_vql.specs.Resolving.{all_of, param_of}
use Rattle.vt_vql.proofs.resolver.params.Given as goal

-- what is out, and what the rest gives, is what the whole gives, in number too
abbrev pub invariant-loop-tree : goal.invariant-loop-tree
invariant-loop-tree l =
    (with_front l.params (all_of (param_of l.meta) (drop l.tree-index l.trees)) ≡ all_of (param_of l.meta) l.trees)
    × (length l.params + length (drop l.tree-index l.trees) ≡ length l.trees)
