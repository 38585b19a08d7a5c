use Rattle.std.proofs.Common.{◌≡◌, drop}
use Rattle.vt_text.specs.Inside.Chains.{chain_kind}
use Rattle.vt_text.proofs.+kind.Given as goal

-- what is left goes on from the kind so far
abbrev pub invariant-kind::chain-loop-operand : goal.invariant-kind::chain-loop-operand
invariant-kind::chain-loop-operand l = chain_kind l.kind (drop l.operand-index l.rest) l.kinds ≡ chain_kind l.fn.first l.fn.rest l.fn.kinds
