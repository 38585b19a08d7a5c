use Rattle.std.proofs.Common.{◌≡◌, drop}
use Rattle.vt_text.specs.Inside.Chains.{chain_value}
use Rattle.vt_text.proofs.+eval.Given as goal

-- what is left goes on from the value so far
abbrev pub invariant-eval::chain-loop-operand : goal.invariant-eval::chain-loop-operand
invariant-eval::chain-loop-operand l = chain_value l.value (drop l.operand-index l.rest) l.values ≡ chain_value l.fn.first l.fn.rest l.fn.values
