use Rattle.std.proofs.Common.{◌≡◌, drop, map}
use Rattle.vt_json.specs.Shape.{is_listed}
use Rattle.vt_json.proofs.shape.is_key.Given as goal

-- what is left is looked through as the whole is
abbrev pub invariant-loop-k : goal.invariant-loop-k
invariant-loop-k l = is_listed (map (λ k. k.now) (drop l.k-index l.keys)) l.key ≡ is_listed (map (λ k. k.now) l.keys) l.key
