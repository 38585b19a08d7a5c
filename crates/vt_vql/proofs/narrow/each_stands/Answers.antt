use Rattle.std.proofs.Common.{rules}
use Rattle.vt_vql.proofs.ScopeLemmas.{one_missing}
use Rattle.vt_vql.proofs.narrow.each_stands.Goals as goal

-- a variable stands nowhere
pub returns-then-not-stands : goal.returns-then-not-stands
returns-then-not-stands c = let e = one_missing c.loop-variable.variable c.args.count c.args.uses.now in search (rules, e)
