use Rattle.vt_base.specs.Inside.OrderLaws.{IsTotalOrder-value_cmp}
use Rattle.vt_base.proofs.OrderLemmas.{exact-value_cmp}
use Rattle.vt_base.proofs.laws.values_are_ordered.Goals as goal

pub returns-clause-total : goal.returns-clause-total
returns-clause-total c = IsTotalOrder-value_cmp

pub returns-clause-exact : goal.returns-clause-exact
returns-clause-exact c = exact-value_cmp
