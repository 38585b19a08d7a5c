use Rattle.vt_base.specs.Inside.OrderLaws.{IsTotalOrder-tuple_cmp}
use Rattle.vt_base.proofs.OrderLemmas.{exact-tuple_cmp}
use Rattle.vt_base.proofs.laws.tuples_are_ordered.Goals as goal

pub returns-clause-total : goal.returns-clause-total
returns-clause-total c = IsTotalOrder-tuple_cmp

pub returns-clause-exact : goal.returns-clause-exact
returns-clause-exact c = exact-tuple_cmp
