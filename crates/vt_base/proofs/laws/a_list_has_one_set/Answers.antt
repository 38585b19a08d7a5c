use Rattle.std.proofs.Common.{sym, ◌∙◌}
use Rattle.vt_base.specs.Order.{tuple_cmp}
use Rattle.vt_base.specs.Inside.OrderLaws.{IsTotalOrder-tuple_cmp}
use Rattle.vt_base.proofs.OrderLemmas.{exact-tuple_cmp}
use Rattle.vt_base.proofs.RowsLemmas.{same_list}
use Rattle.vt_base.proofs.laws.a_list_has_one_set.Goals as goal

pub returns : goal.returns
returns c given a b one other = same_list tuple_cmp IsTotalOrder-tuple_cmp exact-tuple_cmp a b one.ascends other.ascends (λ row. one.same row ∙ sym (other.same row))
