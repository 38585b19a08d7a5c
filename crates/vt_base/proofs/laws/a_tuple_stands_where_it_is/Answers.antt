use Rattle.std.proofs.lemmas.Map.Made.{is_member-Decides}
use Rattle.vt_base.specs.Inside.OrderLaws.{IsTotalOrder-tuple_cmp}
use Rattle.vt_base.proofs.OrderLemmas.{exact-tuple_cmp, eq_by_cmp-Decides}
use Rattle.vt_base.proofs.laws.a_tuple_stands_where_it_is.Goals as goal

pub returns : goal.returns
returns c rows row = is_member-Decides (eq_by_cmp-Decides IsTotalOrder-tuple_cmp exact-tuple_cmp) rows row
