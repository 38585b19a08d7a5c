-- What changed between two models whose lists rise, taken back.
use Rattle.std.proofs.Common.{◌≡◌}
use Rattle.std.specs.Cmp.{IsTotalOrder}
use Rattle.std.proofs.lemmas.Cmp.{on_total, nat_cmp_total}
use Rattle.vt_model.specs.Metamodel.{Metamodel}
use Rattle.vt_model.specs.Model.{Model}
use Rattle.vt_model.specs.Assigning.{value_order}
use Rattle.vt_model.specs.Linking.{link_order}
use Rattle.vt_model.specs.Deleting.{gone_order}
use Rattle.vt_model.specs.Valid.{IsValid, object_order}
use Rattle.vt_store.specs.Edits.{same_object, same_gone, same_value, same_link, edit_of, undone}
use Rattle.vt_store.proofs.EditLemmas.{undone_list-net}
use Rattle.vt_store.proofs.SameLemmas.{Decides-same_object, Decides-same_gone, Decides-same_value, Decides-same_link}
use Rattle.vt_graph.proofs.Linked.Stored.{link_order_total}
use Rattle.vt_graph.proofs.ValueLemmas.{value_order_total}

pub object_order_total : IsTotalOrder object_order
object_order_total = on_total (λ o. o.number.0) nat_cmp_total

pub gone_order_total : IsTotalOrder gone_order
gone_order_total = on_total (λ o. o.number.0) nat_cmp_total

pub undone-edit_of : (meta : Metamodel) (before after : Model) → IsValid meta before → IsValid meta after → undone (edit_of before after) after ≡ before
undone-edit_of meta before after valid other = λ i. record {
  next = before.next;
  live = undone_list-net same_object Decides-same_object object_order object_order_total before.live after.live valid.objects_rise other.objects_rise i;
  gone = undone_list-net same_gone Decides-same_gone gone_order gone_order_total before.gone after.gone valid.gone_rise other.gone_rise i;
  values = undone_list-net same_value Decides-same_value value_order value_order_total before.values after.values valid.values_rise other.values_rise i;
  links = undone_list-net same_link Decides-same_link link_order link_order_total before.links after.links valid.links_rise other.links_rise i;
}
