use Rattle.std.proofs.Common.{◌≡◌, ◌∙◌, ap, rules}
use Rattle.serde_json.specs.Data.{no_members}
use Rattle.vt_model_json.specs.Dump.{value_data, attribute_members}
use Rattle.vt_model_json.specs.Inside.Entries.{entry_members}
use Rattle.vt_model_json.proofs.Dumped.Values.{values_in, held_values}
use Rattle.vt_model_json.proofs.dump.values_by_name.Goals as goal

-- the places that the store answers give the values of the object
pub loop-place-init : goal.loop-place-init
loop-place-init c =
    let meta = c.args.store.now.meta in
    let places = c.values-place-items.result.now in
    let empty : entry_members (λ k. k.now) (λ v. value_data meta v.now) c.new-values.result.entries ≡ no_members = search rules in
    ap (λ members. attribute_members meta members (values_in c.args.owner places)) empty
    ∙ ap (attribute_members meta no_members)
    (held_values meta c.args.store.now.model c.meta-meta.ensures.valid c.args.owner places c.values-place-items.ensures.value c.values-place-items.ensures.rises)
