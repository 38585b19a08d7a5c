use Rattle.std.proofs.Common.{◌≡◌, drop}
use Rattle.serde_json.specs.Data.{no_members}
use Rattle.vt_model_json.specs.Dump.{value_data, attribute_members, values_of}
use Rattle.vt_model_json.specs.Inside.Entries.{entry_members}
use Rattle.vt_model_json.proofs.Dumped.Values.{values_in}
use Rattle.vt_model_json.proofs.dump.values_by_name.Given as goal

-- what is in, with what the places that are left give, is what the values of the object give
abbrev pub invariant-loop-place : goal.invariant-loop-place
invariant-loop-place l = attribute_members l.store.meta (entry_members (λ k. k.now) (λ v. value_data l.store.meta v.now) l.values.entries) (values_in l.fn.owner (drop l.place-index l.place-items))
    ≡ attribute_members l.store.meta no_members (values_of l.store.model l.fn.owner)
