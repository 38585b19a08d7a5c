use Rattle.std.proofs.Common.{◌∙◌, ap}
use Rattle.vt_model_json.specs.Dump.{texts, with_targets}
use Rattle.vt_model_json.specs.Inside.Entries.{entry_members, names_data}
use Rattle.vt_model_json.specs.Inside.Plan.{reference_name}
use Rattle.vt_model_json.specs.Inside.Shown.{shown_names}
use Rattle.vt_model_json.proofs.Dumped.Targets.{targets_shown}
use Rattle.vt_model_json.proofs.dump.add_targets.Goals as goal

-- the targets that the store answers are those of the links
pub returns : goal.returns
returns c =
    let meta = c.args.store.now.meta in
    let g = c.args.store.now.model in
    let before = entry_members (λ k. k.now) (λ os. names_data g os.now) c.args.targets.now.entries in
    c.in_ok-put_targets.ensures g
    ∙ ap (λ key. with_targets key (texts (shown_names g c.targets-objects.result.now)) before) (c.reference_name.ensures ∙ ap (λ m. reference_name m c.args.reference) c.meta-meta.ensures.value)
    ∙ ap (λ names. with_targets (reference_name meta c.args.reference) (texts names) before)
    (ap (shown_names g) c.targets-objects.ensures ∙ targets_shown meta g c.meta-meta.ensures.valid c.args.owner c.args.reference)
