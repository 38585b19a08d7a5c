use Rattle.std.proofs.Common.{◌≡◌, ◌++◌, ◌∙◌, Err, codes, decimal, ap, subst, inl, inr}
use Rattle.vt_model.specs.Metamodel.{enum_names}
use Rattle.vt_model.specs.Sound.{IsSound}
use Rattle.vt_graph.specs.Asked.{all_names}
use Rattle.vt_cli.specs.Replies.{told}
use Rattle.vt_cli.specs.Inside.Marks.{all_marked}
use Rattle.vt_cli.proofs.PrintableLemmas.{IsValid-moved, step_in_store}
use Rattle.vt_cli.proofs.ReplyLemmas.{IfOk-map, step_replied, refusal_replied}
use Rattle.vt_cli.proofs.running.commit.Goals as goal

-- what the events name has a name
pub step-requires : goal.step-requires
step-requires g c =
    let at = c.requires.at in
    step_in_store c.narrow_rows_are_named.ensures c.transaction_keeps_names.ensures c.args.session.now c.commit.new.self c.commit.ensures.of c.args.client.now c.in-Ok.report at.0 at.1
    (c.in-Ok.ensures.done at.0 at.1.stands)
    (subst IsSound c.store.ensures.meta c.meta.ensures.sound)
    (IsValid-moved _ _ _ _ c.store.ensures.meta c.store.ensures.model c.meta.ensures.valid)
    (IsValid-moved _ _ _ _ c.store-store.ensures.meta c.store-store.ensures.model c.meta-in-Ok.ensures.valid)
    c.store-store.result.now.meta c.store-store.result.now.model c.store-store.ensures.meta c.store-store.ensures.model

-- a step, which the report tells
pub returns-in-Ok-clause-reply : goal.returns-in-Ok-clause-reply
returns-in-Ok-clause-reply g c = λ state at.
    let store = c.store-store.result.now in
    let report = c.in-Ok.report in
    IfOk-map c.step.result _ _ (λ text is.
    step_replied c.args.session.now c.commit.new.self c.commit.ensures.of c.args.client.now state report text store.meta store.model c.program.result.now at
    (c.in-Ok.ensures.done state at.stands) c.store-store.ensures.meta c.store-store.ensures.model c.program.ensures
    (subst (λ patterns. text ≡ told (codes "commit") c.args.client.now (codes "step " ++ decimal report.step)
    ++ all_marked (record { enums = enum_names store.meta; objects = all_names store.model }) patterns report.events) c.as_slice-patterns.ensures is)) c.step.ensures

-- the transaction isn't open, or is refused
pub returns-in-Err-clause-reply : goal.returns-in-Err-clause-reply
returns-in-Err-clause-reply g c = λ state at.
    IfOk-map c.refused.result _ _ (λ text says.
    refusal_replied c.args.session.now c.commit.new.self c.commit.ensures.of c.in-Err.fault c.args.client.now text state at
    (c.in-Err.ensures.refused state at.stands)
    (λ n refusal is. c.commit.ensures.ended state at.stands n refusal (c.in-Err.is ∙ ap (λ f. Err f) is))
    (λ either. c.commit.ensures.unchanged (elim either [
      | inl e ↦ inl (c.in-Err.is ∙ ap (λ f. Err f) e)
      | inr e ↦ inr (c.in-Err.is ∙ ap (λ f. Err f) e)
    ]))
    says) c.refused.ensures
