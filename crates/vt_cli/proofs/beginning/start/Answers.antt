use Rattle.vt_cli.proofs.BeginLemmas.{has_begun}
use Rattle.vt_cli.proofs.beginning.start.Goals as goal

-- the session stands for the start of a run
pub returns-in-Ok-clause-ready : goal.returns-in-Ok-clause-ready
returns-in-Ok-clause-ready g c =
    let starts = c.in-Ok.ensures.starts in
    has_begun c.args.store.meta c.args.program c.args.store.model c.in-Ok.session c.in-Ok.ensures.of starts.0 starts.1 starts.2
    c.requires.narrow c.args.lines c.requires.built c.requires.few
