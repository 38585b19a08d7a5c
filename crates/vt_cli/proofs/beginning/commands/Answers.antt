use Rattle.std.proofs.Common.{◌∙◌, sym, subst}
use Rattle.vt_cli.specs.Inside.Begun.{AreBuilt}
use Rattle.vt_cli.proofs.BeginLemmas.{all_built}
use Rattle.vt_cli.proofs.beginning.commands.Goals as goal

-- no command was found that isn't built
pub returns-in-None-clause-built : goal.returns-in-None-clause-built
returns-in-None-clause-built c = subst AreBuilt c.as_slice.ensures (all_built c.as_slice.result.now (sym c.first_unbuilt.ensures ∙ c.in-None.is))
