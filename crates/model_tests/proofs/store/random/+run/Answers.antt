-- What was done fits still when the changes after it were taken back.
use Rattle.vt_store.proofs.BackLemmas.{fits_step}
use Rattle.model_tests.proofs.store.random.+run.Goals as goal

pub take_back-requires : goal.take_back-requires
take_back-requires t c = record { fits = fits_step c.in_ok-step.step c.args.store.now c.attempt.new.store c.run.new.store c.in_ok-step.ensures c.in_ok-run.ensures }
