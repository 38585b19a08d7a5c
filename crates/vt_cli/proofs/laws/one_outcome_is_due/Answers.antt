use Rattle.vt_cli.proofs.DueLemmas.{one_outcome}
use Rattle.vt_cli.proofs.laws.one_outcome_is_due.Goals as goal

pub returns : goal.returns
returns c = one_outcome (record {
  one_program = c.one_program.ensures;
  no_fault = c.accepted_has_no_fault.ensures;
  one_fault = c.one_fault.ensures;
  narrow = c.accepted_is_narrow.ensures;
  acyclic = c.narrow_is_acyclic.ensures;
  one_list = c.at_most_one_list_of_tables.ensures;
})
