-- The jobs of a rule, each for a state.
use Rattle.std.specs.Prelude.{Bool, true, false, List, find, is_some, Option}
use Rattle.vt_base.specs.declared.agenda.State.{State}
use Rattle.vt_base.specs.declared.agenda.State.TheVariants.{Inactive, Created, Updated, Fired, Deleted}
use Rattle.vt_rule.specs.declared.rule.Job.{Job}

-- whether a state is this one
abbrev pub is_state : State → State → Bool
is_state Inactive Inactive = true
is_state Created Created = true
is_state Updated Updated = true
is_state Fired Fired = true
is_state Deleted Deleted = true
is_state state which = false

-- the job for a state
abbrev pub job_for : List Job → State → Option Job
job_for jobs state = find (λ (j : Job). is_state j.state state) jobs

-- whether there is a job for the state
abbrev pub has_job : List Job → State → Bool
has_job jobs state = is_some (job_for jobs state)
