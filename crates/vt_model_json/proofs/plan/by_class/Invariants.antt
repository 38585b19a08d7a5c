use Rattle.vt_model_json.specs.Inside.Plan.{IsPlan}
use Rattle.vt_model_json.proofs.plan.by_class.Given as goal

-- the classes so far have their references
abbrev pub invariant-loop-c : goal.invariant-loop-c
invariant-loop-c l = IsPlan l.meta l.c l.plan
