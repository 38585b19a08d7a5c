use Rattle.std.proofs.Common.{◌≡◌, ◌++◌, drop}
use Rattle.vt_model_json.specs.Inside.Plan.{owned, owned_by}
use Rattle.vt_model_json.proofs.plan.references_of.Given as goal

-- those so far, and those that the rest gives, are all
abbrev pub invariant-loop-r : goal.invariant-loop-r
invariant-loop-r l = l.numbers ++ owned l.meta l.class l.r (drop l.r l.meta.references) ≡ owned_by l.meta l.class
