use Rattle.std.proofs.Common.{◌≡◌, rules, position, Some, ap, ◌∙◌}
use Rattle.std.specs.Prelude.{slice_get}
use Rattle.vt_facts.specs.Names.{is_name}
use Rattle.vt_asked.proofs.valuing.place_in_enum.Goals as goal

-- the literals are those of the enum that is there
pub returns-in-Some-clause-value : goal.returns-in-Some-clause-value
returns-in-Some-clause-value c =
    let there : slice_get c.args.meta.now.enums c.args.e ≡ Some c.in-Some.info.now = search rules in
    rw there (c.place_of_literal.ensures ∙ ap (position (λ literal. is_name literal c.args.name.now)) c.as_slice.ensures)
