use Rattle.std.proofs.Common.{◌∙◌, ◌+◌, option_map, sym, ap}
use Rattle.vt_cli.proofs.unbuilt.first_unbuilt.Goals as goal

pub returns-in-Some : goal.returns-in-Some
returns-in-Some c = ap (option_map (λ i. i + 1)) (sym c.in-Some.is ∙ c.first_place.ensures)

pub returns-in-None : goal.returns-in-None
returns-in-None c = ap (option_map (λ i. i + 1)) (sym c.in-None.is ∙ c.first_place.ensures)
