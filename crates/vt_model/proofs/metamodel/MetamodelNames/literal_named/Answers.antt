use Rattle.std.proofs.Common.{◌≡◌, ℕ, rules, nat_eq, position, option_map, Some, ap, sym, ◌∙◌}
use Rattle.std.specs.Prelude.{option_and_then}
use Rattle.std.specs.Cmp.Lexicographic.{pointwise}
use Rattle.vt_model.specs.Inside.Tables.{literal_place}
use Rattle.vt_model.proofs.PositionLemmas.{literal_numbers_names_of}
use Rattle.vt_model.proofs.metamodel.MetamodelNames.literal_named.Goals as goal

pub returns : goal.returns
returns c =
    let enums = c.args.self.now.enums in
    let name = c.args.enum_name.now in
    let literal = c.args.literal.now in
    let e : position (λ i. pointwise nat_eq i.name name) enums ≡ Some c.in_ok-e.e = search rules in
    let l : literal_place enums c.in_ok-e.e literal ≡ Some c.in_ok-l.l = search rules in
    sym (literal_numbers_names_of enums name literal
    ∙ ap (option_and_then {U = ℕ × ℕ} (λ i. option_map (λ j. (i, j)) (literal_place enums i literal))) e
    ∙ ap (option_map {U = ℕ × ℕ} (λ j. (c.in_ok-e.e, j))) l)
