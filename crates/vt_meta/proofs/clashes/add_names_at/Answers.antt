use Rattle.std.proofs.Common.{◌≡◌, ◌≤◌, length, ◌∙◌, sym, ap, [], ◌++◌, slice_get, None, rules}
use Rattle.std.specs.Option.{option_map_or}
use Rattle.std.proofs.lemmas.List.{append-nil}
use Rattle.std.proofs.lemmas.Option.{slice_get_past}
use Rattle.vt_meta.specs.Declarations.{declared_names}
use Rattle.vt_meta.proofs.clashes.add_names_at.Goals as goal

pub returns-in-None : goal.returns-in-None
returns-in-None c =
    let past : length c.args.classes.now ≤ c.args.place = search rules in
    let none : slice_get c.args.classes.now c.args.place ≡ None = slice_get_past c.args.classes.now c.args.place past in
    sym (ap (λ class. c.args.names.now ++ option_map_or declared_names class []) none ∙ append-nil c.args.names.now)
