use Rattle.std.proofs.Common.{rules, ◌≤◌, ◌∙◌, length, Some, sym, ap}
use Rattle.std.specs.Prelude.{unwrap_or}
use Rattle.vt_delta.proofs.KeptLemmas.{get-above}
use Rattle.vt_delta.proofs.deltas.Deltas.get.Goals as goal

-- one is kept at the number
pub returns-in-Some : goal.returns-in-Some
returns-in-Some c =
    let past : length c.self.inside.given.items ≤ c.args.n = search rules in
    get-above c.self.inside.given.items c.self.inside.kept c.self.inside.above c.self.inside.empty c.args.self.now c.self.view_is c.args.n c.requires.there past
    ∙ ap (λ o. Some (unwrap_or o c.self.inside.empty)) (sym c.in-Some.ensures.value)

-- none is
pub returns-in-None : goal.returns-in-None
returns-in-None c =
    let past : length c.self.inside.given.items ≤ c.args.n = search rules in
    get-above c.self.inside.given.items c.self.inside.kept c.self.inside.above c.self.inside.empty c.args.self.now c.self.view_is c.args.n c.requires.there past
    ∙ ap (λ o. Some (unwrap_or o c.self.inside.empty)) (sym c.in-None.ensures.value)
