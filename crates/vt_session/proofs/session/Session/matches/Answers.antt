use Rattle.std.proofs.Common.{◌≡◌, Some, None, sym, ap, ◌∙◌}
use Rattle.std.specs.Prelude.{option_map, position}
use Rattle.vt_session.proofs.StateLemmas.{is_shown, named_at, none_named}
use Rattle.vt_session.proofs.session.Session.matches.Goals as goal

-- the pattern is there, and its table is at its place
pub returns-in-Some : goal.returns-in-Some
returns-in-Some c =
    let name = c.args.pattern.now in
    let at : position (is_shown name) c.args.self.now.program.patterns ≡ Some c.in-Some.at =
    sym (ap (λ kept. position (is_shown name) kept.program.patterns) c.self.view_is) ∙ sym (ap (position (is_shown name)) c.as_slice.ensures) ∙ sym c.shown_place.ensures ∙ c.in-Some.is in
    ap (option_map (λ rows. rows.items)) c.get.ensures
    ∙ named_at (λ rows. rows.items) c.args.self.now c.self.inside.tables name (sym (ap (λ kept. kept.tables) c.self.view_is)) c.in-Some.at at

pub returns-in-None : goal.returns-in-None
returns-in-None c =
    let name = c.args.pattern.now in
    let none : position (is_shown name) c.args.self.now.program.patterns ≡ None =
    sym (ap (λ kept. position (is_shown name) kept.program.patterns) c.self.view_is) ∙ sym (ap (position (is_shown name)) c.as_slice.ensures) ∙ sym c.shown_place.ensures ∙ c.in-None.is in
    none_named c.args.self.now name none
