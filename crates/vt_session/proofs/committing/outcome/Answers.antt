use Rattle.std.proofs.Common.{length, refl, sym, subst, ap, ◌∙◌, ◌≤◌}
use Rattle.std.specs.Prelude.{map}
use Rattle.std.proofs.lemmas.List.{length-map}
use Rattle.vt_model.specs.Metamodel.{enum_names}
use Rattle.vt_model.specs.Base.{counts_of}
use Rattle.vt_model.specs.Touched.{AreTouched}
use Rattle.vt_history.specs.Report.{AreOfPatterns}
use Rattle.vt_session.specs.Inside.Next.{AllHoldLive}
use Rattle.vt_session.proofs.LiveLemmas.{all_hold_live}
use Rattle.vt_session.proofs.committing.outcome.Goals as goal

-- there is a table for each pattern, before and after
pub all_events-requires-clause-same : goal.all_events-requires-clause-same
all_events-requires-clause-same g c =
    let stand = c.in_ok-tables.ensures.tables c.args.store.now.meta c.args.store.now.model refl in
    c.requires.same ∙ sym (ap length c.as_slice.ensures ∙ sym (length-map c.in_ok-tables.tables (λ rows. rows.items)) ∙ stand.count)

pub all_events-requires-clause-numbered : goal.all_events-requires-clause-numbered
all_events-requires-clause-numbered g c =
    let stand = c.in_ok-tables.ensures.tables c.args.store.now.meta c.args.store.now.model refl in
    subst (λ n. n ≤ 65536) (sym (ap length c.as_slice.ensures ∙ sym (length-map c.in_ok-tables.tables (λ rows. rows.items)) ∙ stand.count)) c.requires.numbered

-- the tables are those of the model, and their rows hold live objects alone
pub returns : goal.returns
returns g c = λ before touched live.
    let meta = c.args.store.now.meta in
    let model = c.args.store.now.model in
    let old = map (λ rows. rows.items) c.args.before.now in
    let new = map (λ rows. rows.items) c.in_ok-tables.tables in
    let stand = c.in_ok-tables.ensures.tables meta model refl in
    let valid = c.meta.ensures.valid in
    let named = c.narrow_rows_are_named.ensures meta model (counts_of meta) c.args.program.now new c.meta.ensures.sound (record { values = valid.values_fit; links = valid.links_fit }) c.requires.narrow stand in
    let live_after = all_hold_live (enum_names meta) model new named in
    let events = subst (λ all. AreOfPatterns before model old (map (λ rows. rows.items) all) c.in_ok-events.events) c.as_slice.ensures
    (c.in_ok-events.ensures before model touched live (subst (λ all. AllHoldLive model (map (λ rows. rows.items) all)) (sym c.as_slice.ensures) live_after)) in
    record {
      tables = stand;
      number_is = refl;
      events = events;
      touched = subst (AreTouched before model) (sym c.in_ok-touched.ensures) touched;
      fired = refl;
    }
