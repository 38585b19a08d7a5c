use Rattle.std.proofs.Common.{[], ◌∷◌, refl, sym, subst}
use Rattle.std.specs.Prelude.{map}
use Rattle.std.proofs.lemmas.List.Elements.{All-cons, All-nil}
use Rattle.vt_query.specs.Tables.{StandFor}
use Rattle.vt_history.specs.History.{load, Step}
use Rattle.vt_session.specs.Inside.Order.{HaveOneEach}
use Rattle.vt_session.proofs.session.Session.start.Goals as goal

pub invariant_of-result : goal.invariant_of-result
invariant_of-result g c = record {
  narrow = c.requires.narrow;
  numbered = c.requires.numbered;
  stand = c.in_ok-tables.ensures.tables c.args.store.meta c.args.store.model refl;
  clients = subst HaveOneEach (sym c.new.ensures.items) refl;
}

-- the load is the only step
pub returns-clause-starts : goal.returns-clause-starts
returns-clause-starts g c =
    let stand = c.in_ok-tables.ensures.tables c.args.store.meta c.args.store.model refl in
    let step : Step = record { cause = load; model = c.args.store.model; tables = map (λ rows. rows.items) c.in_ok-tables.tables } in
    let Stands : Step → Type 0 = λ s. StandFor c.args.store.meta s.model c.args.program s.tables in (
      record { steps = step ∷ []; buffers = [] },
      record { step = step; loads = record { caused = refl; model = refl; tables = stand }; is = refl },
      record { history = All-cons Stands step [] stand (All-nil Stands); model = refl; tables = refl; step = refl; buffers = c.new.ensures.items },
    )
