use Rattle.std.proofs.Common.{sym, subst}
use Rattle.std.specs.Prelude.{map}
use Rattle.vt_model.specs.Metamodel.{enum_names}
use Rattle.vt_model.specs.Base.{counts_of}
use Rattle.vt_model.specs.Touched.{AreTouched}
use Rattle.vt_session.specs.Inside.Next.{IsNext}
use Rattle.vt_session.proofs.LiveLemmas.{all_hold_live}
use Rattle.vt_session.proofs.committing.make.Goals as goal

-- the rows before hold live objects alone
pub returns-in-Ok-clause-next : goal.returns-in-Ok-clause-next
returns-in-Ok-clause-next g c =
    let meta = c.args.store.now.meta in
    let model = c.args.store.now.model in
    let old = map (λ rows. rows.items) c.args.before.now in
    let valid = c.meta.ensures.valid in
    let named = c.narrow_rows_are_named.ensures meta model (counts_of meta) c.args.program.now old c.meta.ensures.sound (record { values = valid.values_fit; links = valid.links_fit }) c.requires.narrow c.requires.stand in
    let live = all_hold_live (enum_names meta) model old named in
    let touched = subst (AreTouched model c.try_apply.new.store.model) (sym c.touched.ensures) c.in_ok-applied.ensures.touched in
    subst (λ m. IsNext m c.args.program.now model c.try_apply.new.store.model old (map (λ rows. rows.items) c.in-Ok.next.tables) c.args.number c.in-Ok.next.report) c.in_ok-applied.ensures.meta
    (c.in-Ok.ensures model touched live)
