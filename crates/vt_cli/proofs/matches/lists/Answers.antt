use Rattle.std.proofs.Common.{◌≡◌, map, refl, sym, ap, subst}
use Rattle.vt_model.specs.Metamodel.{enum_names}
use Rattle.vt_model.specs.Model.{object_names}
use Rattle.vt_graph.specs.Asked.{all_names}
use Rattle.vt_model.specs.Base.{counts_of}
use Rattle.vt_cli.specs.Lists.{match_lists}
use Rattle.vt_cli.specs.Result.{done}
use Rattle.vt_cli.specs.Inside.Printable.{AllTablesNamed}
use Rattle.vt_cli.proofs.NamedLemmas.{tables_named}
use Rattle.vt_cli.proofs.matches.lists.Goals as goal

-- what the rows name has a name
pub text_of-requires : goal.text_of-requires
text_of-requires g c =
    let stand = c.in_ok-tables.ensures.tables c.args.store.now.meta c.args.store.now.model refl in
    let named = c.narrow_rows_are_named.ensures c.args.store.now.meta c.args.store.now.model (counts_of c.args.store.now.meta) c.args.program.now (map (λ rows. rows.items) c.in_ok-tables.tables)
    c.requires.sound (record { values = c.requires.valid.values_fit; links = c.requires.valid.links_fit }) c.requires.narrow stand in
    let all = tables_named (enum_names c.args.store.now.meta) (object_names c.args.store.now.model) (map (λ o. record { object = o.number; name = o.name }) c.args.store.now.model.gone) (map (λ rows. rows.items) c.in_ok-tables.tables) named in
    subst (λ tables. AllTablesNamed (enum_names c.args.store.now.meta) (all_names c.args.store.now.model) (map (λ rows. rows.items) tables)) (sym c.as_slice-2.ensures) all

-- the tables that were evaluated, and their text
pub returns-clause-due : goal.returns-clause-due
returns-clause-due g c =
    let whole = subst (λ tables. c.in_ok-text.text ≡ match_lists (enum_names c.args.store.now.meta) (all_names c.args.store.now.model) c.args.program.now.patterns (map (λ rows. rows.items) tables)) c.as_slice-2.ensures
    (subst (λ patterns. c.in_ok-text.text ≡ match_lists (enum_names c.args.store.now.meta) (all_names c.args.store.now.model) patterns (map (λ rows. rows.items) c.as_slice-2.result.now)) c.as_slice.ensures c.in_ok-text.ensures) in
    record {
      tables = map (λ rows. rows.items) c.in_ok-tables.tables;
      stand = c.in_ok-tables.ensures.tables c.args.store.now.meta c.args.store.now.model refl;
      is = ap done whole;
    }
