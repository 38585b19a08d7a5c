use Rattle.std.proofs.Common.{◌∙◌, sym, ap, option_map}
use Rattle.std.specs.Option.{option_copied}
use Rattle.vt_cli.proofs.PrintableLemmas.{matches_in_store}
use Rattle.vt_cli.proofs.ReplyLemmas.{IfOk-map, matches_replied}
use Rattle.vt_cli.proofs.running.matches.Goals as goal

-- what the matches name has a name
pub matches-requires-in-Some : goal.matches-requires-in-Some
matches-requires-in-Some c =
    let at = c.requires.at in
    matches_in_store c.narrow_rows_are_named.ensures c.store-store.result.now.meta c.store-store.result.now.model c.args.session.now at.0 c.args.pattern.now c.in-Some.rows.now.items
    c.store-store.ensures.meta c.store-store.ensures.model c.meta.ensures.sound c.meta.ensures.valid at.1
    (sym c.matches.ensures ∙ ap (λ found. option_map (λ rows. rows.items) (option_copied found)) c.in-Some.is)

-- the pattern's table, which isn't private
pub returns-in-Some : goal.returns-in-Some
returns-in-Some c = record {
  reply = λ state at.
      IfOk-map c.matches-in-Some.result _ _ (λ text is.
      matches_replied c.args.session.now state c.args.pattern.now c.in-Some.rows.now.items c.store-store.result.now.meta c.store-store.result.now.model text
      c.store-store.ensures.meta c.store-store.ensures.model at
      (sym c.matches.ensures ∙ ap (λ found. option_map (λ rows. rows.items) (option_copied found)) c.in-Some.is) is) c.matches-in-Some.ensures;
}
