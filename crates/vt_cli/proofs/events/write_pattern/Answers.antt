use Rattle.vt_cli.proofs.StepNameLemmas.{event_rows_named}
use Rattle.vt_cli.proofs.events.write_pattern.Goals as goal

-- what the set of what happened names has a name
pub write_rows-requires : goal.write_rows-requires
write_rows-requires g c =
    event_rows_named (g.N.Names.enums c.args.names.now) (g.N.Names.objects c.args.names.now) c.args.events.now c.in_ok-rows.rows.items c.in_ok-rows.ensures c.requires
