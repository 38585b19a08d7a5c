use Rattle.std.proofs.Common.{◌≡◌, ◌++◌, drop, map}
use Rattle.vt_cli.specs.Lists.{match_lists}
use Rattle.vt_cli.specs.Inside.Printable.{AllTablesNamed}
use Rattle.vt_cli.proofs.matches.write_lists.Given as goal

-- what is out, and what the rest gives, is what the whole gives; the rest is named too
abbrev pub invariant-loop-pattern : goal.invariant-loop-pattern
invariant-loop-pattern g l =
    (l.out ++ match_lists (g.N.Names.enums l.names) (g.N.Names.objects l.names) (drop l.pattern-index l.patterns) (map (λ rows. rows.items) l.rest)
    ≡ l.fn.out ++ match_lists (g.N.Names.enums l.fn.names) (g.N.Names.objects l.fn.names) l.fn.patterns (map (λ rows. rows.items) l.fn.tables))
    × AllTablesNamed (g.N.Names.enums l.names) (g.N.Names.objects l.names) (map (λ rows. rows.items) l.rest)
