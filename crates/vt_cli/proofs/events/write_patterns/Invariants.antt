use Rattle.std.proofs.Common.{◌≡◌, ◌++◌, drop}
use Rattle.vt_cli.specs.Inside.Marks.{all_marked}
use Rattle.vt_cli.specs.Inside.Printable.{AllEventsNamed}
use Rattle.vt_cli.proofs.events.write_patterns.Given as goal

-- what is out, and what the rest gives, is what the whole gives; the rest is named too
abbrev pub invariant-loop-pattern : goal.invariant-loop-pattern
invariant-loop-pattern g l =
    (l.out ++ all_marked (record { enums = g.N.Names.enums l.names; objects = g.N.Names.objects l.names }) (drop l.pattern-index l.patterns) l.rest
    ≡ l.fn.out ++ all_marked (record { enums = g.N.Names.enums l.fn.names; objects = g.N.Names.objects l.fn.names }) l.fn.patterns l.fn.events)
    × AllEventsNamed (g.N.Names.enums l.names) (g.N.Names.objects l.names) l.rest
