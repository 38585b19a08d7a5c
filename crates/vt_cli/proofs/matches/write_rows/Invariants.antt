use Rattle.std.proofs.Common.{◌≡◌, ◌++◌, flat_map, length}
use Rattle.vt_cli.specs.Lists.{match_line}
use Rattle.vt_cli.specs.Inside.Printable.{AllNamed}
use Rattle.vt_cli.proofs.matches.write_rows.Given as goal

-- what is out, and what the rows to come give, is what all give; those to come are named too
abbrev pub invariant-loop-row : goal.invariant-loop-row
invariant-loop-row g l =
    (l.out ++ flat_map (match_line (g.N.Names.enums l.names) (g.N.Names.objects l.names)) l.walk
    ≡ l.fn.out ++ flat_map (match_line (g.N.Names.enums l.fn.names) (g.N.Names.objects l.fn.names)) l.fn.rows.items)
    × AllNamed (g.N.Names.enums l.names) (g.N.Names.objects l.names) l.walk

-- the rows to come
abbrev pub decreases-loop-row : goal.decreases-loop-row
decreases-loop-row g l = length l.walk
