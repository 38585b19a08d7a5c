use Rattle.std.proofs.Common.{◌≡◌, ◌++◌, flat_map, length}
use Rattle.vt_cli.specs.Inside.Marks.{marked_line}
use Rattle.vt_cli.specs.Inside.Printable.{AllNamed}
use Rattle.vt_cli.proofs.events.write_rows.Given as goal

-- what is out, and what the rows to come give, is what all give; those to come are named too
abbrev pub invariant-loop-row : goal.invariant-loop-row
invariant-loop-row g l =
    (l.out ++ flat_map (marked_line (record { enums = g.N.Names.enums l.names; objects = g.N.Names.objects l.names }) l.pattern l.events) l.walk
    ≡ l.fn.out ++ flat_map (marked_line (record { enums = g.N.Names.enums l.fn.names; objects = g.N.Names.objects l.fn.names }) l.fn.pattern l.fn.events) l.fn.rows.items)
    × AllNamed (g.N.Names.enums l.names) (g.N.Names.objects l.names) l.walk

-- the rows to come
abbrev pub decreases-loop-row : goal.decreases-loop-row
decreases-loop-row g l = length l.walk
