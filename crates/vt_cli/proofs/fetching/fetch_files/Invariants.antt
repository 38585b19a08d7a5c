use Rattle.std.proofs.Common.{◌≡◌, length}
use Rattle.std.specs.Prelude.{zip}
use Rattle.vt_cli.specs.Inside.Prepared.{AreFetchedTo}
use Rattle.vt_cli.proofs.fetching.fetch_files.Given as goal

-- the files before these were fetched, and none failed
abbrev pub invariant-each : goal.invariant-each
invariant-each g l =
    (g.S.Shelf.files l.shelf ≡ g.S.Shelf.files l.fn.shelf)
    × AreFetchedTo (zip l.fn.roles l.fn.names) (zip l.roles l.names) (g.S.Shelf.files l.fn.shelf) (g.S.Shelf.faults l.fn.shelf) (g.S.Shelf.faults l.shelf) l.texts

abbrev pub decreases-each : goal.decreases-each
decreases-each g l = length l.roles
