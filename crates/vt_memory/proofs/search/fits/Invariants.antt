use Rattle.std.proofs.Common.{◌≡◌, length}
use Rattle.vt_memory.specs.Keyed.{has_values}
use Rattle.vt_memory.proofs.search.fits.Given as goal

-- what is left of the columns and values decides
abbrev pub invariant-pairs : goal.invariant-pairs
invariant-pairs l = has_values l.columns l.values l.row ≡ has_values l.fn.columns l.fn.values l.row

abbrev pub decreases-pairs : goal.decreases-pairs
decreases-pairs l = length l.columns
