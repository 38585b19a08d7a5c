use Rattle.std.proofs.Common.{◌≤◌, arith}
use Rattle.std.proofs.lemmas.List.{length-take}
use Rattle.vt_outside.proofs.Pieces.{read_on}
use Rattle.vt_outside.proofs.files.read_within.Goals as goal

-- there was no memory for what was read, but no more was asked for than may be taken
pub returns-in_err-extend-clause-taken : goal.returns-in_err-extend-clause-taken
returns-in_err-extend-clause-taken g c =
    let few : c.in_ok-n.n ≤ c.min-asked.result = omega (arith, c.in_ok-n.ensures.fits, length-take c.min-asked.result c.loop-chunk.chunk) in
    read_on _ _ _ c.loop-chunk.bytes c.read_some.new.chunk c.in_ok-n.n _ c.loop-chunk.invariant.1 c.in_ok-n.ensures.taken
    (omega (arith, few, c.min-asked.ensures, c.len-in-loop-chunk.ensures))
