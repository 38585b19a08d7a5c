-- Bytes that were written or read piece after piece.
use Rattle.std.proofs.Common.{ℕ, ◌+◌, ◌-◌, ◌≤◌, List, ◌++◌, take, drop, length, arith, length-append}
use Rattle.std.proofs.Math.Seq.{take-add}
use Rattle.std.proofs.lemmas.List.{take_rest, length-take}
use Rattle.std.specs.Prelude.{Option}
use Rattle.std.specs.Io.KnownBytes.{Appends, Consumes}
use Rattle.vt_outside.specs.Inside.Reading.{TakesAtMost}
use Rattle.std.proofs.KnownBytes.{Appends-trans, Consumes-trans}

-- a front of the piece was written, and then a front of the rest
pub written_on : (old mid new : Option (List ℕ)) (piece : List ℕ) (a b : ℕ) → Appends old mid (take a piece) → Appends mid new (take b (take (length piece - a) (drop a piece))) → Appends old new (take (a + b) piece)
written_on old mid new piece a b first second =
    rw take-add (Appends-trans old mid new (take a piece) (take b (drop a piece)) first (rw take_rest at second))

-- some bytes were read, and then a front of a chunk
pub read_on : (old mid new : Option (List ℕ)) (held chunk : List ℕ) (n most : ℕ) → Consumes old mid held → Consumes mid new (take n chunk) → length held + n ≤ most → TakesAtMost most old new
read_on old mid new held chunk n most first second few = record {
  taken = held ++ take n chunk;
  few = omega (arith, length-append held (take n chunk), length-take n chunk);
  gone = Consumes-trans old mid new held (take n chunk) first second;
}
