use Rattle.std.proofs.Common.{◌≡◌, drop}
use Rattle.std.specs.Prelude.{fold}
use Rattle.vt_delta.specs.Changes.{change_of}
use Rattle.vt_change.specs.Inside.Telling.{whole_rows, moved}
use Rattle.vt_change.proofs.telling.tell_whole.Given as goal

-- what the values that are left make of the change is what all make
abbrev pub invariant-loop-held : goal.invariant-loop-held
invariant-loop-held l = fold (moved l.way) (change_of l.delta) (whole_rows (drop l.held-index l.values)) ≡ fold (moved l.way) (change_of l.fn.delta) (whole_rows l.values)
