use Rattle.std.proofs.Common.{◌≡◌, ◌+◌, ◌≤◌, length}
use Rattle.std.specs.Prelude.{slice_get}
use Rattle.vt_facts.specs.Lines.{lines_of}
use Rattle.vt_script.specs.Script.{written}
use denote.Shadow.{shadow}
use denote.Text.{Utf8}
use Rattle.vt_script.proofs.script.extra_line.Given as goal

abbrev pub invariant-each : goal.invariant-each
invariant-each l = (slice_get (written l.number (lines_of l.rest)) l.left ≡ slice_get (written 1 (lines_of l.text)) 100000) × (l.number + length l.rest ≤ 1 + length l.text) × shadow (Utf8 l.rest)

abbrev pub decreases-each : goal.decreases-each
decreases-each l = length l.rest
