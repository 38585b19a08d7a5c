use Rattle.std.proofs.Common.{◌≡◌, ◌+◌, ◌≤◌, length}
use Rattle.vt_facts.specs.Lines.{lines_of}
use Rattle.vt_script.specs.Script.{written, commands_of}
use Rattle.vt_script.specs.Inside.Gives.{ahead}
use denote.Shadow.{shadow}
use denote.Text.{Utf8}
use Rattle.vt_script.proofs.script.commands.Given as goal

abbrev pub invariant-each : goal.invariant-each
invariant-each l = (ahead l.lines (commands_of (written l.at (lines_of l.rest))) ≡ commands_of (written 1 (lines_of l.text))) × (l.at + length l.rest ≤ 1 + length l.text) × shadow (Utf8 l.rest)

abbrev pub decreases-each : goal.decreases-each
decreases-each l = length l.rest
