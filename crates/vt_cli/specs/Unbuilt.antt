-- Commands that aren't built yet: those about agendas, and groups.
use Rattle.std.specs.Prelude.{ℕ, ◌+◌, List, Bool, true, false, position, Option, option_map}
use Rattle.vt_script.specs.declared.line.Line.{Line}
use Rattle.vt_script.specs.declared.line.Line.TheVariants as line

abbrev pub is_unbuilt : Line → Bool
is_unbuilt (line.Fire agenda n) = true
is_unbuilt (line.Swap agenda kind) = true
is_unbuilt (line.Activations agenda) = true
is_unbuilt (line.Group pattern column rest) = true
is_unbuilt other = false

-- the first of them: commands count from 1
abbrev pub unbuilt : List Line → Option ℕ
unbuilt lines = option_map (λ i. i + 1) (position is_unbuilt lines)
