-- What holds of every session.
use Rattle.std.specs.Prelude.{◌≡◌, ◌≤◌, true, List, map, length}
use Rattle.vt_facts.specs.Names.{is_distinct}
use Rattle.vt_base.specs.declared.value.Value.{Value}
use Rattle.vt_model.specs.Base.{counts_of}
use Rattle.vt_graph.specs.Held.{Held}
use Rattle.vt_query.specs.Narrow.{IsNarrow}
use Rattle.vt_query.specs.Tables.{StandFor}
use Rattle.vt_query.specs.declared.program.Program.{Program}
use Rattle.vt_session.specs.declared.buffers.Buffer.{Buffer}

-- no client has two buffers
abbrev pub HaveOneEach : List Buffer → Type 0
HaveOneEach buffers = is_distinct (map (λ b. b.client) buffers) ≡ true

-- the program is narrow and its patterns have numbers, the tables are those of the model, and no
-- client has two buffers
pub record IsInOrder (store : Held) (program : Program) (tables : List (List (List Value))) (buffers : List Buffer) : Type 0 where
  pub narrow : IsNarrow (counts_of store.meta) program
  pub numbered : length program.patterns ≤ 65536
  pub stand : StandFor store.meta store.model program tables
  pub clients : HaveOneEach buffers
