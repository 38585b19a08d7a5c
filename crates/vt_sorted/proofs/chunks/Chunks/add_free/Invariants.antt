use Rattle.std.proofs.Common.{◌≡◌, ◌+◌, ◌≤◌, take, vec_len, vec_capacity}
use Rattle.vt_sorted.specs.Inside.Pieces.{AreBehind}
use Rattle.vt_sorted.proofs.chunks.Chunks.add_free.Given as goal

abbrev pub invariant-loop : goal.invariant-loop
invariant-loop g l = record {
  kept : take l.self-inside.used l.self-inside.all.items ≡ l.fn.self.items;
  behind : AreBehind l.self-inside.used l.self-inside.all.items;
  count : vec_len l.self-inside.all ≡ l.self-inside.used + l.fn.self.spare + l.counter;
  space : l.self-inside.used + l.fn.self.spare + l.fn.count ≤ vec_capacity l.self-inside.all;
}
