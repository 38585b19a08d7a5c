use Rattle.std.proofs.Common.{◌≡◌, ◌<◌, [], length, get_or, set, take, sym, ap, ◌∙◌, arith}
use Rattle.std.specs.List.{remove}
use Rattle.std.proofs.Math.Seq.{take-set-lt}
use Rattle.std.proofs.lemmas.List.{get_or_read}
use Rattle.vt_sorted.proofs.ChunkLemmas.{get_or-take, length-take_le}
use Rattle.vt_sorted.proofs.chunks.Chunks.take_at.Goals as goal

pub returns-clause-items : goal.returns-clause-items
returns-clause-items g c =
    let all = c.self.inside.all.items in
    let used = c.self.inside.used in
    let j = c.args.j in
    let view : take used all ≡ c.args.self.now.items = ap (λ v. v.items) c.self.view_is in
    let count = ap length view in
    let size = length-take_le all used c.self.invariant.in_range in
    let bound = c.self.invariant.in_range in
    let within : j < used = omega arith in
    let there : j < length all = omega arith in
    let is : c.index_mut.result.now ≡ get_or c.args.self.now.items j [] =
    get_or_read all j _ there c.index_mut.ensures.value [] ∙ sym (get_or-take all used j [] within) ∙ ap (λ xs. get_or xs j []) view in
    take-set-lt used all j c.take.new.self within ∙ ap (λ xs. set xs j c.take.new.self) view
    ∙ ap (set c.args.self.now.items j) (c.take.ensures.items ∙ ap (λ xs. remove xs c.args.at) is)
