use Rattle.std.proofs.Common.{ap, arith}
use Rattle.vt_base.specs.Rows.{has_row}
use Rattle.vt_memory.specs.Keyed.{Keyed}
use Rattle.vt_memory.proofs.SeenLemmas.{length-bucket_of, length-bucket_of_kept, first_stands, first_is_beyond, none_is_beyond}
use Rattle.vt_memory.proofs.memory.Memory.beyond.Goals as goal

pub returns-clause-stands : goal.returns-clause-stands
returns-clause-stands g c =
    let v = c.self.inside in
    first_stands v.slab v.whole v.indexes.items c.args.self.now c.args.key c.index.result.now c.args.values.now c.self.invariant
    (ap (λ (seen : Keyed). seen.rows) c.self.view_is) (ap (λ (seen : Keyed). seen.keys) c.self.view_is) c.index.ensures c.requires.key c.requires.values
    c.args.given.now.items c.first_beyond.result c.first_beyond.ensures.row

pub returns-clause-beyond : goal.returns-clause-beyond
returns-clause-beyond g c =
    let v = c.self.inside in
    first_is_beyond v.slab v.whole v.indexes.items c.args.self.now c.args.key c.index.result.now c.args.values.now c.self.invariant
    (ap (λ (seen : Keyed). seen.rows) c.self.view_is) (ap (λ (seen : Keyed). seen.keys) c.self.view_is) c.index.ensures c.requires.key c.requires.values
    c.args.given.now.items c.first_beyond.result c.first_beyond.ensures.row

pub returns-clause-none : goal.returns-clause-none
returns-clause-none g c =
    let v = c.self.inside in
    none_is_beyond v.slab v.whole v.indexes.items c.args.self.now c.args.key c.index.result.now c.args.values.now c.self.invariant
    (ap (λ (seen : Keyed). seen.rows) c.self.view_is) (ap (λ (seen : Keyed). seen.keys) c.self.view_is) c.index.ensures c.requires.key c.requires.values
    c.args.given.now.items c.first_beyond.result c.first_beyond.ensures.row

pub returns-clause-few : goal.returns-clause-few
returns-clause-few g c =
    let v = c.self.inside in
    omega (
      arith,
      c.first_beyond.ensures.few,
      length-bucket_of v.slab v.whole v.indexes.items c.args.self.now c.args.key c.index.result.now c.args.values.now c.self.invariant
          (ap (λ (seen : Keyed). seen.rows) c.self.view_is) (ap (λ (seen : Keyed). seen.keys) c.self.view_is) c.index.ensures c.requires.key c.requires.values,
    )

pub returns-clause-ticks : goal.returns-clause-ticks
returns-clause-ticks g c =
    let v = c.self.inside in
    omega (
      arith,
      c.first_beyond.ensures.ticks,
      length-bucket_of_kept v.slab v.whole v.indexes.items c.args.self.now c.args.key c.index.result.now c.args.values.now c.self.invariant
          (ap (λ (seen : Keyed). seen.rows) c.self.view_is) (ap (λ (seen : Keyed). seen.keys) c.self.view_is) c.index.ensures c.requires.key c.requires.values (λ row. has_row c.args.given.now.items row),
    )
