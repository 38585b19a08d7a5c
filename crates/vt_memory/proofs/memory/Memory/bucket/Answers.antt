use Rattle.std.proofs.Common.{◌≡◌, ◌+◌, length, ap, ◌∙◌, arith}
use Rattle.vt_base.specs.Rows.{IsSetOf}
use Rattle.vt_memory.specs.Keyed.{Keyed, bucket_of}
use Rattle.vt_memory.proofs.SeenLemmas.{if_ok, on_ok, length-bucket_of, set-bucket_of}
use Rattle.vt_memory.proofs.memory.Memory.bucket.Goals as goal

pub returns-in_err-found-clause-few : goal.returns-in_err-found-clause-few
returns-in_err-found-clause-few g c =
    let v = c.self.inside in
    omega (
      arith,
      c.rows_with.ensures.few,
      length-bucket_of v.slab v.whole v.indexes.items c.args.self.now c.args.key c.index.result.now c.args.values.now c.self.invariant
          (ap (λ (seen : Keyed). seen.rows) c.self.view_is) (ap (λ (seen : Keyed). seen.keys) c.self.view_is) c.index.ensures c.requires.key c.requires.values,
    )

pub returns-clause-rows : goal.returns-clause-rows
returns-clause-rows g c =
    let v = c.self.inside in
    if_ok (λ set. IsSetOf c.in_ok-found.found.items set.items) (λ set. set.items ≡ bucket_of c.args.self.now c.args.key c.args.values.now) c.from_vec.result
    (λ set s. set-bucket_of v.slab v.whole v.indexes.items c.args.self.now c.args.key c.index.result.now c.args.values.now c.self.invariant
    (ap (λ (seen : Keyed). seen.rows) c.self.view_is) (ap (λ (seen : Keyed). seen.keys) c.self.view_is) c.index.ensures c.requires.key c.requires.values c.in_ok-found.found.items set.items c.in_ok-found.ensures.rows s)
    c.from_vec.ensures

pub returns-clause-few : goal.returns-clause-few
returns-clause-few g c =
    let v = c.self.inside in
    omega (
      arith,
      c.rows_with.ensures.few,
      length-bucket_of v.slab v.whole v.indexes.items c.args.self.now c.args.key c.index.result.now c.args.values.now c.self.invariant
          (ap (λ (seen : Keyed). seen.rows) c.self.view_is) (ap (λ (seen : Keyed). seen.keys) c.self.view_is) c.index.ensures c.requires.key c.requires.values,
    )

pub returns-clause-ticks : goal.returns-clause-ticks
returns-clause-ticks g c =
    let v = c.self.inside in
    let all : c.rows_with.new.steps ≡ c.args.steps.now + length (bucket_of c.args.self.now c.args.key c.args.values.now) =
    c.in_ok-found.ensures.ticks ∙ ap (λ n. c.args.steps.now + n) (length-bucket_of v.slab v.whole v.indexes.items c.args.self.now c.args.key c.index.result.now c.args.values.now c.self.invariant
    (ap (λ (seen : Keyed). seen.rows) c.self.view_is) (ap (λ (seen : Keyed). seen.keys) c.self.view_is) c.index.ensures c.requires.key c.requires.values) in
    on_ok (c.rows_with.new.steps ≡ c.args.steps.now + length (bucket_of c.args.self.now c.args.key c.args.values.now)) c.from_vec.result all
