use Rattle.std.proofs.Common.{◌^◌, ◌<◌, bit_xor, arith}
use Rattle.std.proofs.lemmas.Nat.{xor_lt}
use Rattle.vt_memory.proofs.numbers.mix_word.Goals as goal

pub overflow_mul-product : goal.overflow_mul-product
overflow_mul-product c =
    let small : bit_xor c.args.number c.args.word < 2 ^ 64 = xor_lt 64 c.args.number c.args.word c.ranges.number.fits c.ranges.word.fits in
    record { fits = omega arith }

pub overflow_cast-result-2 : goal.overflow_cast-result-2
overflow_cast-result-2 c =
    let small : bit_xor c.args.number c.args.word < 2 ^ 64 = xor_lt 64 c.args.number c.args.word c.ranges.number.fits c.ranges.word.fits in
    record { fits = omega arith }
