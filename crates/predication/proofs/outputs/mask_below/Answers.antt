use Rattle.std.proofs.Common.{◌^◌, ◌<◌, arith}
use Rattle.std.proofs.lemmas.Nat.{pow_below}
use Rattle.predication.proofs.ReadLemmas.{members_lt}
use Rattle.predication.proofs.outputs.mask_below.Goals as goal

pub with_bit-mask-requires-clause-mask : goal.with_bit-mask-requires-clause-mask
with_bit-mask-requires-clause-mask c =
    let l = members_lt c.args.found.now c.loop-number.number in
    let p : 2 ^ c.loop-number.number < 2 ^ 32 = pow_below c.loop-number.number 32 (omega arith) in
    omega (arith, l, p)
