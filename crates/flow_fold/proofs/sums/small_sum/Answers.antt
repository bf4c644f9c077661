use Rattle.std.proofs.Common.{◌≡◌, ◌+ℤ◌, arith, to_z, of_z, w32, w64}
use Rattle.std.proofs.lemmas.Int.{ints, to_z-of_z}
use Rattle.flow_fold.proofs.sums.small_sum.Goals as goal

pub returns : goal.returns
returns c =
    let a : to_z w32 (of_z w32 c.args.a) ≡ c.args.a = to_z-of_z w32 c.args.a c.ranges.a in
    let b : to_z w32 (of_z w32 c.args.b) ≡ c.args.b = to_z-of_z w32 c.args.b c.ranges.b in
    let i : to_z w64 (of_z w64 (to_z w64 (of_z w64 c.args.b) +ℤ to_z w64 (of_z w64 c.args.a)))
    ≡ c.args.b +ℤ c.args.a = omega (arith, ints, c.ranges.a, c.ranges.b) in
    let h = c.if_small.ensures in
    cc
