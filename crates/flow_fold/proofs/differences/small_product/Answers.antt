use Rattle.std.proofs.Common.{◌≡◌, to_z, of_z, w32}
use Rattle.std.proofs.lemmas.Int.{to_z-of_z}
use Rattle.flow_fold.proofs.Rounds.{product_round}
use Rattle.flow_fold.proofs.differences.small_product.Goals as goal

pub returns : goal.returns
returns c =
    let d : to_z w32 (of_z w32 c.args.d) ≡ c.args.d = to_z-of_z w32 c.args.d c.ranges.d in
    let w : to_z w32 (of_z w32 c.args.w) ≡ c.args.w = to_z-of_z w32 c.args.w c.ranges.w in
    let p = product_round c.args.d c.args.w c.ranges.d c.ranges.w in
    let h = c.if_small.ensures in
    cc
