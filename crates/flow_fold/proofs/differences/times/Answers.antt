use Rattle.std.proofs.Common.{◌≡◌, ◌≤◌, arith, rules, true, to_z, of_z, w32}
use Rattle.std.proofs.lemmas.Int.{ints, to_z-of_z}
use borrow.Author.Differences.{up, down}
use Rattle.flow_fold.specs.inside.Immediates.{is_small}
use Rattle.flow_fold.specs.inside.Strides.{by_itself}
use Rattle.flow_fold.proofs.Rounds.{not_below}
use Rattle.flow_fold.proofs.differences.times.Goals as goal

pub returns-then-imm-ge0 : goal.returns-then-imm-ge0
returns-then-imm-ge0 c =
    let i : to_z w32 (of_z w32 c.args.imm) ≡ c.args.imm = to_z-of_z w32 c.args.imm c.ranges.imm in
    let l : down c.args.imm ≤ up c.args.imm = omega (arith, ints, c.if-imm-ge0.true) in
    let k = not_below c.args.imm l in
    let small : is_small c.args.imm ≡ true = search rules in
    by_itself k.0 c.in-Muli.is k.1 small i
