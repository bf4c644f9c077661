use Rattle.std.proofs.Common.{refl, arith}
use Rattle.std.proofs.lemmas.Option.{slice_get-get_or}
use Rattle.block_cases.specs.Cases.{bit}
use Rattle.block_check.proofs.OnePass.{step}
use Rattle.block_check.proofs.Rounds.{slot_fits}
use Rattle.block_check.proofs.once.fire_one.Goals as goal

pub returns-then-node-ne-NO_PLACE : goal.returns-then-node-ne-NO_PLACE
returns-then-node-ne-NO_PLACE c k rank rest o p =
    let here = slice_get-get_or c.args.nodes.now c.args.x _ (omega arith) in
    step c.args.nodes.now rank o c.args.x rest _ (bit c.args.bits.now) _ _ _ _
    c.fired-token.result here (slot_fits c.args.nodes.now c.args.x c.requires.in_place _ here)
    c.if-node-ne-NO_PLACE.true (omega arith) c.fired-token.ensures refl (c.give.ensures k) p
