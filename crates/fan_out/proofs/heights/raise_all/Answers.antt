use Rattle.std.proofs.Common.{◌-◌, ◌∙◌, arith}
use Rattle.fan_out.proofs.Heightened.{risen_turn}
use Rattle.fan_out.proofs.heights.raise_all.Goals as goal

pub loop-left-preserved : goal.loop-left-preserved
loop-left-preserved c = record {
  within = let w = c.loop-left.invariant.within in omega arith;
  risen = let w = c.loop-left.invariant.within in
      risen_turn c.args.wires.now (c.loop-left.left - 1) c.loop-left.left c.loop-left.heights c.raise_by.new.heights
      _ (omega arith) w c.raise_by.ensures ∙ c.loop-left.invariant.risen;
}
