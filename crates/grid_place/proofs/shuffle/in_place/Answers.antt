use Rattle.std.proofs.Common.{arith, ◌∙◌}
use Rattle.grid_place.proofs.Shuffles.{one_more, all_in_place}
use Rattle.grid_place.proofs.shuffle.in_place.Goals as goal

pub loop-i-init : goal.loop-i-init
loop-i-init c = λ k d l. absurd (omega arith)

pub loop-i-preserved : goal.loop-i-preserved
loop-i-preserved c = one_more c.loop-i.to c.loop-i.i
    (omega (arith, c.loop-i.auto.to, c.requires, c.loop-i-test.true)) c.loop-i.invariant

pub returns : goal.returns
returns c = record {
  value = all_in_place c.loop-i.to c.loop-i.i (c.loop-i.auto.to ∙ c.requires) c.loop-i-test.false
      c.loop-i.invariant;
}
