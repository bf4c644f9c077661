use Rattle.std.proofs.Common.{None, get_or, refl, arith}
use Rattle.grid_cycle_spec.specs.Costs as spec
use Rattle.grid_machine.proofs.CostFacts.{slot_more, slots_all}
use Rattle.grid_machine.proofs.costs.instructions.Goals as goal

pub loop-i-preserved : goal.loop-i-preserved
loop-i-preserved c =
    let more = c.one_in-count.ensures.few in
    let before = c.loop-i.invariant.few in
    record {
      sum = slot_more c.args.slots.now c.loop-i.i c.loop-i.count c.one_in-count.result
          (spec.instructions c.args.slots.now) None (get_or c.args.slots.now c.loop-i.i None) c.loop-i-test.true refl
          c.one_in-count.ensures.value c.loop-i.invariant.sum;
      few = omega (arith, more, before);
    }

pub returns-clause-value : goal.returns-clause-value
returns-clause-value c =
    slots_all c.args.slots.now c.loop-i.i c.loop-i.count (spec.instructions c.args.slots.now) (omega arith)
    c.loop-i.invariant.sum
