use Rattle.std.proofs.Common.{arith}
use Rattle.machine_save.proofs.Putting.{not_zero}
use Rattle.machine_save.proofs.put.stored.Goals as goal
use Rattle.machine_save.proofs.put.stored.Goals.{then-loop-count-test+else-memory-count-eq0, else-loop-count-test}

pub returns-clause-last : goal.returns-clause-last
returns-clause-last c z = elim c.loop-count-test.branch [
  | then-loop-count-test+else-memory-count-eq0 w ↦
      not_zero c.args.memory.now c.loop-count.count c.loop-count.invariant.few
      (λ some zero. w.if-memory-count-eq0.false zero) z
  | else-loop-count-test w ↦
      not_zero c.args.memory.now c.loop-count.count c.loop-count.invariant.few
      (λ some zero. omega (arith, some, w.loop-count-test.false)) z
]
