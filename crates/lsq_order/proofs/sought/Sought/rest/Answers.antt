use Rattle.std.proofs.Common.{arith}
use Rattle.lsq_order.proofs.TakingFacts.{memory_bit, no_bit}
use Rattle.lsq_order.proofs.sought.Sought.rest.Goals as goal

pub returns-then-self-eq0 : goal.returns-then-self-eq0
returns-then-self-eq0 c = λ i on. no_bit c.args.self.now.wanted i _ _ (omega arith) on

pub returns-else-self-eq0 : goal.returns-else-self-eq0
returns-else-self-eq0 c = λ i on. memory_bit c.args.self.now c.args.memory.now c.bytes_of.result i c.requires
    (λ a. omega (arith, c.type_inv.memory a)) c.bytes_of.ensures on
