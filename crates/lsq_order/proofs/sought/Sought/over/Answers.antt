use Rattle.std.proofs.Common.{slice_index, arith}
use Rattle.lsq_order.proofs.TakingFacts.{whole_is}
use Rattle.lsq_order.proofs.sought.Sought.over.Goals as goal

pub returns : goal.returns
returns c = record {
  value = whole_is c.args.self.now (λ a. slice_index c.args.memory.now a) c.rest-rest.result c.merged.result
      (omega arith)
      c.rest-rest.ensures c.merged.ensures;
  bytes = λ a. omega (arith, c.type_inv.memory a);
}
