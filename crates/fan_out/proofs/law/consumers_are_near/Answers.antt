use Rattle.fan_out.proofs.Depths.{node_is_near, read_is_near}
use Rattle.fan_out.proofs.law.consumers_are_near.Goals as goal

pub returns-clause-nodes : goal.returns-clause-nodes
returns-clause-nodes v = node_is_near

pub returns-clause-reads : goal.returns-clause-reads
returns-clause-reads v = read_is_near
