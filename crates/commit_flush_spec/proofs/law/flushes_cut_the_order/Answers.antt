use Rattle.commit_flush_spec.proofs.DropFacts.{stores_drop, exits_drop, flushes_drop, take_by_age}
use Rattle.commit_flush_spec.proofs.law.flushes_cut_the_order.Goals as goal

pub returns-clause-stores : goal.returns-clause-stores
returns-clause-stores c = stores_drop

pub returns-clause-exits : goal.returns-clause-exits
returns-clause-exits c = exits_drop

pub returns-clause-flushes : goal.returns-clause-flushes
returns-clause-flushes c = flushes_drop

pub returns-clause-order : goal.returns-clause-order
returns-clause-order c = take_by_age
