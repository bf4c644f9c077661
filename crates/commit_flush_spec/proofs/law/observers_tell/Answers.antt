use Rattle.commit_flush_spec.proofs.Bits.{ready_tells, unread_tells, asked_tells}
use Rattle.commit_flush_spec.proofs.law.observers_tell.Goals as goal

pub returns-clause-ready : goal.returns-clause-ready
returns-clause-ready c = ready_tells

pub returns-clause-unread : goal.returns-clause-unread
returns-clause-unread c = unread_tells

pub returns-clause-asked : goal.returns-clause-asked
returns-clause-asked c = asked_tells
