use Rattle.commit_flush_spec.proofs.Bits.{answer_at, change_at}
use Rattle.commit_flush_spec.proofs.law.events_act_at_their_frame.Goals as goal

pub returns-clause-answered : goal.returns-clause-answered
returns-clause-answered c = answer_at

pub returns-clause-changed : goal.returns-clause-changed
returns-clause-changed c = change_at
