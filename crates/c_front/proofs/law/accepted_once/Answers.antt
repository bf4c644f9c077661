use Rattle.c_front.proofs.Once.{accepted_once}
use Rattle.c_front.proofs.law.accepted_once.Goals as goal

pub returns : goal.returns
returns c = record { law = accepted_once }
