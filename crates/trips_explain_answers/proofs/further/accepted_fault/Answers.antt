use Rattle.trips_explain_answers.proofs.FurtherFacts.{accepted_next}
use Rattle.trips_explain_answers.proofs.further.accepted_fault.Goals as goal

pub returns : goal.returns
returns c = λ next is. accepted_next next c.args.offset c.args._program.now is
