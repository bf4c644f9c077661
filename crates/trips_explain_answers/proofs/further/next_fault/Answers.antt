use Rattle.trips_explain_answers.proofs.further.next_fault.Goals as goal

pub returns-in-Ok : goal.returns-in-Ok
returns-in-Ok c = c.accepted_fault.ensures c.args.next.now c.in-Ok.ensures.ok
