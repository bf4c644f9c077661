use Rattle.trips_requests.proofs.VerbLemmas.{counts_steps}
use Rattle.trips_requests.proofs.asking.counted.Goals as goal

pub returns-in_default : goal.returns-in_default
returns-in_default c = counts_steps c.args.command c.in_default.not-Run c.in_default.not-Bench
    c.in_default.not-Record c.in_default.not-Resume c.in_default.not-Four c.in_default.not-Save
    c.in_default.not-Draw
