use Rattle.trips_report.proofs.CommitFacts.{commits_sum}
use Rattle.trips_report.proofs.law.commits_add_up.Goals as goal

pub returns : goal.returns
returns c = commits_sum
