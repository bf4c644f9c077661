use Rattle.grid_bound.proofs.HeldRuns.{after_held, held_commit}
use Rattle.grid_bound.proofs.served_law.held_cycles_are_bounded.Goals as goal

pub returns-clause-moment : goal.returns-clause-moment
returns-clause-moment c = λ sizes n k j l m small rule a. (after_held sizes k l small rule n j m a).1

pub returns-clause-commit : goal.returns-clause-commit
returns-clause-commit c = λ sizes n k j l m x small rule a e. held_commit sizes k l small rule n j m x a e
