use Rattle.grid_bound.proofs.Bounds.{after_served, at_a_commit}
use Rattle.grid_bound.proofs.lane_law.cycles_are_bounded.Goals as goal

pub returns-clause-moment : goal.returns-clause-moment
returns-clause-moment c = λ sizes n l m rule a. (after_served sizes l rule n m a).1

pub returns-clause-commit : goal.returns-clause-commit
returns-clause-commit c = λ sizes n l m k rule a e. at_a_commit sizes l rule n m k a e
