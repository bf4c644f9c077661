use Rattle.grid_bound.proofs.Bounded as bounded
use Rattle.grid_bound.proofs.served_law.cycles_stay_within.Goals as goal

pub returns-clause-moment : goal.returns-clause-moment
returns-clause-moment W c = λ blocks budget sizes n g h good bound a s.
    bounded.moment blocks good budget _ _ bound sizes g n h a s

pub returns-clause-commit : goal.returns-clause-commit
returns-clause-commit W c = λ blocks budget sizes n g m h good bound a s e.
    bounded.commit blocks good budget _ _ bound sizes g n m a s h e

pub returns-clause-ends : goal.returns-clause-ends
returns-clause-ends W c = λ blocks budget sizes n g h good bound small a s.
    bounded.spends blocks good budget _ _ bound sizes g n h a s small
