use Rattle.grid_bound.proofs.OldestFetches.{fetches_behind, fetches_come}
use Rattle.grid_bound.proofs.served_law.fetches_serve.Goals as goal

pub returns-clause-held : goal.returns-clause-held
returns-clause-held W c = λ blocks budget g f fs i. fetches_behind blocks budget g f fs i

pub returns-clause-fetched : goal.returns-clause-fetched
returns-clause-fetched W c = λ blocks budget g b t i ok went room e due.
    let r = fetches_come blocks budget g i ok went room b e t due in (r.generation, r.stage)
