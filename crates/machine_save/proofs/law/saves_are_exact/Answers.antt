use Rattle.machine_save.proofs.Opened.{saved_once, one_spelling}
use Rattle.machine_save.proofs.law.saves_are_exact.Goals as goal

pub returns-clause-one_image : goal.returns-clause-one_image
returns-clause-one_image c = λ i j s t bytes a b. (saved_once i j s t bytes a b).image

pub returns-clause-one_state : goal.returns-clause-one_state
returns-clause-one_state c = λ i j s t bytes a b. (saved_once i j s t bytes a b).state

pub returns-clause-one_spelling : goal.returns-clause-one_spelling
returns-clause-one_spelling c = one_spelling
