use Rattle.hyper_build.proofs.Assigned.{keeps_assigned, gives_assigned, assigned_little}
use Rattle.hyper_build.proofs.laws.assigned_programs_keep_meaning.Goals as goal

pub returns-clause-meaning : goal.returns-clause-meaning
returns-clause-meaning c = keeps_assigned

pub returns-clause-blocks : goal.returns-clause-blocks
returns-clause-blocks c = gives_assigned

pub returns-clause-little : goal.returns-clause-little
returns-clause-little c = assigned_little
