use Rattle.commit_flush_spec.proofs.Least.{finds, finds_none}
use Rattle.commit_flush_spec.proofs.law.searches_find_the_least.Goals as goal

pub returns-clause-some : goal.returns-clause-some
returns-clause-some c = finds

pub returns-clause-none : goal.returns-clause-none
returns-clause-none c = finds_none
