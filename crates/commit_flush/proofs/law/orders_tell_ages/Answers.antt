use Rattle.commit_flush.proofs.OrderFacts.{numbers_are, count}
use Rattle.commit_flush.proofs.law.orders_tell_ages.Goals as goal

pub returns-clause-numbers : goal.returns-clause-numbers
returns-clause-numbers c = λ slots order registers k. numbers_are slots order k.numbered k.there

pub returns-clause-count : goal.returns-clause-count
returns-clause-count c = λ slots order registers k. count slots order k.there
