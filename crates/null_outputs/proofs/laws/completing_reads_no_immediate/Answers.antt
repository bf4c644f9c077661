use Rattle.null_outputs.proofs.Added.{own_or_added}
use Rattle.null_outputs.proofs.Unread.{keeps_immediates, each_masked}
use Rattle.null_outputs.proofs.laws.completing_reads_no_immediate.Goals as goal

pub returns-clause-immediates : goal.returns-clause-immediates
returns-clause-immediates v = λ r b zeros. keeps_immediates r zeros b

pub returns-clause-added : goal.returns-clause-added
returns-clause-added v = λ b j n e. own_or_added b j n e

pub returns-clause-masked : goal.returns-clause-masked
returns-clause-masked v = λ r b m. each_masked r b b.nodes m
