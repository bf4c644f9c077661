use Rattle.std.proofs.Common.{refl}
use Rattle.commit_flush.proofs.StepFacts.{counts_places, counts_slots, counts_reads, counts_stores, counts_loads}
use Rattle.commit_flush.proofs.step.Step.count.Goals as goal

pub returns-in-Token-clause-value : goal.returns-in-Token-clause-value
returns-in-Token-clause-value c = counts_places c.args.self 320 c.in-Token.is refl

pub returns-in-Firing-clause-value : goal.returns-in-Firing-clause-value
returns-in-Firing-clause-value c = counts_slots c.args.self 128 c.in-Firing.is refl

pub returns-in-Read-clause-value : goal.returns-in-Read-clause-value
returns-in-Read-clause-value c = counts_reads c.args.self 32 c.in-Read.is refl

pub returns-in-Store-clause-value : goal.returns-in-Store-clause-value
returns-in-Store-clause-value c = counts_stores c.args.self 32 c.in-Store.is refl

pub returns-in-Load-clause-value : goal.returns-in-Load-clause-value
returns-in-Load-clause-value c = counts_loads c.args.self 32 c.in-Load.is refl
