use Rattle.bench_laws.proofs.TextLaws.{always_ends}
use Rattle.bench_laws.proofs.law.bench_ends.Goals as goal

pub returns : goal.returns
returns c = record { law = always_ends }
