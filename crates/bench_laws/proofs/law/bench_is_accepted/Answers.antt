use Rattle.bench_laws.proofs.TextLaws.{is_accepted}
use Rattle.bench_laws.proofs.law.bench_is_accepted.Goals as goal

pub returns : goal.returns
returns c = record { law = is_accepted }
