use Rattle.bench_laws.proofs.TextLaws.{is_not_refused}
use Rattle.bench_laws.proofs.law.bench_is_not_refused.Goals as goal

pub returns : goal.returns
returns c = record { law = is_not_refused }
