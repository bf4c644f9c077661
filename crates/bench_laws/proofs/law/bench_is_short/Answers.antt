use Rattle.bench_laws.proofs.TextLaws.{is_short}
use Rattle.bench_laws.proofs.law.bench_is_short.Goals as goal

pub returns : goal.returns
returns c = record { law = is_short }
