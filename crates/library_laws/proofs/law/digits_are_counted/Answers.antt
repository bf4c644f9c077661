use Rattle.library_laws.proofs.Counted.{counts_digits}
use Rattle.library_laws.proofs.law.digits_are_counted.Goals as goal

pub returns : goal.returns
returns c = record { law = counts_digits }
