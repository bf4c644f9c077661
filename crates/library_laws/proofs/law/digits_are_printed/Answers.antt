use Rattle.library_laws.proofs.DigitsPrinted.{prints_digits}
use Rattle.library_laws.proofs.law.digits_are_printed.Goals as goal

pub returns : goal.returns
returns c = record { law = prints_digits }
