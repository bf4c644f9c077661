use Rattle.library_laws.proofs.UnsignedPrinted.{prints_unsigned}
use Rattle.library_laws.proofs.law.unsigned_is_printed.Goals as goal

pub returns : goal.returns
returns c = record { law = prints_unsigned }
