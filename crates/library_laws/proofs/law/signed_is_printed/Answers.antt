use Rattle.library_laws.proofs.SignedPrinted.{prints_signed}
use Rattle.library_laws.proofs.law.signed_is_printed.Goals as goal

pub returns : goal.returns
returns c = record { law = prints_signed }
