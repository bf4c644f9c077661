use Rattle.library_laws.proofs.HexadecimalPrinted.{prints_hexadecimal}
use Rattle.library_laws.proofs.law.hexadecimal_is_printed.Goals as goal

pub returns : goal.returns
returns c = record { law = prints_hexadecimal }
