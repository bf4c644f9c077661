use Rattle.library_laws.proofs.NumeralsRight.{decimals_are_numerals}
use Rattle.library_laws.proofs.law.decimals_are_numerals.Goals as goal

pub returns : goal.returns
returns c = record { law = decimals_are_numerals }
