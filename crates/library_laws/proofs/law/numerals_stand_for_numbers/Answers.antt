use Rattle.library_laws.proofs.NumeralsRight.{numerals_are_digits}
use Rattle.library_laws.proofs.law.numerals_stand_for_numbers.Goals as goal

pub returns : goal.returns
returns c = record { law = numerals_are_digits }
