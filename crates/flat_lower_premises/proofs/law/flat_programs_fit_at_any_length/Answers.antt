use Rattle.flat_lower_premises.proofs.Programs.{fits_at_any_length}
use Rattle.flat_lower_premises.proofs.law.flat_programs_fit_at_any_length.Goals as goal

pub returns : goal.returns
returns c = fits_at_any_length
