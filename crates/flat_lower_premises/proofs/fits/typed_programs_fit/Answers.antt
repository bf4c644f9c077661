use Rattle.flat_lower_premises.proofs.FitPrograms.{source_fits}
use Rattle.flat_lower_premises.proofs.fits.typed_programs_fit.Goals as goal

pub returns : goal.returns
returns c = source_fits
