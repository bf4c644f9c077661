use Rattle.flat_lower_premises.proofs.FitPrograms.{meaning_kept}
use Rattle.flat_lower_premises.proofs.fits.lowered_programs_keep_meaning.Goals as goal

pub returns : goal.returns
returns c = meaning_kept
