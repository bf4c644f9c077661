use Rattle.flat_lower_premises.proofs.FitPrograms.{most_is}
use Rattle.flat_lower_premises.proofs.fits.most_of_is_most.Goals as goal

pub returns : goal.returns
returns c = most_is
