use Rattle.flat_lower_premises.proofs.LoweredSources.{lowered_fits}
use Rattle.flat_lower_premises.proofs.law.flat_programs_fit.Goals as goal

pub returns : goal.returns
returns c = lowered_fits
