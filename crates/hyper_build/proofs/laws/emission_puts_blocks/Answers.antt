use Rattle.hyper_build.proofs.laws.emission_puts_blocks.Goals as goal
use Rattle.hyper_build.proofs.Emissions.{reached}

pub returns : goal.returns
returns c = reached
