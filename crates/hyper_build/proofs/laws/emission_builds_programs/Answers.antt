use Rattle.hyper_build.proofs.laws.emission_builds_programs.Goals as goal
use Rattle.hyper_build.proofs.FunctionsOut.{emitted_is_built}

pub returns : goal.returns
returns c = emitted_is_built
