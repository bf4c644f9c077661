use Rattle.hyper_build.proofs.FilledIfs.{keeps_small_ifs}
use Rattle.hyper_build.proofs.laws.small_ifs_are_filled.Goals as goal

pub returns : goal.returns
returns c = keeps_small_ifs
