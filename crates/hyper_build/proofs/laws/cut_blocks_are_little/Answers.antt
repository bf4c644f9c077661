use Rattle.hyper_build.proofs.Built.{cut_blocks_little}
use Rattle.hyper_build.proofs.laws.cut_blocks_are_little.Goals as goal

pub returns : goal.returns
returns c = cut_blocks_little
