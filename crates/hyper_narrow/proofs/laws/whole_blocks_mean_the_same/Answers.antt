use Rattle.hyper_narrow.proofs.WholeRuns.{whole_means}
use Rattle.hyper_narrow.proofs.laws.whole_blocks_mean_the_same.Goals as goal

pub returns : goal.returns
returns c = whole_means
