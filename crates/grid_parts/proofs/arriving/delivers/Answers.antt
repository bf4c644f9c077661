use Rattle.std.proofs.Common.{ap}
use Rattle.grid_parts.specs.Seen.{seen}
use Rattle.grid_parts.proofs.arriving.delivers.Goals as goal

pub returns-clause-change : goal.returns-clause-change
returns-clause-change g c = ap (λ w. seen w c.args.grid.now.state) c.deliver.ensures.after
