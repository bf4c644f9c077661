use Rattle.std.proofs.Common.{false, refl}
use Rattle.grid_tallies.proofs.Answering.{heard_load}
use Rattle.grid_tallies.proofs.data_tiles.count_load.Goals as goal

pub returns : goal.returns
returns c = λ by. heard_load false by c.args.told.now c.add.new.self refl c.add.ensures
