use Rattle.std.proofs.Common.{true, refl}
use Rattle.grid_tallies.proofs.Answering.{heard_store}
use Rattle.grid_tallies.proofs.data_tiles.count_store.Goals as goal

pub returns : goal.returns
returns c = heard_store true c.args.flushed c.args.told.now c.add.new.self c.add-2.new.self refl c.add.ensures
    c.add-2.ensures
