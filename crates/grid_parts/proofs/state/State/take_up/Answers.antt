use Rattle.std.proofs.Common.{◌<◌, length, ap₂, arith}
use Rattle.grid_parts.specs.Seen.{seen}
use Rattle.grid_parts.proofs.PartFacts.{with_busy}
use Rattle.grid_parts.proofs.RowFacts.{set_row}
use Rattle.grid_parts.proofs.state.State.take_up.Goals as goal

pub returns : goal.returns
returns g c = λ w.
    let inside : c.args.tile < length c.args.self.now.units = omega arith in
    ap₂ (λ u k. with_busy u k (seen w c.args.self.now))
    (set_row c.args.self.now.units c.args.tile c.args.time 0 inside) c.put.ensures
