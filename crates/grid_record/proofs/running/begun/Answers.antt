use Rattle.trips_isa.specs.Machine.{start}
use Rattle.grid_parts.specs.Seen.{seen}
use Rattle.grid_machine.proofs.Starts.{seed_start}
use Rattle.grid_record.proofs.running.begun.Goals as goal

pub returns-clause-begun : goal.returns-clause-begun
returns-clause-begun c =
    let g = c.in_ok-grid.grid in
    seed_start (start c.args.image.bytes c.args.input.items) c.args.seed c.in_ok-predictor.predictor c.make-2.result
    (seen g.window.window g.state) c.in_ok-grid.ensures.begun c.in_ok-predictor.ensures c.make-2.ensures
