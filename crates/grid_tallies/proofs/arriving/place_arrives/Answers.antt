use Rattle.grid_parts.specs.Seen.{seen}
use Rattle.grid_tallies.proofs.Arrived.{arrived_guessed}
use Rattle.grid_tallies.proofs.arriving.place_arrives.Goals as goal

pub returns-clause-heard : goal.returns-clause-heard
returns-clause-heard g c =
    let v = c.args.grid.now.window in
    arrived_guessed (g.V.Windows.blocks v) (g.V.Windows.budget v) c.args.place
    (seen (g.V.Windows.held v) c.args.grid.now.state) c.args.frame c.exit_at-exit.result c.args.told.now
    c.hear_exit.new.told c.exit_at-exit.ensures c.hear_exit.ensures
