use Rattle.grid_parts.specs.Seen.{seen}
use Rattle.grid_log.proofs.Turning.{read_logged}
use Rattle.grid_log.proofs.banks.answered.Goals as goal

pub returns-clause-told : goal.returns-clause-told
returns-clause-told g c =
    let v = c.args.grid.now.window in
    read_logged (g.V.Windows.blocks v) (g.V.Windows.budget v) c.args.bank c.args.frame c.args.read
    (seen (g.V.Windows.held v) c.args.grid.now.state) c.args.log.now c.keep.new.self c.keep.ensures
