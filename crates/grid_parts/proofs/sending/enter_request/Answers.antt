use Rattle.std.proofs.Common.{sym}
use Rattle.grid_parts.proofs.sending.enter_request.Goals as goal

pub returns : goal.returns
returns g c = c.enter.ensures (g.V.Windows.held c.args.window.now) (sym c.generation-generation.ensures)
