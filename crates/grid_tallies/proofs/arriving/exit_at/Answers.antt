use Rattle.std.proofs.Common.{arith}
use Rattle.std.proofs.lemmas.Bool.{le-ltb, lt-ltb}
use Rattle.grid_parts.specs.inside.Asked.{frame_of}
use Rattle.grid_tallies.proofs.Arrived.{exit_found, exit_none, exit_read}
use Rattle.grid_tallies.proofs.arriving.exit_at.Goals as goal

pub returns-in-Some : goal.returns-in-Some
returns-in-Some g c =
    let v = c.args.window.now in
    exit_found (g.V.Windows.blocks v) c.args.place (frame_of c.args.frame (g.V.Windows.held v).frames) c.in-Some.inst
    c.branch_names.result (lt-ltb c.args.place 256 (omega arith)) c.in-Some.ensures.value c.branch_names.ensures

pub returns-in-None : goal.returns-in-None
returns-in-None g c =
    let v = c.args.window.now in
    exit_none (g.V.Windows.blocks v) c.args.place (frame_of c.args.frame (g.V.Windows.held v).frames)
    (lt-ltb c.args.place 256 (omega arith)) c.in-None.ensures.value

pub returns-else-place-lt256 : goal.returns-else-place-lt256
returns-else-place-lt256 g c =
    let v = c.args.window.now in
    exit_read (g.V.Windows.blocks v) c.args.place (frame_of c.args.frame (g.V.Windows.held v).frames)
    (le-ltb c.args.place 256 (omega arith))
