use Rattle.std.proofs.Common.{◌∙◌}
use Rattle.frame_state.specs.inside.Held.{running}
use Rattle.frame_state.specs.inside.Shapes.{is_ready}
use Rattle.grid_machine.proofs.FiringFacts.{both_ready}
use Rattle.grid_machine.proofs.ready.ready_in.Goals as goal

pub returns : goal.returns
returns c = λ b is s l.
    c.joined.ensures s
    ∙ both_ready c.ready.result c.ready-2.result (is_ready (running b c.args.held.now)) s (c.ready.ensures.value b is)
    (c.ready-2.ensures.value b is) l
