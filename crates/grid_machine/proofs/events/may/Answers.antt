use Rattle.std.proofs.Common.{ap, ◌∙◌}
use Rattle.frame_state.specs.inside.Events.{is_done}
use Rattle.grid_machine.proofs.FiringFacts.{same_done}
use Rattle.grid_machine.proofs.events.may.Goals as goal

pub returns : goal.returns
returns c = c.is_done.ensures.value ∙ ap is_done c.can.ensures.value ∙ same_done _
