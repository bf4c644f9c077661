use Rattle.std.proofs.Common.{◌∙◌}
use Rattle.grid_machine.proofs.NumberFacts.{free_is}
use Rattle.grid_machine.proofs.asking.lowest_empty.Goals as goal

pub returns-clause-value : goal.returns-clause-value
returns-clause-value c = c.lowest_empty.ensures.value ∙ free_is c.args.window.now.window.frames
