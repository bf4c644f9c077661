use Rattle.std.proofs.Common.{◌∙◌}
use Rattle.grid_machine.proofs.ToldFacts.{exit_told}
use Rattle.grid_machine.proofs.asking.exit_of.Goals as goal

pub returns : goal.returns
returns c = c.exit_of.ensures.value ∙ exit_told c.args.frame c.args.window.now.window.frames
