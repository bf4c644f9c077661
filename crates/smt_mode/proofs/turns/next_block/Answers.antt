use Rattle.std.proofs.Common.{◌∙◌}
use Rattle.grid_machine.proofs.CallFacts.{next_is}
use Rattle.smt_mode.proofs.turns.next_block.Goals as goal

pub returns : goal.returns
returns c = record {
  value = c.unwrap_or.ensures
      ∙ next_is c.args.program.now.window.window c.successor.result c.successor.ensures c.requires.rests;
}
