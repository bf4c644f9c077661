use Rattle.std.proofs.Common.{◌∙◌}
use Rattle.grid_machine.proofs.CallFacts.{next_is}
use Rattle.grid_machine.proofs.runs.next_block.Goals as goal

pub returns : goal.returns
returns g c = record {
  value = c.unwrap_or.ensures
      ∙ next_is (g.V.Windows.held c.args.window.now) c.successor.result c.successor.ensures c.requires.rests;
}
