use Rattle.std.proofs.Common.{ap, ◌∙◌}
use Rattle.grid_cycle_spec.specs.DataTiles.{by_block}
use Rattle.grid_parts.proofs.FlushFacts.{no_block, some_block}
use Rattle.grid_parts.proofs.grid.Grid.wrong_block.Goals as goal

pub returns-in-None : goal.returns-in-None
returns-in-None g c = ap (by_block (g.V.Windows.held c.args.self.now.window).frames) c.in-None.ensures.value

pub returns-in-None-block_of : goal.returns-in-None-block_of
returns-in-None-block_of g c =
    let fs = (g.V.Windows.held c.args.self.now.window).frames in
    no_block fs c.in-Some.wrong c.in-Some.load c.in-None-block_of.ensures.value
    ∙ ap (by_block fs) c.in-Some.ensures.value

pub returns-in-Some-block_of : goal.returns-in-Some-block_of
returns-in-Some-block_of g c =
    let fs = (g.V.Windows.held c.args.self.now.window).frames in
    some_block fs c.in-Some.wrong c.in-Some.load c.in-Some-block_of.block c.in-Some-block_of.ensures.value
    ∙ ap (by_block fs) c.in-Some.ensures.value
