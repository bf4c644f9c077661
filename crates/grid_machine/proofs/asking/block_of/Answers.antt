use Rattle.std.proofs.Common.{◌∙◌}
use Rattle.grid_machine.proofs.BlockFacts.{block_within}
use Rattle.grid_machine.proofs.ToldFacts.{block_told}
use Rattle.grid_machine.proofs.asking.block_of.Goals as goal

pub returns : goal.returns
returns c =
    let w = c.args.window.now in
    record {
      value = c.block_of.ensures.value ∙ block_told c.args.frame w.window.frames;
      within = block_within w.image.blocks w.budget w.window c.keeps_invariant.ensures.window c.args.frame _
          c.block_of.ensures.value;
    }
