use Rattle.grid_place.specs.Moves.{goes}
use Rattle.grid_place.proofs.Alike.{same_plain}
use Rattle.grid_place.proofs.StillClean.{still_clean}
use Rattle.grid_place.proofs.StillFits.{still_fits}
use Rattle.grid_place.proofs.StillInOrder.{still_good}
use Rattle.grid_place.proofs.placed.place.Goals as goal

pub returns-clause-placed : goal.returns-clause-placed
returns-clause-placed c = record {
  to = c.permute.new.to;
  is = c.permute.ensures.placing;
  permutes = c.permute.ensures.permutes;
  moved = c.moved.ensures.moved;
}

pub returns-clause-meaning : goal.returns-clause-meaning
returns-clause-meaning c = let h = c.permute.ensures.permutes in
    λ fits good blocks k regs mem. same_plain (goes c.permute.new.to) h.back c.args.block.now
    c.moved.result fits good h.permutes c.moved.ensures.moved regs mem blocks k

pub returns-clause-clean : goal.returns-clause-clean
returns-clause-clean c = let h = c.permute.ensures.permutes in
    λ fits good regs mem. still_clean (goes c.permute.new.to) h.back c.args.block.now
    c.moved.result fits good h.permutes c.moved.ensures.moved regs mem

pub returns-clause-fits : goal.returns-clause-fits
returns-clause-fits c = let h = c.permute.ensures.permutes in
    λ fits. still_fits (goes c.permute.new.to) h.back c.args.block.now c.moved.result fits h.permutes
    c.moved.ensures.moved

pub returns-clause-good : goal.returns-clause-good
returns-clause-good c = let h = c.permute.ensures.permutes in
    λ fits good. still_good (goes c.permute.new.to) h.back c.args.block.now c.moved.result fits good
    h.permutes c.moved.ensures.moved
