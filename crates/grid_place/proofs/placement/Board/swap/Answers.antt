use Rattle.std.proofs.Common.{subst, sym, arith}
use Rattle.grid_place.specs.Moves.{IsPermutation}
use Rattle.grid_place.proofs.Shuffles.{swap_permutes}
use Rattle.grid_place.proofs.placement.Board.swap.Goals as goal

pub returns : goal.returns
returns c = subst IsPermutation (sym c.swap.ensures.after)
    (swap_permutes c.args.to.now c.args.s _ c.requires.slot (omega arith) c.requires.permutes)
