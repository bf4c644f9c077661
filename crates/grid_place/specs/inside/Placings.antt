-- Beside what is believed of Placings.antt: what a placing says of where each slot goes.
use Rattle.std.specs.Prelude.{ℕ, List}
use Rattle.trips_isa.specs.declared.block.Block.{Block}
use Rattle.grid_place.specs.declared.placed.Placing.{Placing}
use Rattle.grid_place.specs.Moves.{IsPermutation, goes}
use Rattle.grid_place.specs.inside.Moves.{IsMoved}
use Rattle.grid_place.specs.Placings.{IsPlacing}

-- c is b with its slots permuted as a placing says, each target renamed with them
pub record IsPlaced (placing : Placing) (b c : Block) : Type 0 where
  -- where each slot goes
  pub to : List ℕ
  -- one that the placing allows
  pub is : IsPlacing placing to
  pub permutes : IsPermutation to
  pub moved : IsMoved (goes to) b c
