-- Beside what is believed of Meant.antt: runs of the grid on the image of a text, in any weather and with any
-- predictor.
use Rattle.std.specs.Prelude.{◌≡◌, ℕ, ◌≤◌, List, length}
use Rattle.trips_isa.specs.declared.block.Image.{Image}
use Rattle.trips_isa.specs.declared.run.Stepped.TheVariants.{Went}
use Rattle.trips_isa.specs.Machine.{State, runs, start}
use Rattle.block_predict.specs.Predicts.{Holding}
use Rattle.grid_cycle_spec.specs.Grid.{Grid}
use Rattle.grid_parts.specs.inside.Changes.{begun_with}
use Rattle.grid_machine.specs.WholeRuns.{IsRun, most_cycles}

-- A run on an image and an input has led to this grid, within a budget of blocks: from a start that `Grid::make` or
-- `Grid::make_at` gives, where the machine has made no step or some and goes on, with any predictor and any weather;
-- by as many eager cycles as are counted, before each of which the run goes on; at its end the frames in flight are
-- flushed.
pub record IsImageRun {W : Type 0} (next : W → ℕ) (follows : W → W → Type 0) (i : Image) (input : List ℕ) (budget : ℕ)
    (h : Grid W) : Type 0 where
  -- the machine's state at the start, and the steps that it had made from the program's start on
  pub state : State
  pub made : ℕ
  pub reached : (state, Went) ≡ runs i.blocks (start i.bytes input) made
  -- the budget counts them
  pub spent : length state.trace ≤ budget
  -- what the predictor and the weather were at the start
  pub predictor : Holding
  pub weather : W
  pub run : IsRun next follows i.blocks budget h.counts.cycles (begun_with state predictor weather) h
  -- no more cycles than a run may make; a run that goes on has made fewer (law `ends`)
  pub few : h.counts.cycles ≤ most_cycles budget
