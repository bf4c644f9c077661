-- Beside what is believed of Engines.antt: A grid as contracts see it.
use Rattle.std.specs.Prelude.{ℕ, ◌^◌, ◌<◌, ◌≤◌, List}
use Rattle.trips_isa.specs.declared.block.Block.{Block}
use Rattle.trips_isa.specs.Machine.{State}
use Rattle.block_predict.specs.Predicts.{Holding}
use Rattle.commit_flush_spec.specs.InFlight.{opened}
use Rattle.commit_flush_spec.specs.inside.Invariant.{AllGood}
use Rattle.commit_flush_spec.specs.inside.Laws.{WindowOk}
use Rattle.grid_cycle_spec.specs.Grid.{Grid}
use Rattle.grid_parts.specs.inside.Changes.{begun_with}
use Rattle.grid_machine.specs.WholeRuns.{IsRun, most_cycles}
use Rattle.grid_machine.specs.inside.WholeRuns.{IsKept}

-- a run has led to a grid from a stated start, by as many eager cycles as are counted: from a state on which a window
-- opens right, with any predictor and any weather
pub record IsBegun {W : Type 0} (next : W → ℕ) (follows : W → W → Type 0) (blocks : List Block) (budget : ℕ)
    (g : Grid W) : Type 0 where
  -- what the run began with: the committed state, what the predictor held, and the weather
  pub state : State
  pub predictor : Holding
  pub weather : W
  -- with no frame in flight the window has its invariant on that state
  pub opens : WindowOk blocks budget (opened state)
  -- as many eager cycles as are counted, before each of which the run goes on
  pub run : IsRun next follows blocks budget g.counts.cycles (begun_with state predictor weather) g

-- what stands of every grid between two calls
pub record IsEngine {W : Type 0} (next : W → ℕ) (follows : W → W → Type 0) (blocks : List Block) (budget : ℕ)
    (g : Grid W) : Type 0 where
  -- the image was checked
  pub good : AllGood blocks
  -- the budget is one that a run may have
  pub small : budget < 2 ^ 32
  -- a run has led to it
  pub begun : IsBegun next follows blocks budget g
  -- no more cycles than a run may make
  pub few : g.counts.cycles ≤ most_cycles budget
  -- its counts have room for a cycle, and at the end of the run no frame is in flight
  pub kept : IsKept budget g
