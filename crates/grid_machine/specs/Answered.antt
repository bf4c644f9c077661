-- What a run of the grid is answered, and what it has then come to (docs/GRID.md, "Runs").
use Rattle.std.specs.Prelude.{◌≡◌, ℕ, ◌≤◌, true, List, [], Option, Some, None}
use Rattle.trips_isa.specs.declared.block.Block.{Block}
use Rattle.trips_isa.specs.declared.run.Ending.{Ending}
use Rattle.trips_isa.specs.Machine.{State, runs}
use Rattle.grid_cycle_spec.specs.Grid.{Grid}
use Rattle.grid_machine.specs.Endings.{ending_of, is_going}
use Rattle.grid_machine.specs.Tallies.{AllCounted}

-- the grid has come to where the machine comes to from a state within so many steps: to its state, and its ending is
-- what the last step came to. No frame is in flight, and each that was fetched has been committed or flushed
pub record ComesTo {W : Type 0} (blocks : List Block) (s : State) (steps : ℕ) (e : Ending) (h : Grid W) : Type 0 where
  pub state : h.window.state ≡ (runs blocks s steps).0
  pub over : h.window.over ≡ (runs blocks s steps).1
  pub ending : e ≡ ending_of (runs blocks s steps).1 (runs blocks s steps).0.next
  -- what was in flight at the end of the run has been flushed
  pub rests : h.window.frames ≡ []
  pub counted : AllCounted h

-- the run goes on, though as many cycles have been made as a run may make
pub record IsCutOff {W : Type 0} (budget most : ℕ) (h : Grid W) : Type 0 where
  pub goes : is_going budget h.window ≡ true
  pub cycles : most ≤ h.counts.cycles

-- what a run from a state has come to where it is answered an ending, or none
abbrev pub HasCome : {W : Type 0} → List Block → State → ℕ → ℕ → ℕ → Option Ending → Grid W → Type 0
HasCome blocks s steps budget most (Some e) h = ComesTo blocks s steps e h
HasCome blocks s steps budget most None h = IsCutOff budget most h
