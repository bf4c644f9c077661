-- A cycle of the grid, and runs of cycles (docs/GRID.md, "A cycle").
use Rattle.std.specs.Prelude.{◌≡◌, ℕ, ◌+◌, List, [], length, false, None}
use Rattle.trips_isa.specs.declared.block.Block.{Block}
use Rattle.trips_isa.specs.declared.run.Counts.{Counts}
use Rattle.trips_isa.specs.declared.run.Stepped.{Stepped}
use Rattle.trips_isa.specs.declared.run.Stepped.TheVariants.{Went}
use Rattle.trips_isa.specs.Machine.{State}
use Rattle.operand_net.specs.Places.{Places, none}
use Rattle.operand_net.specs.Tick.{Ticked}
use Rattle.block_predict.specs.Predicts.{holding}
use Rattle.commit_flush_spec.specs.InFlight.{opened}
use Rattle.grid_cycle_spec.specs.Grid.{Grid, numbers_of}
use Rattle.grid_cycle_spec.specs.Ends.{ends}
use Rattle.grid_cycle_spec.specs.Fetches.{fetches}
use Rattle.grid_cycle_spec.specs.Banks.{reads_answered}
use Rattle.grid_cycle_spec.specs.DataTiles.{answers}
use Rattle.grid_cycle_spec.specs.Units.{works_on}
use Rattle.grid_cycle_spec.specs.inside.Arrivals.{arrivals}
use Rattle.grid_cycle_spec.specs.Acting.{flushed}

-- parts (2) to (5)
abbrev pub acts : {W : Type 0} → List Block → ℕ → Grid W → Grid W
acts blocks budget g = works_on blocks budget
    (answers blocks budget (reads_answered blocks budget (fetches blocks budget g)))

-- one cycle more has been made
abbrev pub counted : {W : Type 0} → Grid W → Grid W
counted g = record g { counts = record g.counts { cycles = g.counts.cycles + 1 } }

-- part (6): the mesh ticks, by the weather's own relation, and what has arrived is delivered; `m` is the grid before
pub record Moves {W : Type 0} (next : W → ℕ) (follows : W → W → Type 0) (blocks : List Block) (budget : ℕ)
    (m g : Grid W) : Type 0 where
  -- the parcels and the weather behind the tick, when nothing has been delivered yet
  pub parcels : Places
  pub weather : W
  pub ticked : Ticked next follows (numbers_of m.window.frames) m.parcels parcels m.weather weather
      (length m.window.frames)
  pub arrived : g ≡ counted (arrivals blocks budget (numbers_of m.window.frames)
      (record m { parcels = parcels; weather = weather }))

-- what follows part (1): nothing where the run has ended, else the other parts
abbrev pub Follows : {W : Type 0} → Stepped → (W → ℕ) → (W → W → Type 0) → List Block → ℕ → Grid W → Grid W → Type 0
Follows Went next follows blocks budget m g = Moves next follows blocks budget (acts blocks budget m) g
Follows _ next follows blocks budget m g = g ≡ counted m

-- an eager cycle: each part does all that it may. It leaves open only what the weather gives next
abbrev pub Eager : {W : Type 0} → (W → ℕ) → (W → W → Type 0) → List Block → ℕ → Grid W → Grid W → Type 0
Eager next follows blocks budget g h =
    Follows (ends blocks budget g).window.over next follows blocks budget (ends blocks budget g) h

-- some cycles, then one more
pub record Then {W : Type 0} (first last : Grid W → Type 0) : Type 0 where
  pub between : Grid W
  pub before : first between
  pub after : last between

-- the start and the end of a run -----------------------------------------------------------------

-- nothing has been counted
abbrev pub uncounted : Counts
uncounted = record { cycles = 0; fetched = 0; committed = 0; flushed = 0 }

-- the stated start: no frame is in flight, and nothing is under way; the predictor and the weather are those given
abbrev pub begun_at : {W : Type 0} → State → List ℕ → W → Grid W
begun_at s entries weather = record {
  window = opened s;
  parcels = none;
  asked = λ f n. false;
  units = λ t. 0;
  works = λ f s. false;
  fetching = None;
  standing = None;
  waits = λ k. false;
  careful = λ f. false;
  histories = λ f. 0;
  predictor = holding entries 0 [];
  weather = weather;
  counts = uncounted;
}

-- at the end of a run the frames in flight are flushed
abbrev pub closed : {W : Type 0} → Grid W → Grid W
closed g = flushed g.window.frames (record g { window = record g.window { frames = [] } })
