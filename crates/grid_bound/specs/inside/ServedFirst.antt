-- A cycle in which one grid of several comes first at each station (docs/GRID.md, "Served first"): its oldest frame
-- comes before all others, units that it leaves free may serve others, and the fetch unit may work for another.
use Rattle.std.specs.Prelude.{◌≡◌, ◌≢◌, ℕ, ◌<◌, ◌≤◌, ◌⊎◌, List, [], ◌∷◌, None}
use Rattle.trips_isa.specs.declared.block.Block.{Block}
use Rattle.trips_isa.specs.declared.run.Stepped.TheVariants.{Went}
use Rattle.operand_net.specs.Places.{Places}
use Rattle.commit_flush_spec.specs.Frames.{Frame}
use Rattle.grid_cycle_spec.specs.Costs.{fetch_latency}
use Rattle.grid_cycle_spec.specs.inside.Costs.{longest}
use Rattle.grid_cycle_spec.specs.Grid.{Grid, numbers_of}
use Rattle.grid_cycle_spec.specs.Ends.{ends}
use Rattle.grid_cycle_spec.specs.Fetches.{fetch_ends, fetches}
use Rattle.grid_cycle_spec.specs.Banks.{reads_answered}
use Rattle.grid_cycle_spec.specs.DataTiles.{answers}
use Rattle.grid_cycle_spec.specs.Units.{works_on}
use Rattle.grid_cycle_spec.specs.inside.Arrivals.{arrivals}
use Rattle.grid_cycle_spec.specs.Cycles.{counted}
use Rattle.grid_bound.specs.inside.Parts.{RowMoves}

-- parts (3) to (5), as a grid makes them that has the stations to itself
abbrev pub worked : {W : Type 0} → List Block → ℕ → Grid W → Grid W
worked blocks budget g = works_on blocks budget (answers blocks budget (reads_answered blocks budget g))

-- parts (3) to (6)
pub record RestFirst {W : Type 0} (blocks : List Block) (budget : ℕ) (g h : Grid W) : Type 0 where
  -- how busy units are behind part (5): as this grid has them, where it has them
  pub units : ℕ → ℕ
  pub own : (t : ℕ) → 1 ≤ (worked blocks budget g).units t → units t ≡ (worked blocks budget g).units t
  -- a unit is held by another frame for at most 24 cycles
  pub held : (t : ℕ) → units t ≤ longest
  -- the grid's parcels behind the tick, of which those of its oldest frame wait for no others; the weather has been
  -- asked for the arrivals of all
  pub parcels : Places
  pub weather : W
  pub rows : (f : Frame) (fs : List Frame) → (worked blocks budget g).window.frames ≡ f ∷ fs
      → RowMoves ((worked blocks budget g).parcels f.number) (parcels f.number)
  -- what has arrived is delivered
  pub arrived : h ≡ counted (arrivals blocks budget (numbers_of (worked blocks budget g).window.frames)
      (record (worked blocks budget g) { units = units; parcels = parcels; weather = weather }))

-- part (2), where another grid has the fetch unit for k more cycles before the cycle and for j behind it: the grid's
-- fetch ends, or goes on, and the next one begins; or it begins none, and where its next block waits for the unit,
-- the other has it for fewer cycles
abbrev pub FetchesFirst : {W : Type 0} → List Block → ℕ → ℕ → ℕ → Grid W → Grid W → Type 0
FetchesFirst blocks budget k j g h = (h ≡ fetches blocks budget g)
    ⊎ ((h ≡ fetch_ends blocks budget g.fetching g) × (g.window.frames ≡ [] → g.fetching ≡ None → j < k))

-- parts (2) to (6)
pub record ActsFirst {W : Type 0} (blocks : List Block) (budget k j : ℕ) (g h : Grid W) : Type 0 where
  -- behind part (2)
  pub fetched : Grid W
  pub is_fetched : FetchesFirst blocks budget k j g fetched
  -- the fetch unit is held for at most 7 cycles beyond the next
  pub few : j < fetch_latency
  pub rest : RestFirst blocks budget fetched h

-- all parts: nothing of the grid's follows where part (1) ends its run
pub record ServedFirst {W : Type 0} (blocks : List Block) (budget k j : ℕ) (g h : Grid W) : Type 0 where
  pub acts : (ends blocks budget g).window.over ≡ Went → ActsFirst blocks budget k j (ends blocks budget g) h
  pub rests : (ends blocks budget g).window.over ≢ Went → h.window ≡ (ends blocks budget g).window
