-- Changes of the grid of which the window is no part.
use Rattle.std.specs.Prelude.{ℕ, ◌-◌, ◌==◌, ◌&&◌, ◌||◌, cond, List, [], ◌∷◌, length, None}
use Rattle.trips_isa.specs.Machine.{State}
use Rattle.operand_net.specs.Places.{Places}
use Rattle.block_predict.specs.Predicts.{Holding, learned}
use Rattle.grid_cycle_spec.specs.Grid.{Grid, Fetching, forget}
use Rattle.grid_cycle_spec.specs.Acting.{repaired, flushed_more}
use Rattle.grid_cycle_spec.specs.Fetches.{one_fetched}
use Rattle.grid_cycle_spec.specs.Ends.{one_committed}
use Rattle.grid_cycle_spec.specs.Cycles.{begun_at}
use Rattle.grid_parts.specs.inside.Fetches.{nearer}

-- the stated start, with a predictor
abbrev pub begun_with : {W : Type 0} → State → Holding → W → Grid W
begun_with s predictor weather = record (begun_at s [] weather) { predictor = predictor }

-- other parcels are in the mesh
abbrev pub with_parcels : {W : Type 0} → Places → Grid W → Grid W
with_parcels parcels g = record g { parcels = parcels }

-- parcels have travelled in this weather
abbrev pub travelled : {W : Type 0} → Places → W → Grid W → Grid W
travelled parcels weather g = record g { parcels = parcels; weather = weather }

-- some frames are forgotten, one after another
abbrev pub forget_each : {W : Type 0} → List ℕ → Grid W → Grid W
forget_each [] g = g
forget_each (n ∷ ns) g = forget_each ns (forget (λ m. m == n) g)

-- some frames have been flushed, of which the eldest had this history
abbrev pub flushed_under : {W : Type 0} → ℕ → List ℕ → Grid W → Grid W
flushed_under history gone g = repaired history (record (forget_each gone g) {
  fetching = None;
  standing = None;
  counts = flushed_more (length gone) (forget_each gone g).counts;
})

-- a unit is busy for one cycle less
abbrev pub less_busy : {W : Type 0} → ℕ → Grid W → Grid W
less_busy tile g = record g { units = λ t. cond (t == tile) (g.units tile - 1) (g.units t) }

-- a unit has taken up a slot of a frame for so long
abbrev pub taken_up : {W : Type 0} → ℕ → ℕ → ℕ → ℕ → Grid W → Grid W
taken_up tile n s time g = record g {
  units = λ t. cond (t == tile) time (g.units t);
  works = λ m k. ((m == n) && (k == s)) || g.works m k;
}

-- a fetch goes on by a cycle
abbrev pub fetch_nearer : {W : Type 0} → Grid W → Grid W
fetch_nearer g = record g { fetching = nearer g.fetching }

-- no fetch is under way
abbrev pub given_up : {W : Type 0} → Grid W → Grid W
given_up g = record g { fetching = None }

-- a frame keeps the history and the careful mark of the fetch that filled it, which has ended
abbrev pub filled_by : {W : Type 0} → ℕ → Fetching → Grid W → Grid W
filled_by n f g = record g {
  fetching = None;
  standing = None;
  careful = λ m. cond (m == n) f.careful (g.careful m);
  histories = λ m. cond (m == n) f.history (g.histories m);
  counts = one_fetched g.counts;
}

-- the predictor learns the exit that a frame took of its block
abbrev pub learned_of : {W : Type 0} → ℕ → ℕ → ℕ → Grid W → Grid W
learned_of block n exit g = record g { predictor = learned g.predictor block (g.histories n) exit }

-- one block more is committed
abbrev pub committed_more : {W : Type 0} → Grid W → Grid W
committed_more g = record g { counts = one_committed g.counts }
