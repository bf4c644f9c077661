-- Four programs on one grid, as plain data: what each has of its own, and what they share. One program alone is
-- seen as a grid of `grid_cycle_spec`, so that each of its definitions speaks of it.
use Rattle.std.specs.Prelude.{ℕ, ◌+◌, ◌*◌, ◌/◌, ◌%◌, ◌==◌, ◌&&◌, Bool, cond, nat_lt, List, [], ◌∷◌, ◌++◌, map}
use Rattle.std.specs.Prelude.{Option, is_none}
use Rattle.operand_net.specs.Places.{Places}
use Rattle.block_predict.specs.Predicts.{Holding}
use Rattle.commit_flush_spec.specs.Window.{Window}
use Rattle.grid_cycle_spec.specs.Grid.{Grid, Fetching, numbers_of}

-- what a program has of its own; its frames are named 0 and 1
pub record Own : Type 0 where
  -- its committed state, and its frames in flight
  pub window : Window
  -- what is under way of its frames: parcels, requests at data tiles, results in units
  pub parcels : Places
  pub asked : ℕ → ℕ → Bool
  pub works : ℕ → ℕ → Bool
  -- the fetch of its next block, where the fetch unit works for it
  pub fetching : Option Fetching
  pub standing : Option ℕ
  pub waits : ℕ → Bool
  pub careful : ℕ → Bool
  pub histories : ℕ → ℕ
  pub predictor : Holding
  -- frames fetched, committed and flushed
  pub fetched : ℕ
  pub committed : ℕ
  pub flushed : ℕ

-- four programs on one grid
pub record Four (W : Type 0) : Type 0 where
  -- of the programs 0 to 3
  pub own : ℕ → Own
  -- for how long each tile's unit is busy, whichever program has it
  pub units : ℕ → ℕ
  -- what says for how many cycles a parcel that arrives next is held
  pub weather : W
  -- cycles made
  pub cycles : ℕ

-- one program ------------------------------------------------------------------------------------

-- a program's own parts among the shared ones
abbrev pub grid_of : {W : Type 0} → Own → (ℕ → ℕ) → W → ℕ → Grid W
grid_of o units weather cycles = record {
  window = o.window;
  parcels = o.parcels;
  asked = o.asked;
  units = units;
  works = o.works;
  fetching = o.fetching;
  standing = o.standing;
  waits = o.waits;
  careful = o.careful;
  histories = o.histories;
  predictor = o.predictor;
  weather = weather;
  counts = record { cycles = cycles; fetched = o.fetched; committed = o.committed; flushed = o.flushed };
}

-- what of a grid is one program's own
abbrev pub own_of : {W : Type 0} → Grid W → Own
own_of g = record {
  window = g.window;
  parcels = g.parcels;
  asked = g.asked;
  works = g.works;
  fetching = g.fetching;
  standing = g.standing;
  waits = g.waits;
  careful = g.careful;
  histories = g.histories;
  predictor = g.predictor;
  fetched = g.counts.fetched;
  committed = g.counts.committed;
  flushed = g.counts.flushed;
}

-- the grid as program p sees it
abbrev pub alone : {W : Type 0} → ℕ → Four W → Grid W
alone p g = grid_of (g.own p) g.units g.weather g.cycles

-- what program p has made of the grid that it sees
abbrev pub put : {W : Type 0} → ℕ → Grid W → Four W → Four W
put p h g = record {
  own = λ q. cond (q == p) (own_of h) (g.own q);
  units = h.units;
  weather = h.weather;
  cycles = h.counts.cycles;
}

-- what all share ---------------------------------------------------------------------------------

-- the mesh: frame f of program p is its frame 2 p + f
abbrev pub mesh : {W : Type 0} → Four W → Places
mesh g n = (g.own (n / 2)).parcels (n % 2)

-- the frames in flight of some programs, by program, then age
abbrev pub order : {W : Type 0} → Four W → List ℕ → List ℕ
order g [] = []
order g (p ∷ ps) = map (λ n. 2 * p + n) (numbers_of (g.own p).window.frames) ++ order g ps

-- these parcels are in the mesh, and the weather has moved on
abbrev pub travelled : {W : Type 0} → Places → W → Four W → Four W
travelled parcels weather g = record g {
  own = λ p. record (g.own p) { parcels = λ f q. cond (nat_lt f 2) (parcels (2 * p + f) q) ((g.own p).parcels f q) };
  weather = weather;
}

-- the fetch unit works for none of the programs
abbrev pub is_idle : {W : Type 0} → Four W → Bool
is_idle g = is_none (g.own 0).fetching && (is_none (g.own 1).fetching
    && (is_none (g.own 2).fetching && is_none (g.own 3).fetching))
