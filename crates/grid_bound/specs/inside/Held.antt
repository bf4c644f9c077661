-- The lane of a grid whose next block may wait for the fetch unit, and what is left for it then.
use Rattle.std.specs.Prelude.{◌≡◌, ℕ, zero, suc, ◌+◌, ◌<◌, ◌≤◌, ◌⊎◌, Bool, Some, None}
use Rattle.grid_cycle_spec.specs.Costs.{fetch_latency}
use Rattle.grid_cycle_spec.specs.inside.Costs.{longest}
use Rattle.grid_bound.specs.inside.Lane.{Stage, Running, Fetching, Lane}
use Rattle.grid_bound.specs.inside.Left.{left}
use Rattle.grid_bound.specs.inside.Laws.{LaneRule}
use Rattle.grid_bound.specs.inside.Serving.{Served}

-- nothing is in flight and nothing is fetched, before the cycle and behind it, since another has the fetch unit: for
-- k more cycles before it, and for fewer behind it
pub record Waits (k j : ℕ) (l m : Lane) : Type 0 where
  -- whether the block stands as a flushed one
  pub careful : Bool
  pub before : l.stage ≡ Fetching None careful
  pub after : m.stage ≡ Fetching None careful
  pub fewer : j < k
  -- others may have the units, for at most 24 cycles
  pub units : (t : ℕ) → m.units t ≤ longest
  -- no block is committed
  pub done : m.done ≡ l.done

-- the block that commits next is served, or waits for the fetch unit
abbrev pub ServedHeld : (ℕ → ℕ) → ℕ → ℕ → Lane → Lane → Type 0
ServedHeld sizes k j l m = Served sizes l m ⊎ Waits k j l m

-- the cycles for which a block that is not being fetched waits for the fetch unit, where another has it for k more
abbrev pub held : ℕ → Stage → ℕ
held k (Running f) = 0
held k (Fetching None s) = k
held k (Fetching (Some n) s) = 0

-- what is left, with these
abbrev pub left_held : (ℕ → ℕ) → ℕ → Lane → ℕ
left_held sizes k l = left sizes l + held k l.stage

-- a cycle commits the block, or keeps the rule and lowers what is left
abbrev pub FallsHeld : (ℕ → ℕ) → ℕ → ℕ → Lane → Lane → Type 0
FallsHeld sizes k j l m = (m.done ≡ suc l.done)
    ⊎ ((m.done ≡ l.done) × LaneRule sizes m × (left_held sizes j m < left_held sizes k l))

-- some cycles, then one more
pub record GoesHeld (first : ℕ → Lane → Type 0) (sizes : ℕ → ℕ) (j : ℕ) (m : Lane) : Type 0 where
  -- the lane between them, and for how long another has the fetch unit there
  pub between : Lane
  pub holds : ℕ
  pub before : first holds between
  pub served : ServedHeld sizes holds j between m
  -- the rule holds behind the cycle, also for the block that comes next
  pub rule : LaneRule sizes m
  pub few : j < fetch_latency

-- n cycles from lane l to lane m, where another has the fetch unit for k more cycles at first and for j at last
abbrev pub AfterHeld : (ℕ → ℕ) → ℕ → ℕ → Lane → ℕ → Lane → Type 0
AfterHeld sizes zero k l j m = (m ≡ l) × (j ≡ k)
AfterHeld sizes (suc n) k l j m = GoesHeld (λ i between. AfterHeld sizes n k l i between) sizes j m
