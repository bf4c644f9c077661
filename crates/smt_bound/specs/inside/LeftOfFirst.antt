-- What is left for the program that comes first, and what a cycle does to it.
use Rattle.std.specs.Prelude.{ℕ, suc, ◌+◌, ◌<◌, ◌≤◌, List, [], ◌∷◌, slice_get}
use Rattle.grid_cycle_spec.specs.Costs.{cost_in, fetch_latency}
use Rattle.grid_bound.specs.inside.Programs.{size_in}
use Rattle.grid_bound.specs.inside.Lanes.{lane_in}
use Rattle.grid_bound.specs.inside.Held.{left_held}
use Rattle.smt_spec.specs.Programs.{Four, alone}
use Rattle.smt_spec.specs.Parts.{Images}
use Rattle.smt_spec.specs.Cycles.{going}
use Rattle.smt_bound.specs.Costs.{spent_by_all}
use Rattle.smt_bound.specs.inside.Holding.{HeldFor}

-- how many tasks the block has that program p commits next
abbrev pub next_size : {W : Type 0} → Images → ℕ → Four W → ℕ
next_size images p g = size_in (slice_get (images p) (g.own p).window.state.next)

-- what is left for the next block of the first of some programs, where the fetch unit works for another for k cycles
-- more; nothing where there is none
abbrev pub left_of_first : {W : Type 0} → Images → ℕ → List ℕ → Four W → ℕ
left_of_first images k [] g = 0
left_of_first images k (p ∷ ps) g = left_held (λ n. next_size images p g) k (lane_in (alone p g))

-- what that block may cost
abbrev pub cost_of_first : {W : Type 0} → Images → List ℕ → Four W → ℕ
cost_of_first images [] g = 0
cost_of_first images (p ∷ ps) g = cost_in (slice_get (images p) (g.own p).window.state.next)

-- what all may have cost when the next block of the prime program is committed
abbrev pub spent_soon : {W : Type 0} → Images → ℕ → Four W → ℕ
spent_soon images budget g = spent_by_all images g + cost_of_first images (going budget g) g

-- a cycle: what is left for the prime program falls, by as much as the cost of all has not risen
pub record OneCycle {W : Type 0} (images : Images) (budget k : ℕ) (g h : Four W) : Type 0 where
  -- for how long the fetch unit works behind the cycle, for whichever program
  pub later : ℕ
  pub few : later < fetch_latency
  pub held : HeldFor later h
  pub falls : suc (left_of_first images later (going budget h) h) + spent_soon images budget g
      ≤ left_of_first images k (going budget g) g + spent_soon images budget h
