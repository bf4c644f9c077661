-- For how many cycles more the fetch unit works for some program.
use Rattle.std.specs.Prelude.{ℕ, ◌<◌, ◌≤◌, Option, Some, None}
use Rattle.grid_cycle_spec.specs.Grid.{Fetching}
use Rattle.smt_spec.specs.Programs.{Four}

-- the cycles that a fetch still takes beyond the next
abbrev pub left_of : Option Fetching → ℕ
left_of None = 0
left_of (Some x) = x.left

-- no program's fetch takes more than k cycles beyond the next
abbrev pub HeldFor : {W : Type 0} → ℕ → Four W → Type 0
HeldFor k g = (q : ℕ) → q < 4 → left_of (g.own q).fetching ≤ k
