-- Beside what is believed of Fetches.antt: what the fetch unit does, from its parts, and by cycles.
use Rattle.std.specs.Prelude.{◌≡◌, ℕ, zero, suc, ◌<◌, ◌==◌, cond, List, Option, Some, None}
use Rattle.std.specs.Prelude.{slice_index_or, length}
use Rattle.grid_cycle_spec.specs.Grid.{Fetching}

-- the block whose fetch makes its event in this cycle
abbrev pub due : Option Fetching → Option ℕ
due None = None
due (Some f) = cond (f.left == 0) (Some f.block) None

-- a fetch with a cycle less, where it has one left
abbrev pub with_less : ℕ → Fetching → Fetching
with_less zero f = f
with_less (suc left) f = record f { left = left }

-- what the fetch unit does one cycle later; a fetch that is due stays so until it makes its event
abbrev pub nearer : Option Fetching → Option Fetching
nearer None = None
nearer (Some f) = Some (with_less f.left f)

-- the histories of eight frames, each of ten bits
pub record AreHistories (words : List ℕ) : Type 0 where
  pub size : length words ≡ 8
  pub below : (f : ℕ) → slice_index_or words f 0 < 1024
