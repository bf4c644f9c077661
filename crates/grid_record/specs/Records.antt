-- What a record of a run tells: grids of the run of a seed, one after another.
use Rattle.std.specs.Prelude.{◌≡◌, ℕ, suc, ◌+◌, ◌≤◌, true, List, [], ◌∷◌, ◌++◌, length, take, drop}
use Rattle.std.specs.List.{flat_map}
use Rattle.trips_isa.specs.declared.block.Block.{Block}
use Rattle.operand_net.specs.declared.weather.PcgWeather.{PcgWeather}
use Rattle.grid_cycle_spec.specs.Grid.{Grid}
use Rattle.grid_machine.specs.Endings.{is_going}
use Rattle.grid_machine.specs.Seeds.{IsAfter, next_hold, started}
use Rattle.grid_machine.specs.WholeRuns.{IsRun}
use Rattle.grid_record.specs.Moments.{moment_bytes}

-- n eager cycles lead to a grid from the stated start of a seed, before each of which the run goes on; where it has
-- ended, the frames in flight are flushed
abbrev pub IsReached : List Block → List ℕ → List ℕ → ℕ → ℕ → ℕ → Grid PcgWeather → Type 0
IsReached blocks bytes input budget seed n g = IsRun next_hold IsAfter blocks budget n (started bytes input seed) g

-- n cycles lead to the first of some grids, and one more to each of the others
abbrev pub AreReached : List Block → List ℕ → List ℕ → ℕ → ℕ → ℕ → List (Grid PcgWeather) → Type 0
AreReached blocks bytes input budget seed n [] = Unit {0}
AreReached blocks bytes input budget seed n (g ∷ gs) =
    IsReached blocks bytes input budget seed n g × AreReached blocks bytes input budget seed (suc n) gs

-- These bytes tell the run of an image on an input, within a budget of blocks, on the grid of a seed: from its cycle
-- `first` on, and `count` cycles more; less where it ends before.
pub record IsRecord (blocks : List Block) (bytes input : List ℕ) (budget seed first count : ℕ) (told : List ℕ)
    : Type 0 where
  -- how many cycles lead to the first grid that is told
  pub cycle : ℕ
  pub early : cycle ≤ first
  -- the grids that are told
  pub before : List (Grid PcgWeather)
  pub last : Grid PcgWeather
  pub reached : AreReached blocks bytes input budget seed cycle before
  pub reached_last : IsReached blocks bytes input budget seed (cycle + length before) last
  -- all that are asked for, where the run goes on
  pub few : length before ≤ count
  pub all : is_going budget last.window ≡ true → cycle + length before ≡ first + count
  -- each as its moment, then 0 and the output of the last
  pub spelled : told ≡ flat_map (moment_bytes blocks budget) before
      ++ (moment_bytes blocks budget last ++ 0 ∷ last.window.state.output)

-- so many bytes from a place on, or fewer where they end before
abbrev pub part : ℕ → ℕ → List ℕ → List ℕ
part from count bytes = take count (drop from bytes)

-- These bytes are 1 and a part of the committed memory after so many cycles of the same run, or at its end.
pub record IsMemory (blocks : List Block) (bytes input : List ℕ) (budget seed cycle from count : ℕ) (told : List ℕ)
    : Type 0 where
  pub made : ℕ
  pub early : made ≤ cycle
  pub grid : Grid PcgWeather
  pub reached : IsReached blocks bytes input budget seed made grid
  pub all : is_going budget grid.window ≡ true → made ≡ cycle
  pub spelled : told ≡ 1 ∷ part from count grid.window.state.memory
