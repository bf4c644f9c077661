-- Beside what is believed of Records.antt: a record on its way.
use Rattle.std.specs.Prelude.{◌≡◌, ℕ, ◌+◌, List, ◌++◌, length}
use Rattle.std.specs.List.{flat_map}
use Rattle.trips_isa.specs.declared.block.Block.{Block}
use Rattle.operand_net.specs.declared.weather.PcgWeather.{PcgWeather}
use Rattle.grid_cycle_spec.specs.Grid.{Grid}
use Rattle.grid_record.specs.Moments.{moment_bytes}
use Rattle.grid_record.specs.Records.{AreReached, IsReached}

-- so many grids from a cycle on have been told, and the one behind them has been reached
pub record Recording (blocks : List Block) (bytes input : List ℕ) (budget seed cycle made : ℕ)
    (old new : List ℕ) (g : Grid PcgWeather) : Type 0 where
  pub before : List (Grid PcgWeather)
  pub size : length before ≡ made
  pub reached : AreReached blocks bytes input budget seed cycle before
  pub here : IsReached blocks bytes input budget seed (cycle + made) g
  pub spelled : new ≡ old ++ flat_map (moment_bytes blocks budget) before
