-- Beside what is believed of Conditions.antt: no hold is above 3, as the trait of weathers has it.
use Rattle.std.specs.Prelude.{◌≤◌}
use Rattle.operand_net.specs.declared.weather.PcgWeather.{PcgWeather}
use Rattle.operand_net.specs.inside.Holds.{holds_within, same_within, zero_within}
use Rattle.grid_cycle.specs.declared.conditions.Holds.{Holds}
use Rattle.grid_cycle.specs.declared.conditions.Holds.TheVariants as holds
use Rattle.grid_cycle.specs.Conditions.{hold_by}

-- whatever gives the holds, none is above 3
pub any_within : (h : Holds) (w : PcgWeather) → hold_by h w ≤ 3
any_within holds.Seeded w = holds_within w.generator
any_within holds.Calm w = zero_within 3
any_within holds.Worst w = same_within 3
