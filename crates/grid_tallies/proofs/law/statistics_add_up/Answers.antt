use Rattle.grid_tallies.proofs.Summed.{fired_sum, flights_sum}
use Rattle.grid_tallies.proofs.law.statistics_add_up.Goals as goal

pub returns-clause-fired : goal.returns-clause-fired
returns-clause-fired c = fired_sum

pub returns-clause-flights : goal.returns-clause-flights
returns-clause-flights c = flights_sum
