use Rattle.std.proofs.Common.{◌∙◌}
use Rattle.grid_tallies.proofs.Summed.{flights_sum}
use Rattle.grid_counted.proofs.law.flights_are_cycles.Goals as goal

pub returns : goal.returns
returns c = λ blocks s budget conditions ended h counters f r.
    flights_sum 0 (r.noted).cycles r.few ∙ (r.noted).many
