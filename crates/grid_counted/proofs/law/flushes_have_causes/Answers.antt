use Rattle.std.proofs.Common.{refl, ◌∙◌}
use Rattle.grid_cycle.specs.Conditions.{IsAfter, next_hold, started_on}
use Rattle.grid_counted.proofs.Flushes.{flushed_are, flushes_sum}
use Rattle.grid_counted.proofs.law.flushes_have_causes.Goals as goal

pub returns : goal.returns
returns c = λ blocks s budget conditions notes h noted.
    flushed_are next_hold IsAfter blocks budget h.counts.cycles (started_on s conditions) h notes refl refl noted
    ∙ flushes_sum notes
