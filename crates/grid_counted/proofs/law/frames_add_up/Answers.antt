use Rattle.std.proofs.Common.{refl}
use Rattle.grid_cycle.specs.Conditions.{IsAfter, next_hold, started_on}
use Rattle.grid_counted.proofs.Flushes.{frames_are}
use Rattle.grid_counted.proofs.law.frames_add_up.Goals as goal

pub returns : goal.returns
returns c = λ blocks s budget conditions notes h noted.
    frames_are next_hold IsAfter blocks budget h.counts.cycles (started_on s conditions) h notes refl refl noted
