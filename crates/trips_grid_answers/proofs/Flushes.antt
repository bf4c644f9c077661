-- What is shown of the frames that a run has flushed adds up.
use Rattle.std.proofs.Common.{◌≡◌, ◌<◌, ℕ, ◌+◌, ◌^◌, true, List, refl, ap, arith}
use Rattle.trips_isa.specs.declared.block.Block.{Block}
use Rattle.trips_isa.specs.declared.run.Counts.{Counts}
use Rattle.trips_isa.specs.declared.run.Ending.{Ending}
use Rattle.trips_isa.specs.Machine.{State}
use Rattle.grid_cycle.specs.Conditions.{IsAfter, next_hold, started_on}
use Rattle.grid_cycle.specs.declared.conditions.Conditions.{Conditions}
use Rattle.grid_events.specs.Counts.{flushed, tally}
use Rattle.grid_tallies.specs.declared.statistic.Statistic.TheVariants as statistic
use Rattle.grid_tallies.specs.Statistics.{weigh}
use Rattle.grid_counted.proofs.Flushes.{flushed_are, flushes_sum}
use Rattle.trips_report.specs.declared.measured.Measured.{Measured}
use Rattle.trips_report.specs.declared.show.Show.{Show}
use Rattle.trips_grid_answers.specs.Counted.{IsCountedFrom}

-- each frame that was flushed is counted under one of the three causes
pub flushes_shown : (blocks : List Block) (s : State) (conditions : Conditions) (budget : ℕ) (show : Show)
    (ended : Ending) (measured : Measured) → IsCountedFrom blocks s conditions budget show ended measured
    → show.stats ≡ true → measured.counts.flushed < 2 ^ 64 → measured.counts.flushed
    ≡ measured.statistics.violations + measured.statistics.wrong_exits + measured.statistics.ends
flushes_shown blocks s conditions budget show ended measured c on room =
    let are : (c.grid).counts.flushed ≡ tally flushed c.notes = flushed_are next_hold IsAfter blocks budget
    (c.grid).counts.cycles (started_on s conditions) c.grid c.notes refl refl c.noted in
    let sum : tally flushed c.notes ≡ tally (weigh statistic.Violations) c.notes
    + tally (weigh statistic.WrongExits) c.notes + tally (weigh statistic.Ends) c.notes = flushes_sum c.notes in
    let same : measured.counts.flushed ≡ (c.grid).counts.flushed = ap (λ (k : Counts). k.flushed) c.counted in
    let violations : measured.statistics.violations ≡ tally (weigh statistic.Violations) c.notes =
    (c.statistics on).numbers statistic.Violations (omega (arith, are, sum, same, room)) in
    let exits : measured.statistics.wrong_exits ≡ tally (weigh statistic.WrongExits) c.notes =
    (c.statistics on).numbers statistic.WrongExits (omega (arith, are, sum, same, room)) in
    let ends : measured.statistics.ends ≡ tally (weigh statistic.Ends) c.notes =
    (c.statistics on).numbers statistic.Ends (omega (arith, are, sum, same, room)) in
    omega (arith, are, sum, same, violations, exits, ends)
