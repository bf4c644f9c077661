-- Logged runs from a start.
use Rattle.std.proofs.Common.{◌≡◌, ◌≤◌, ℕ, ◌-◌, List, [], length, Some, ◌∙◌, subst, arith}
use Rattle.trips_isa.specs.declared.block.Block.{Block}
use Rattle.trips_isa.specs.declared.run.Ending.{Ending}
use Rattle.trips_isa.specs.Machine.{State}
use Rattle.grid_cycle.specs.declared.weather.AnyWeather.{AnyWeather}
use Rattle.grid_cycle.specs.declared.conditions.Conditions.{Conditions}
use Rattle.grid_cycle_spec.specs.Grid.{Grid}
use Rattle.grid_machine.specs.Answered.{ComesTo}
use Rattle.grid_cycle.specs.Conditions.{IsAfter, next_hold, started_on}
use Rattle.grid_machine.specs.Tallies.{CountsCommits}
use Rattle.grid_machine.specs.WholeRuns.{IsRun, most_cycles}
use Rattle.grid_cycle.proofs.Starts.{is_ran, started_cycles}
use Rattle.grid_counted.proofs.NotedRuns.{is_run}
use Rattle.grid_log.specs.declared.log.Log.{Log}
use Rattle.grid_log.specs.Logs.{IsOf}
use Rattle.grid_logged.specs.Runs.{IsLoggedRun}
use Rattle.grid_logged.specs.Seeds.{HasLogged}

-- a logged run from a start is a run under its conditions, and a log of nothing is of its entries then
pub has_logged : (blocks : List Block) (s : State) (budget first last limit : ℕ)
    (conditions : Conditions) (e : Ending) (g h : Grid AnyWeather) (a b : Log) → s.trace ≡ [] → g
    ≡ started_on s conditions → IsOf [] a → a.limit ≡ limit
    → IsLoggedRun next_hold IsAfter blocks budget h.counts.cycles first last g h a b
    → h.counts.cycles ≤ most_cycles budget → CountsCommits g h
    → ComesTo blocks g.window.state (budget - length g.window.state.trace) e h
    → HasLogged blocks s budget conditions first last limit e h b
has_logged blocks s budget first last limit conditions e g h a b fresh starts none limited run few commits comes =
    let began = started_cycles s conditions g starts in
    let made : h.counts.cycles ≡ h.counts.cycles - g.counts.cycles = omega (arith, began) in
    let from : IsLoggedRun next_hold IsAfter blocks budget h.counts.cycles first last (started_on s conditions) h a b =
    subst (λ (x : Grid AnyWeather). IsLoggedRun next_hold IsAfter blocks budget h.counts.cycles first last x h a b)
    starts run in
    record {
      ran = is_ran blocks s budget conditions (Some e) h fresh g starts
          (subst (λ n. IsRun next_hold IsAfter blocks budget n g h) made
          (is_run next_hold IsAfter blocks budget h.counts.cycles g h run.notes run.noted))
          (λ l. few) commits comes;
      notes = from.notes;
      noted = from.noted;
      logged = (from.keeps).behind [] none;
      limited = (from.keeps).limit ∙ limited;
    }
