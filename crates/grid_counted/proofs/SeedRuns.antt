-- Counted runs from a start.
use Rattle.std.proofs.Common.{◌≡◌, ◌<◌, ◌≤◌, ℕ, ◌+◌, ◌-◌, ◌^◌, List, [], length, Some, sym, ◌∙◌, subst, arith}
use Rattle.trips_isa.specs.declared.block.Block.{Block}
use Rattle.trips_isa.specs.declared.run.Ending.{Ending}
use Rattle.trips_isa.specs.Machine.{State}
use Rattle.grid_cycle.specs.declared.weather.AnyWeather.{AnyWeather}
use Rattle.grid_cycle.specs.declared.conditions.Conditions.{Conditions}
use Rattle.commit_flush_spec.specs.inside.Invariant.{AllGood}
use Rattle.commit_flush_spec.specs.inside.Laws.{WindowOk}
use Rattle.grid_cycle_spec.specs.Grid.{Grid}
use Rattle.grid_events.specs.Notes.{Note}
use Rattle.grid_machine.specs.Answered.{ComesTo}
use Rattle.grid_cycle.specs.Conditions.{IsAfter, next_hold, predictor_of, started_on, weather_of}
use Rattle.grid_machine.specs.Tallies.{CountsCommits}
use Rattle.grid_machine.specs.WholeRuns.{IsRun, most_cycles}
use Rattle.grid_machine.specs.inside.WholeRuns.{IsKept}
use Rattle.grid_cycle.proofs.Starts.{is_ran, started_cycles}
use Rattle.grid_cycle.specs.inside.Engines.{IsEngine}
use Rattle.grid_cycle.proofs.EngineFacts.{begins}
use Rattle.grid_tallies.specs.declared.counters.Counters.{Counters}
use Rattle.grid_tallies.specs.declared.flights.Flights.{Flights}
use Rattle.grid_tallies.specs.Counters.{AreCountersOf}
use Rattle.grid_tallies.specs.Flights.{AreFlightsOf, BeganWithFew, Flown, begun_with, number_with}
use Rattle.grid_tallies.proofs.Hearing.{counters_of}
use Rattle.grid_counted.specs.Runs.{IsCountedRun, IsNotedRun}
use Rattle.grid_counted.specs.Seeds.{HasCounted}
use Rattle.grid_counted.specs.inside.Started.{IsStarted}
use Rattle.grid_counted.proofs.NotedRuns.{is_run}

-- a grid at its start keeps what stands of every grid between two calls
pub starts_engine : (blocks : List Block) (budget : ℕ) (g : Grid AnyWeather) → AllGood blocks → budget < 2 ^ 32
    → WindowOk blocks budget g.window → IsStarted g → IsKept budget g
    → IsEngine next_hold IsAfter blocks budget g
starts_engine blocks budget g good small ok started kept =
    begins next_hold IsAfter blocks budget started.state (predictor_of started.conditions)
    (weather_of started.conditions) g good small ok started.starts kept

-- numbers of no cycle, behind some, are of these
flights_of : (p q : Flights) (ess : List (List Note)) → AreFlightsOf [] p → Flown p 0 ess q → AreFlightsOf ess q
flights_of p q ess none flown = λ n less room.
    let zero : number_with n p ≡ 0 = none n less (omega arith) in
    let more : number_with n q ≡ number_with n p + begun_with n 0 ess = flown n less (omega (arith, zero, room)) in
    omega (arith, zero, more)

-- the notes of a run from a state, and the frames in flight as its cycles began
record Flew (s : State) (blocks : List Block) (budget : ℕ) (conditions : Conditions) (notes : List Note)
    (h : Grid AnyWeather) (p q : Flights) : Type 0 where
  noted : IsNotedRun next_hold IsAfter blocks budget h.counts.cycles (started_on s conditions) notes h
  flown : Flown p 0 noted.cycles q
  few : BeganWithFew 0 noted.cycles

-- a counted run from a start is a run under its conditions, and the counters are of its notes
pub has_counted : (blocks : List Block) (s : State) (budget : ℕ) (conditions : Conditions) (e : Ending)
    (g h : Grid AnyWeather)
    (a b : Counters) (p q : Flights) → s.trace ≡ [] → g ≡ started_on s conditions → AreCountersOf [] a
    → AreFlightsOf [] p
    → IsCountedRun next_hold IsAfter blocks budget h.counts.cycles g h a b p q
    → h.counts.cycles ≤ most_cycles budget → CountsCommits g h
    → ComesTo blocks g.window.state (budget - length g.window.state.trace) e h
    → HasCounted blocks s budget conditions e h b q
has_counted blocks s budget conditions e g h a b p q fresh starts none nil run few commits comes =
    let began = started_cycles s conditions g starts in
    let made : h.counts.cycles ≡ h.counts.cycles - g.counts.cycles = omega (arith, began) in
    let flew : Flew s blocks budget conditions run.notes h p q =
    subst (λ (x : Grid AnyWeather). (noted : IsNotedRun next_hold IsAfter blocks budget h.counts.cycles x run.notes h)
    → Flown p (length x.window.frames) noted.cycles q → BeganWithFew (length x.window.frames) noted.cycles
    → Flew s blocks budget conditions run.notes h p q) (sym starts)
    (λ noted flown few. record { noted = noted; flown = flown; few = few }) run.noted run.flown run.few in
    record {
      ran = is_ran blocks s budget conditions (Some e) h fresh g starts
          (subst (λ n. IsRun next_hold IsAfter blocks budget n g h) made
          (is_run next_hold IsAfter blocks budget h.counts.cycles g h run.notes run.noted))
          (λ l. few) commits comes;
      notes = run.notes;
      noted = flew.noted;
      counted = counters_of a b run.notes none run.heard;
      flown = flights_of p q (flew.noted).cycles nil flew.flown;
      few = flew.few;
    }
