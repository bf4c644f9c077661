-- Runs of the grid, and what is written of them.
use Rattle.std.proofs.Common.{◌≡◌, ℕ, ◌+◌, ◌≤◌, ◌<◌, true, false, List, length, slice_get, refl, sym, ap, ◌∙◌, subst}
use Rattle.std.proofs.Common.{Some, None, Result, Ok, Err, IfOk, true≢false, nat_lt, take}
use Rattle.std.proofs.lemmas.List.{get_or-drop}
use Rattle.std.proofs.lemmas.Option.{none-some, same_Some}
use Rattle.trips_isa.specs.declared.block.Block.{Block}
use Rattle.trips_isa.specs.declared.causes.TrapCause.{TrapCause}
use Rattle.trips_isa.specs.declared.run.Counts.{Counts}
use Rattle.trips_isa.specs.declared.run.Ending.{Ending}
use Rattle.trips_isa.specs.declared.run.Ending.TheVariants as ending
use Rattle.trips_isa.specs.declared.run.Stepped.{Stepped}
use Rattle.trips_isa.specs.declared.run.Stepped.TheVariants as stepped
use Rattle.trips_isa.specs.Machine.{State, runs}
use Rattle.grid_cycle.specs.declared.weather.AnyWeather.{AnyWeather}
use Rattle.grid_cycle.specs.declared.conditions.Conditions.{Conditions}
use Rattle.grid_cycle_spec.specs.Costs.{cost_in, cost_of, greatest_cost}
use Rattle.grid_cycle_spec.specs.Grid.{Grid}
use Rattle.grid_machine.specs.Answered.{ComesTo}
use Rattle.grid_machine.specs.Endings as endings
use Rattle.grid_cycle.specs.Conditions.{IsAfter, IsRanFrom, next_hold, started_on}
use Rattle.grid_cycle.specs.Traps.{is_trap}
use Rattle.grid_events.specs.Notes.{Note}
use Rattle.grid_tallies.specs.declared.statistic.Statistic.{Statistic}
use Rattle.grid_tallies.specs.declared.statistic.Statistic.TheVariants as statistic
use Rattle.grid_tallies.specs.declared.counters.Counters.{Counters}
use Rattle.grid_tallies.specs.declared.flights.Flights.{Flights}
use Rattle.grid_tallies.specs.Counters.{AreCountersOf}
use Rattle.grid_tallies.specs.Flights.{AreFlightsOf}
use Rattle.grid_tallies.specs.Statistics.{number_of}
use Rattle.grid_counted.specs.Runs.{HasNotes, end_notes}
use Rattle.grid_counted.specs.Seeds.{AreNotesFrom, HasCounted}
use Rattle.grid_counted.proofs.NotedRuns.{run_has_notes}
use Rattle.grid_log.specs.declared.log.Entry.{Entry}
use Rattle.grid_log.specs.declared.log.Log.{Log}
use Rattle.grid_log.specs.Logs.{Holds}
use Rattle.grid_logged.specs.Runs.{entries_between, run_entries}
use Rattle.grid_logged.specs.Seeds.{HasLogged}
use Rattle.trips_requests.specs.declared.commands.Cycles.{Cycles}
use Rattle.trips_report.specs.declared.measured.Measured.{Measured}
use Rattle.trips_report.specs.declared.show.Show.{Show}
use Rattle.trips_requests.specs.declared.answer.Answer.{Answer}
use Rattle.trips_requests.specs.declared.status.Status.{Status}
use Rattle.trips_report.specs.Endings.{status_of}
use Rattle.trips_report.specs.Runs.{uncounted}
use Rattle.trips_grid_answers.specs.Report.{ending_of, shown_report}
use Rattle.trips_grid_answers.specs.Events.{event_lines, lines_and_more, most_events}
use Rattle.trips_grid_answers.specs.Runs.{IsRunFrom}
use Rattle.trips_grid_answers.specs.Statistics.{AreStatistics, number_in}
use Rattle.trips_grid_answers.specs.inside.Logged.{lines_of, logged_of}
use Rattle.trips_grid_answers.specs.inside.Measured.{measured_of, statistics_of}
use Rattle.trips_grid_answers.specs.inside.Told.{TellsGrid}

-- a run of the grid ends as one of the machine
same_ending : (a : Stepped) (next : ℕ) → endings.ending_of a next ≡ ending_of a next
same_ending stepped.Went next = refl
same_ending stepped.Ended next = refl
same_ending stepped.StackFull next = refl
same_ending (stepped.Trap cause) next = refl

-- how the machine's run has ended
abbrev pub end_of : List Block → State → ℕ → Ending
end_of blocks s most = ending_of (runs blocks s most).1 (runs blocks s most).0.next

-- the number that is shown of a statistic
shown_number : (k : Statistic) (c : Counters) (f : Flights) → number_in k (statistics_of c f) ≡ number_of k c.tallies
shown_number statistic.Movs t f = refl
shown_number statistic.Nulls t f = refl
shown_number statistic.Useful t f = refl
shown_number statistic.Loads t f = refl
shown_number statistic.Stores t f = refl
shown_number statistic.Violations t f = refl
shown_number statistic.WrongExits t f = refl
shown_number statistic.Ends t f = refl
shown_number statistic.Predictions t f = refl
shown_number statistic.Parcels t f = refl
shown_number statistic.Links t f = refl
shown_number statistic.Waits t f = refl
shown_number (statistic.Station tile) c f = get_or-drop 12 (c.tallies).numbers tile 0

-- the statistics that are shown of counters are of the notes that these have heard
statistics_are : (cycles : List (List Note)) (notes : List Note) (c : Counters) (f : Flights) → AreCountersOf notes c
    → AreFlightsOf cycles f → AreStatistics cycles notes (statistics_of c f)
statistics_are cycles notes c f of flown = record {
  numbers = λ k room. shown_number k c f ∙ of.tallies k room;
  predicted = of.guesses.number;
  flown = flown;
}

-- what is told of the events of a run with these notes of its cycles, and this grid behind the last
abbrev pub Told : Show → ℕ → List (List Note) → Grid AnyWeather → Measured → Type 0
Told show most ess last m = show.stats ≡ false → (c : Cycles) → show.events ≡ Some c
    → m.events ≡ event_lines c ess (end_notes most last)

-- the lines of what a log holds of some events, and that there are more, are those that are told of them
held_lines : (limit : ℕ) (all : List Entry) (l : Log) → l.limit ≡ limit → Holds all l
    → lines_of l ≡ lines_and_more (take limit all) (nat_lt limit (length all))
held_lines limit all l is h =
    ap (λ (xs : List Entry). lines_and_more xs l.more) (h.first ∙ ap (λ n. take n all) is)
    ∙ ap (lines_and_more (take limit all)) (h.more ∙ ap (λ n. nat_lt n (length all)) is)

-- so they are those of the events of the cycles that are shown
lines_are : (c d : Cycles) (l : Log) (ess : List (List Note)) (end : List Note) → c ≡ d → l.limit ≡ most_events
    → Holds (entries_between c.first c.last (run_entries ess end)) l → lines_of l ≡ event_lines d ess end
lines_are c d l ess end e is h =
    held_lines most_events (entries_between c.first c.last (run_entries ess end)) l is h
    ∙ ap (λ (x : Cycles). event_lines x ess end) e

-- no more cycles than a trace costs and the block that trapped, which is one of the image
abbrev pub Trapped : List Block → State → ℕ → Conditions → Grid AnyWeather → Type 0
Trapped blocks s most conditions g = (block : ℕ) (cause : TrapCause)
    → IsRanFrom blocks s most conditions (Some (ending.Trap block cause)) g
    → (block < length blocks)
    × (g.counts.cycles ≤ cost_of blocks g.window.state.trace + cost_in (slice_get blocks block))

module _ (blocks : List Block) (s : State) (conditions : Conditions) (most : ℕ) (show : Show) where
  -- a run of the grid that has ended, with the answer that tells it
  grid_told : (answered : Status) (report : List ℕ) (seen : List Block) (e : Ending) (g : Grid AnyWeather)
      (m : Measured) (notes : List Note)
      → IsRanFrom blocks s most conditions (Some e) g → seen ≡ blocks → m.counts ≡ g.counts
      → (noted : AreNotesFrom blocks s most conditions notes g)
      → (show.stats ≡ true → AreStatistics noted.cycles notes m.statistics)
      → Told show most noted.cycles noted.last m
      → (is_trap e ≡ false → g.counts.cycles ≤ cost_of blocks g.window.state.trace)
      → g.counts.cycles ≤ cost_of blocks g.window.state.trace + greatest_cost → Trapped blocks s most conditions g
      → TellsGrid e seen g m show answered report → IsRunFrom blocks s conditions most show answered report
  grid_told answered report seen e g m notes ran same is noted statistics events within at_most trapped told =
      let c : ComesTo blocks s most e g = ran.comes in
      let ends : e ≡ end_of blocks s most =
      c.ending ∙ same_ending (runs blocks s most).1 (runs blocks s most).0.next in
      let ran_so : IsRanFrom blocks s most conditions (Some (end_of blocks s most)) g =
      subst (λ (x : Ending). IsRanFrom blocks s most conditions (Some x) g) ends ran in (
        m,
        record {
          grid = g;
          ran = ran_so;
          counted = is;
          notes = notes;
          noted = noted;
          statistics = statistics;
          events = events;
          within = λ none. subst (λ (k : Counts). k.cycles ≤ cost_of blocks (runs blocks s most).0.trace) (sym is)
              (subst (λ (t : State). g.counts.cycles ≤ cost_of blocks t.trace) c.state
              (within (ap is_trap ends ∙ none)));
          trapped = λ block cause at. subst (λ (k : Counts). k.cycles
              ≤ cost_of blocks (runs blocks s most).0.trace + cost_in (slice_get blocks block)) (sym is)
              (subst (λ (t : State). g.counts.cycles ≤ cost_of blocks t.trace + cost_in (slice_get blocks block))
              c.state
              (trapped block cause (subst (λ (x : Ending). IsRanFrom blocks s most conditions (Some x) g) at
              ran_so)).1);
          at_most = subst (λ (k : Counts). k.cycles
              ≤ cost_of blocks (runs blocks s most).0.trace + greatest_cost) (sym is)
              (subst (λ (t : State). g.counts.cycles ≤ cost_of blocks t.trace + greatest_cost) c.state at_most);
        },
        (
          told.0 ∙ ap (λ (x : Ending). status_of x g.window.state) ends
              ∙ ap (λ (t : State). status_of (end_of blocks s most) t) c.state,
          told.1 ∙ ap (λ (x : Ending). shown_report x g.window.state m
              (cost_of seen g.window.state.trace) show) ends
              ∙ ap (λ (bs : List Block). shown_report (end_of blocks s most) g.window.state
              m (cost_of bs g.window.state.trace) show) same
              ∙ ap (λ (t : State). shown_report (end_of blocks s most) t m (cost_of blocks t.trace) show) c.state,
        ),
      )

  module _ {E : Type 0} (seen : List Block) (e : Ending) (g : Grid AnyWeather) (r : Result Answer E)
      (same : seen ≡ blocks)
      (within : is_trap e ≡ false → IsRanFrom blocks s most conditions (Some e) g
      → g.counts.cycles ≤ cost_of blocks g.window.state.trace)
      (at_most : IsRanFrom blocks s most conditions (Some e) g
      → g.counts.cycles ≤ cost_of blocks g.window.state.trace + greatest_cost)
      (trapped : Trapped blocks s most conditions g) where
    -- the answer of a run that has ended
    ended_told : (r : Result Answer E) (m : Measured) (notes : List Note)
        → IsRanFrom blocks s most conditions (Some e) g → m.counts ≡ g.counts →
        (noted : AreNotesFrom blocks s most conditions notes g)
        → (show.stats ≡ true → AreStatistics noted.cycles notes m.statistics)
        → Told show most noted.cycles noted.last m
        → IfOk r (λ a. TellsGrid e seen g m show a.status a.report.items)
        → IfOk r (λ a. IsRunFrom blocks s conditions most show a.status a.report.items)
    ended_told (Err x) m notes ran is noted statistics events told = tt
    ended_told (Ok a) m notes ran is noted statistics events told =
        grid_told a.status a.report.items seen e g m notes ran same is noted statistics events (λ none. within none ran)
        (at_most ran) trapped told

    -- of which no statistics and no events are shown
    pub plain_told : IsRanFrom blocks s most conditions (Some e) g → show.stats ≡ false → show.events ≡ None
        → IfOk r (λ a. TellsGrid e seen g (uncounted g.counts) show a.status a.report.items)
        → IfOk r (λ a. IsRunFrom blocks s conditions most show a.status a.report.items)
    plain_told ran off untold told =
        let n : HasNotes next_hold IsAfter blocks most g.counts.cycles (started_on s conditions) g =
        run_has_notes next_hold IsAfter blocks most g.counts.cycles (started_on s conditions) g ran.run in
        ended_told r (uncounted g.counts) n.notes ran refl n.noted (λ on. absurd (true≢false (sym on ∙ off)))
        (λ o c at. absurd (none-some c (sym untold ∙ at))) told

    -- and one that was counted
    pub counted_told : (t : Counters) (f : Flights) → HasCounted blocks s most conditions e g t f → show.stats ≡ true
        → IfOk r (λ a. TellsGrid e seen g (measured_of g.counts t f) show a.status a.report.items)
        → IfOk r (λ a. IsRunFrom blocks s conditions most show a.status a.report.items)
    counted_told t f h on told = ended_told r (measured_of g.counts t f) h.notes h.ran refl h.noted
        (λ o. statistics_are (h.noted).cycles h.notes t f h.counted h.flown)
        (λ off. absurd (true≢false (sym on ∙ off))) told

    -- and one whose events were logged, those of some cycles
    pub logged_told : (c : Cycles) (l : Log) → HasLogged blocks s most conditions c.first c.last most_events e g l
        → l.lost ≡ false → show.stats ≡ false → show.events ≡ Some c
        → IfOk r (λ a. TellsGrid e seen g (logged_of g.counts l) show a.status a.report.items)
        → IfOk r (λ a. IsRunFrom blocks s conditions most show a.status a.report.items)
    logged_told c l h kept off on told = ended_told r (logged_of g.counts l) h.notes h.ran refl h.noted
        (λ o. absurd (true≢false (sym o ∙ off)))
        (λ o d at. lines_are c d l h.noted.cycles (end_notes most h.noted.last) (same_Some c d (sym on ∙ at)) h.limited
        (h.logged kept)) told
