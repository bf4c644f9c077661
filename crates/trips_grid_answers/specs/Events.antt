-- The lines of events that a report shows, of what is noted of a run.
use Rattle.std.specs.Prelude.{ℕ, nat_lt, Bool, if◌then◌else◌, List, [], ◌++◌, length, take, codes}
use Rattle.grid_events.specs.Notes.{Note}
use Rattle.grid_log.specs.declared.log.Entry.{Entry}
use Rattle.grid_logged.specs.Runs.{entries_between, run_entries}
use Rattle.trips_event_lines.specs.Lines.{lines}
use Rattle.trips_requests.specs.declared.commands.Cycles.{Cycles}

-- how many events are told of a run at most
unfoldable pub most_events : ℕ
most_events = 1000000

-- the last line, where there are more events than are told
unfoldable pub more_line : List ℕ
more_line = codes "more\n"

-- the lines of some events, and the last line where there are more
abbrev pub lines_and_more : List Entry → Bool → List ℕ
lines_and_more xs more = lines xs ++ (if more then more_line else [])

-- the lines of as many of these events, from the first, as are told
abbrev pub told_lines : List Entry → List ℕ
told_lines xs = lines_and_more (take most_events xs) (nat_lt most_events (length xs))

-- the lines of the events of some cycles of a run, from what is noted of each of its cycles, of which that of the last
-- is given first, and what is noted at its end
abbrev pub event_lines : Cycles → List (List Note) → List Note → List ℕ
event_lines c ess end = told_lines (entries_between c.first c.last (run_entries ess end))
