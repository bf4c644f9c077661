-- How many events are left at most where the window is given its next event again and again: a number that each of
-- them lowers.
use Rattle.std.specs.Prelude.{ℕ, suc, ◌+◌, ◌-◌, ◌*◌, Bool, cond, ◌||◌, not, List, [], ◌∷◌, length, is_some, is_none}
use Rattle.std.specs.List.{count_by}
use Rattle.trips_isa.specs.declared.run.Stepped.{Stepped}
use Rattle.trips_isa.specs.declared.run.Stepped.TheVariants.{Went}
use Rattle.commit_flush_spec.specs.Frames.{Frame, at, numbers}
use Rattle.commit_flush_spec.specs.Ends.{all_below}
use Rattle.commit_flush_spec.specs.Window.{Window}
use Rattle.commit_flush_spec.specs.inside.NextEvent.{stores_came}

-- the events of a frame until it is sealed: three for a read (itself and two deliveries), four for an instruction (it
-- fires, is answered, and two deliveries), one for a token on its way, three for what waits at a number, one for a
-- branch that waits, and the Seal
abbrev pub events_left : Frame → ℕ
events_left f = 3 * count_by not f.reads + (4 * count_by not f.fired + (count_by is_some f.places
    + (3 * count_by is_some f.requests + (cond (is_some f.leaving) 1 0 + cond f.sealed 0 1))))

-- the most that a frame has left: 32 reads, 128 slots, 320 places, 32 numbers, a branch and a Seal
abbrev pub most_left : ℕ
most_left = 1026

-- a frame that has just been filled, with the Fetch that filled it
abbrev pub anew : ℕ
anew = 610

-- whether each answered load had all stores of lower numbers, so that no store of the frame finds it wrong
abbrev pub none_guessed : Frame → Bool
none_guessed f = all_below (λ n. is_none (at f.loads n) || stores_came f n) numbers

-- a frame whose load was guessed may be flushed once by a store of its own, and its block is fetched anew
abbrev pub reserve : Frame → ℕ
reserve f = cond (none_guessed f) 0 (suc anew)

-- what is left of the oldest frame, and without one of the next
abbrev pub oldest_left : List Frame → ℕ
oldest_left [] = anew
oldest_left (f ∷ fs) = events_left f + reserve f

-- the most that a frame costs with its Commit: most_left, the reserve, and one
abbrev pub price : ℕ
price = 1638

-- nothing is left once the run has ended
abbrev pub work_while : Stepped → ℕ → ℕ
work_while Went n = n
work_while o n = 0

-- how many events are left at most
abbrev pub work : ℕ → Window → ℕ
work budget w = work_while w.over ((budget - length w.state.trace) * price + oldest_left w.frames)
