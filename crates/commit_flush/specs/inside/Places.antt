-- Beside what is believed of Places.antt: frames by age.
use Rattle.std.specs.Prelude.{ℕ, suc, ◌==◌, cond, List, [], ◌∷◌, Option, Some, None, slice_set}
use Rattle.commit_flush_spec.specs.Frames.{Frame}
use Rattle.commit_flush_spec.specs.InFlight.{lowest_empty}
use Rattle.commit_flush.specs.Places.{numbers_of}

-- one place later, where there is one
abbrev pub later : Option ℕ → Option ℕ
later None = None
later (Some a) = Some (suc a)

-- the place of a number in an order
abbrev pub place_of : ℕ → List ℕ → Option ℕ
place_of n [] = None
place_of n (m ∷ ms) = cond (m == n) (Some 0) (later (place_of n ms))

-- the age of the frame of a number, the oldest having age 0
abbrev pub age_of : ℕ → List Frame → Option ℕ
age_of n fs = place_of n (numbers_of fs)

-- the frame of a number
abbrev pub frame_of : ℕ → List Frame → Option Frame
frame_of n [] = None
frame_of n (f ∷ fs) = cond (f.number == n) (Some f) (frame_of n fs)

-- the lowest of the eight numbers that no frame in flight has; not an `abbrev`, since a numeral unrolls recursions in
-- goals
unfoldable pub free_number : List Frame → Option ℕ
free_number fs = lowest_empty 8 0 fs

-- the frames by number without those of some numbers
abbrev pub cleared : List ℕ → List (Option Frame) → List (Option Frame)
cleared [] slots = slots
cleared (n ∷ ns) slots = cleared ns (slice_set slots n None)
