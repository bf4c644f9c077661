-- The same frames kept by number, with an order of age beside them, as a machine keeps them.
use Rattle.std.specs.Prelude.{◌≡◌, ℕ, ◌==◌, cond, List, [], ◌∷◌, Option, Some, None}
use Rattle.commit_flush_spec.specs.Frames.{Frame, at}
use Rattle.commit_flush_spec.specs.Older.{Older, after}

-- a frame, where there is one, before others
abbrev pub before : Option Frame → List Frame → List Frame
before None fs = fs
before (Some f) fs = f ∷ fs

-- the frames in flight in order of age, where none stands in an empty slot
abbrev pub by_age : List (Option Frame) → List ℕ → List Frame
by_age slots [] = []
by_age slots (n ∷ ns) = before (at slots n) (by_age slots ns)

-- what the frame of a number sees
abbrev pub seen_at : Older → List Frame → ℕ → Older
seen_at o [] n = o
seen_at o (f ∷ fs) n = cond (f.number == n) o (seen_at (after f o) fs n)

-- every number of an order names a frame
abbrev pub AllThere : List (Option Frame) → List ℕ → Type 0
AllThere slots [] = Unit {0}
AllThere slots (n ∷ ns) = ((f : Frame) × (at slots n ≡ Some f)) × AllThere slots ns
