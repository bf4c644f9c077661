-- Which of several a station takes: the eldest, by age and then by number (docs/GRID.md, "Choosing").
use Rattle.std.specs.Prelude.{ℕ, zero, suc, ◌==◌, Bool, cond, List, [], ◌∷◌, Option, Some, None}
use Rattle.commit_flush_spec.specs.Frames.{Frame}

-- the least of n numbers from k on for which a test holds
abbrev pub least : (ℕ → Bool) → ℕ → ℕ → Option ℕ
least test zero k = None
least test (suc n) k = cond (test k) (Some k) (least test n (suc k))

-- a frame's number beside what was found in it, or what was found behind it
abbrev pub found_in : Frame → Option ℕ → Option (ℕ × ℕ) → Option (ℕ × ℕ)
found_in f None behind = behind
found_in f (Some k) behind = Some (f.number, k)

-- the first frame by age with a number below n for which a test holds, and the least such number
abbrev pub eldest : (Frame → ℕ → Bool) → ℕ → List Frame → Option (ℕ × ℕ)
eldest test n [] = None
eldest test n (f ∷ fs) = found_in f (least (test f) n 0) (eldest test n fs)

-- what is done with the frame of a number, where it is in flight
abbrev pub with_frame : {A : Type 0} → ℕ → (Frame → A → A) → List Frame → A → A
with_frame n does [] g = g
with_frame n does (f ∷ fs) g = cond (f.number == n) (does f g) (with_frame n does fs g)

-- the first n stations act one after another, in ascending number
abbrev pub each : {A : Type 0} → (ℕ → A → A) → ℕ → A → A
each turn zero g = g
each turn (suc n) g = turn n (each turn n g)

-- how many slots a block has, how many reads and load/store numbers at most, and how many places a frame; not
-- an `abbrev`, since a numeral unrolls recursions in goals
unfoldable pub slots : ℕ
slots = 128

-- how many reads a block has at most, and how many load/store numbers
unfoldable pub reads : ℕ
reads = 32
