-- Which predictions are right: a guess stands until its frame's exit comes, and is right where that names its block.
use Rattle.std.specs.Prelude.{ℕ, ◌+◌, ◌==◌, Bool, false, cond, List, [], ◌∷◌, Option, Some, None}
use Rattle.grid_events.specs.Notes.{Note, Predicts, Fetches, Leaves}
use Rattle.grid_events.specs.Counts.{one_if}

-- the guesses that stand, each a frame's number and the block predicted behind it; all but those of a number
abbrev pub but : ℕ → List (ℕ × ℕ) → List (ℕ × ℕ)
but n [] = []
but n (q ∷ qs) = cond (q.0 == n) (but n qs) (q ∷ but n qs)

-- whether a block was guessed behind a frame
abbrev pub guessed : ℕ → Option ℕ → List (ℕ × ℕ) → Bool
guessed n k [] = false
guessed n None (q ∷ qs) = false
guessed n (Some k) (q ∷ qs) = cond (q.0 == n) (q.1 == k) (guessed n (Some k) qs)

-- a prediction is a guess until its frame's exit comes, or the frame is filled anew
abbrev pub guesses_on : Note → List (ℕ × ℕ) → List (ℕ × ℕ)
guesses_on (Predicts n k) qs = (n, k) ∷ but n qs
guesses_on (Fetches n k) qs = but n qs
guesses_on (Leaves n k) qs = but n qs
guesses_on _ qs = qs

-- one, where an exit comes that names what was guessed
abbrev pub right_on : Note → List (ℕ × ℕ) → ℕ
right_on (Leaves n k) qs = one_if (guessed n k qs)
right_on _ qs = 0

-- the right predictions among some notes, with the guesses that stand before
abbrev pub right_from : List (ℕ × ℕ) → List Note → ℕ
right_from qs [] = 0
right_from qs (x ∷ xs) = right_on x qs + right_from (guesses_on x qs) xs

-- the right predictions of a run
abbrev pub right : List Note → ℕ
right xs = right_from [] xs
