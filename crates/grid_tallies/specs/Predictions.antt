-- How right predictions are counted: the blocks that are guessed behind frames, and what becomes of them by notes.
use Rattle.std.specs.Prelude.{◌≡◌, ◌<◌, ℕ, ◌+◌, ◌^◌, ◌==◌, cond, List, [], ◌∷◌, Option, Some, None, slice_index_or}
use Rattle.grid_events.specs.Notes.{Note}
use Rattle.grid_events.specs.Guesses.{guesses_on, right, right_from}
use Rattle.grid_tallies.specs.declared.guess_table.Guesses.{Guesses}

-- the guesses that stand behind some notes, of those that stand before
abbrev pub guesses_behind : List Note → List (ℕ × ℕ) → List (ℕ × ℕ)
guesses_behind [] qs = qs
guesses_behind (x ∷ xs) qs = guesses_behind xs (guesses_on x qs)

-- the block that is guessed behind a frame
abbrev pub guess_of : ℕ → List (ℕ × ℕ) → Option ℕ
guess_of n [] = None
guess_of n (q ∷ qs) = cond (q.0 == n) (Some q.1) (guess_of n qs)

-- of each of the eight frames the guess that is kept is the one among these
abbrev pub Stand : List (ℕ × ℕ) → Guesses → Type 0
Stand qs g = (n : ℕ) → n < 8 → slice_index_or g.behind n None ≡ guess_of n qs

-- the second guesses are the first after these notes more
pub record Guessed (a : Guesses) (es : List Note) (b : Guesses) : Type 0 where
  -- those that stand are kept
  pub stand : (qs : List (ℕ × ℕ)) → Stand qs a → Stand (guesses_behind es qs) b
  -- the right ones are counted, while their number has room in 64 bits
  pub number : (qs : List (ℕ × ℕ)) → Stand qs a → a.right + right_from qs es < 2 ^ 64
      → b.right ≡ a.right + right_from qs es

-- some guesses are those of these notes, and their number that of the right predictions among them, while it has room
-- in 64 bits
pub record AreGuesses (es : List Note) (g : Guesses) : Type 0 where
  -- the guesses that stand behind the last note
  pub stand : Stand (guesses_behind es []) g
  -- how many predictions are right
  pub number : right es < 2 ^ 64 → g.right ≡ right es
