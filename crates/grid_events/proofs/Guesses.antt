-- No more predictions are right than were made: each right one takes away a guess that stood.
use Rattle.std.proofs.Common.{◌≤◌, ℕ, suc, ◌+◌, ◌==◌, Bool, true, false, cond, List, [], ◌∷◌, length}
use Rattle.std.proofs.Common.{Option, Some, None, arith}
use Rattle.grid_events.specs.Notes.{Note}
use Rattle.grid_events.specs.Notes as note
use Rattle.grid_events.specs.Counts.{tally, one_if}
use Rattle.grid_events.specs.Guesses.{but, guessed, guesses_on, right_on, right_from, right}
use Rattle.grid_events.specs.Counts as count

but_less : (n : ℕ) (qs : List (ℕ × ℕ)) → length (but n qs) ≤ length qs
but_less n [] = omega arith
but_less n (q ∷ qs) = go (q.0 == n) (but_less n qs)
  where
    go : (b : Bool) → length (but n qs) ≤ length qs
        → length (cond b (but n qs) (q ∷ but n qs)) ≤ suc (length qs)
    go true h = omega (arith, h)
    go false h = omega (arith, h)

taken : (n k : ℕ) (qs : List (ℕ × ℕ)) → one_if (guessed n (Some k) qs) + length (but n qs) ≤ length qs
taken n k [] = omega arith
taken n k (q ∷ qs) = go (q.0 == n) (q.1 == k) (but_less n qs) (taken n k qs)
  where
    go : (b c : Bool) → length (but n qs) ≤ length qs
        → one_if (guessed n (Some k) qs) + length (but n qs) ≤ length qs
        → one_if (cond b c (guessed n (Some k) qs)) + length (cond b (but n qs) (q ∷ but n qs)) ≤ suc (length qs)
    go true true h t = omega (arith, h)
    go true false h t = omega (arith, h)
    go false c h t = omega (arith, t)

leaves : (n : ℕ) (o : Option ℕ) (qs : List (ℕ × ℕ)) → one_if (guessed n o qs) + length (but n qs) ≤ length qs
leaves n (Some k) qs = taken n k qs
leaves n None [] = omega arith
leaves n None (q ∷ qs) = let h = but_less n (q ∷ qs) in omega (arith, h)

step : (x : Note) (qs : List (ℕ × ℕ)) → right_on x qs + length (guesses_on x qs) ≤ length qs + count.predicted x
step (note.Begins k c) qs = omega arith
step (note.Predicts n k) qs = let h = but_less n qs in omega (arith, h)
step (note.GivesUp k) qs = omega arith
step (note.Fetches n k) qs = let h = but_less n qs in omega (arith, h)
step (note.Reads bank n r) qs = omega arith
step (note.Works tile) qs = omega arith
step (note.Fires tile n s op) qs = omega arith
step (note.Delivers n p) qs = omega arith
step (note.Loads tile n m) qs = omega arith
step (note.Stores tile n m null) qs = omega arith
step (note.Leaves n k) qs = let h = leaves n k qs in omega (arith, h)
step (note.Seals n) qs = omega arith
step (note.Commits n k) qs = omega arith
step (note.Traps n k) qs = omega arith
step (note.Flushes n why) qs = omega arith
step (note.OnMesh m) qs = omega arith

all_steps : (es : List Note) (qs : List (ℕ × ℕ)) → right_from qs es ≤ length qs + tally count.predicted es
all_steps [] qs = omega arith
all_steps (x ∷ es) qs =
    let h = step x qs in
    let k = all_steps es (guesses_on x qs) in
    omega (arith, h, k)

pub right_made : (es : List Note) → right es ≤ tally count.predicted es
right_made es = let h : right_from [] es ≤ 0 + tally count.predicted es = all_steps es [] in omega (arith, h)
