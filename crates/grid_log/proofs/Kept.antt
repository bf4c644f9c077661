-- The entries of notes stand for those that are kept.
use Rattle.std.proofs.Common.{◌≡◌, ℕ, cond, is_some, List, [], ◌∷◌, refl, ap, ap₂}
use Rattle.grid_events.specs.Notes.{Note, Why}
use Rattle.grid_events.specs.Notes as note
use Rattle.grid_log.specs.declared.log.Entry.{Entry}
use Rattle.grid_log.specs.Events.{cause_of, entries_of, event_of, first_of, kept_of, notes_of, why_of}

whys : (w : Why) → why_of (cause_of w) ≡ w
whys note.Violation = refl
whys note.WrongExit = refl
whys note.End = refl

-- a note before others
step : (c : ℕ) (x : Note) (xs : List Entry) (es : List Note) → notes_of xs ≡ es
    → notes_of (first_of c (event_of x) xs) ≡ cond (is_some (event_of x)) (x ∷ es) es
step c (note.Begins k careful) xs es e = ap (λ (l : List Note). note.Begins k careful ∷ l) e
step c (note.Predicts n k) xs es e = ap (λ (l : List Note). note.Predicts n k ∷ l) e
step c (note.GivesUp k) xs es e = ap (λ (l : List Note). note.GivesUp k ∷ l) e
step c (note.Fetches n k) xs es e = ap (λ (l : List Note). note.Fetches n k ∷ l) e
step c (note.Reads bank n r) xs es e = ap (λ (l : List Note). note.Reads bank n r ∷ l) e
step c (note.Works tile) xs es e = e
step c (note.Fires tile n s op) xs es e = ap (λ (l : List Note). note.Fires tile n s op ∷ l) e
step c (note.Delivers n p) xs es e = ap (λ (l : List Note). note.Delivers n p ∷ l) e
step c (note.Loads tile n m) xs es e = ap (λ (l : List Note). note.Loads tile n m ∷ l) e
step c (note.Stores tile n m null) xs es e = ap (λ (l : List Note). note.Stores tile n m null ∷ l) e
step c (note.Leaves n k) xs es e = ap (λ (l : List Note). note.Leaves n k ∷ l) e
step c (note.Seals n) xs es e = ap (λ (l : List Note). note.Seals n ∷ l) e
step c (note.Commits n k) xs es e = ap (λ (l : List Note). note.Commits n k ∷ l) e
step c (note.Traps n k) xs es e = ap (λ (l : List Note). note.Traps n k ∷ l) e
step c (note.Flushes n why) xs es e = ap₂ (λ (w : Why) (l : List Note). note.Flushes n w ∷ l) (whys why) e
step c (note.OnMesh m) xs es e = e

-- all notes
pub kept_is : (c : ℕ) (es : List Note) → notes_of (entries_of c es) ≡ kept_of es
kept_is c [] = refl
kept_is c (x ∷ es) = step c x (entries_of c es) (kept_of es) (kept_is c es)
