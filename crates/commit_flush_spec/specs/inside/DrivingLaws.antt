-- Beside what is believed of DrivingLaws.antt: the words of the laws of progress.
use Rattle.std.specs.Prelude.{◌≡◌, ◌≢◌, ℕ, suc, ◌+◌, ◌-◌, ◌^◌, ◌<◌, ◌⊎◌, ◌↔◌, Bool, true, false, not}
use Rattle.std.specs.Prelude.{List, [], ◌∷◌, None, slice_index}
use Rattle.trips_isa.specs.Machine.{State}
use Rattle.commit_flush_spec.specs.Frames.{Frame, at, target, is_target}
use Rattle.commit_flush_spec.specs.Ends.{complete}
use Rattle.commit_flush_spec.specs.Window.{Window, Event}
use Rattle.commit_flush_spec.specs.Window as event
use Rattle.commit_flush_spec.specs.inside.NextEvent.{stores_came}
use Rattle.commit_flush_spec.specs.inside.Work.{none_guessed, work}
use Rattle.commit_flush_spec.specs.DrivingLaws.{is_step_of}

-- whether an event answers a load of frame f before a store that it may have to see
abbrev pub is_guess : Frame → Event → Bool
is_guess f (event.Load m k) = not (stores_came f k)
is_guess f _ = false

-- what the next event may be: the committed next block is fetched where no frame is in flight; a sealed oldest frame
-- is committed, one with all outputs is sealed, and any other takes a step that is no guess
abbrev pub IsNextIn : List Frame → State → Event → Type 0
IsNextIn [] s e = e ≡ event.Fetch s.next
IsNextIn (f ∷ fs) s e = ((f.sealed ≡ true) × (e ≡ event.Commit))
    ⊎ (((complete f ≡ true) × (e ≡ event.Seal f.number))
    ⊎ ((is_step_of f.number e ≡ true) × (is_guess f e ≡ false)))

-- frame 0 may be filled once more
abbrev pub MayFill : Window → Type 0
MayFill w = slice_index w.generations 0 < 2 ^ 64 - 1

-- and as often as events are left
abbrev pub HasGenerations : ℕ → Window → Type 0
HasGenerations budget w = slice_index w.generations 0 + work budget w < 2 ^ 64

-- there is an oldest frame, and no load of it was guessed
abbrev pub StaysOldest : List Frame → Type 0
StaysOldest [] = ⊥
StaysOldest (f ∷ fs) = none_guessed f ≡ true

-- after a node has sent its token from the places p and p + 1, place q is filled where it was before, or where it is
-- one of these two and has a target
abbrev pub IsFilled : Frame → Frame → ℕ → ℕ → Type 0
IsFilled f g p q = (at g.places q ≢ None) ↔ ((at f.places q ≢ None)
    ⊎ (((q ≡ p) ⊎ (q ≡ suc p)) × (is_target (target f.code q) ≡ true)))
