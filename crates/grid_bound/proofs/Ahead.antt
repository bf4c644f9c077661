-- An event of another frame leaves the oldest frame as it is.
use Rattle.std.specs.List.{list_any}
use Rattle.std.proofs.Common.{◌≡◌, ℕ, ◌+◌, ◌*◌, ◌/◌, ◌%◌, ◌<◌, ◌==◌, true, false, cond, List, [], ◌∷◌, map}
use Rattle.std.proofs.Common.{ap, ◌∙◌, subst, arith}
use Rattle.std.proofs.lemmas.Bool.Decides.{nat_tests}
use Rattle.std.proofs.lemmas.Bool.{or_parts}
use Rattle.trips_isa.specs.declared.block.Block.{Block}
use Rattle.commit_flush_spec.specs.Causes.{Happened, Done, NotNow}
use Rattle.commit_flush_spec.specs.Frames.{Frame, token_places}
use Rattle.commit_flush_spec.specs.Older.{Older, after, committed}
use Rattle.commit_flush_spec.specs.Dataflow.{read, fire, deliver}
use Rattle.commit_flush_spec.specs.Memory.{load, store}
use Rattle.commit_flush_spec.specs.Ends.{exit, seal}
use Rattle.commit_flush_spec.specs.Window.{Window, Event, change, alone, can, done, if_done, happens}
use Rattle.commit_flush_spec.specs.Window as window
use Rattle.commit_flush_spec.specs.inside.Laws.{AreNumbers, WindowOk}
use Rattle.grid_bound.specs.inside.Behind.{Apart}

-- tests of numbers --------------------------------------------------------------------------------

-- that two numbers differ is told either way round
pub swapped : (m n : ℕ) → (m == n) ≡ false → (n == m) ≡ false
swapped m n e = grind (arith, nat_tests)

-- a number equals itself, as the test tells
pub same_number : (n : ℕ) → (n == n) ≡ true
same_number n = grind arith

-- the number of another frame
pub other_of : (n m k : ℕ) → (n == m) ≡ false → (k == m) ≡ true → (n == k) ≡ false
other_of n m k e h = let it : k ≡ m = grind (arith, nat_tests) in ap (λ z. n == z) it ∙ e

-- the frame of a place of all frames is told of its number
pub frame_of_place : (n p : ℕ) → p < 320 → (token_places * n + p) / token_places ≡ n
frame_of_place n p l = omega (arith, l)

-- the place in its frame is told of the number of a place of all frames
pub place_in_frame : (n p : ℕ) → p < 320 → (token_places * n + p) % token_places ≡ p
place_in_frame n p l = omega (arith, l)

-- frames of other numbers -------------------------------------------------------------------------

named_apart : (n : ℕ) (fs : List Frame) → list_any (λ m. m == n) (map (λ (f : Frame). f.number) fs) ≡ false
    → Apart n fs
named_apart n [] e = tt
named_apart n (f ∷ fs) e =
    let k = or_parts (f.number == n) (list_any (λ m. m == n) (map (λ (f : Frame). f.number) fs)) e in
    (swapped f.number n k.0, named_apart n fs k.1)

numbers_apart : (f : Frame) (fs : List Frame) → AreNumbers (map (λ (f : Frame). f.number) (f ∷ fs))
    → Apart f.number fs
numbers_apart f fs h = named_apart f.number fs h.1

-- the younger frames have other numbers than the oldest one
pub younger_apart : (blocks : List Block) (budget : ℕ) (w : Window) (f : Frame) (fs : List Frame)
    → WindowOk blocks budget w → w.frames ≡ f ∷ fs → Apart f.number fs
younger_apart blocks budget w f fs ok i =
    numbers_apart f fs (subst (λ l. AreNumbers (map (λ (f : Frame). f.number) l)) i ok.numbers)

-- events ------------------------------------------------------------------------------------------

-- an event of a frame of another number
abbrev pub IsOther : ℕ → Event → Type 0
IsOther n (window.Read m r) = (n == m) ≡ false
IsOther n (window.Fire m s) = (n == m) ≡ false
IsOther n (window.Deliver t) = (n == t / token_places) ≡ false
IsOther n (window.Load m k) = (n == m) ≡ false
IsOther n (window.Store m k) = (n == m) ≡ false
IsOther n (window.Exit m) = (n == m) ≡ false
IsOther n (window.Seal m) = (n == m) ≡ false
IsOther n _ = ⊥

-- only the frames change, and the oldest one is still f
abbrev pub Leads : Frame → Window → Window → Type 0
Leads f w v = (fs : List Frame) × (v ≡ record w { frames = f ∷ fs })

module _ (blocks : List Block) (budget : ℕ) (w : Window) (f : Frame) (fs : List Frame) (i : w.frames ≡ f ∷ fs) where
  by_change : (does : Older → Frame → List Frame → List Frame) (m : ℕ) → (f.number == m) ≡ false
      → Leads f w (record w { frames = change does (committed w.state) w.frames m })
  by_change does m e = (
    change does (after f (committed w.state)) fs m,
    ap (λ (l : List Frame). record w { frames = l }) (ap (λ l. change does (committed w.state) l m) i
        ∙ ap (λ b. cond b (does (committed w.state) f fs) (f ∷ change does (after f (committed w.state)) fs m)) e),
  )

  done_leads : (e : Event) → IsOther f.number e → Leads f w (done blocks e w)
  done_leads (window.Read m r) n = by_change (alone (read r)) m n
  done_leads (window.Fire m s) n = by_change (alone (fire s)) m n
  done_leads (window.Deliver t) n = by_change (alone (deliver (t % token_places))) (t / token_places) n
  done_leads (window.Load m k) n = by_change (alone (load k)) m n
  done_leads (window.Store m k) n = by_change (store k) m n
  done_leads (window.Exit m) n = by_change (exit blocks) m n
  done_leads (window.Seal m) n = by_change (alone seal) m n
  done_leads (window.Fetch k) n = absurd n
  done_leads (window.Flush m) n = absurd n
  done_leads window.Commit n = absurd n

  same_leads : Leads f w w
  same_leads = (fs, ap (λ (l : List Frame). record w { frames = l }) i)

  -- an event of another frame leaves the oldest frame and all but the frames
  pub event_leads : (e : Event) → IsOther f.number e → Leads f w (happens blocks budget e w)
  event_leads e n = go (can blocks budget e w)
    where
      go : (h : Happened) → Leads f w (if_done h (done blocks e w) w)
      go Done = done_leads e n
      go (NotNow c) = same_leads
