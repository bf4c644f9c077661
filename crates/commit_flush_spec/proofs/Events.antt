-- What an event leaves: nothing changes where it is refused, and a flush leaves a beginning of the frames.
use Rattle.std.proofs.Common.{◌≡◌, ℕ, suc, ◌+◌, ◌-◌, ◌<◌, ◌≤◌, Bool, true, false, cond, ◌||◌, ◌==◌, List, [], ◌∷◌}
use Rattle.std.proofs.Common.{replicate, Option, Some, None, slice_get, length, refl, sym, ap, ◌∙◌, subst}
use Rattle.std.proofs.Common.{arith}
use Rattle.std.proofs.lemmas.List.{length-append, length-replicate}
use Rattle.trips_isa.specs.declared.block.Block.{Block}
use Rattle.trips_isa.specs.TrapCauses.{cause_of}
use Rattle.trips_isa.specs.Stores.{data_size}
use Rattle.trips_isa.specs.Machine.{come_to, memory_of, start}
use Rattle.trips_isa.specs.declared.run.Stepped.TheVariants.{Trap}
use Rattle.trips_isa.specs.Outcomes.{Outcome, Comes, Faults, unless}
use Rattle.commit_flush_spec.specs.Frames.{Frame}
use Rattle.commit_flush_spec.specs.Older.{Older, after, committed}
use Rattle.commit_flush_spec.specs.Causes.{Cause, Happened, Done, NotNow}
use Rattle.commit_flush_spec.specs.Ends.{outputs, cause_held}
use Rattle.commit_flush_spec.specs.InFlight.{commit_to}
use Rattle.commit_flush_spec.specs.Window.{Window, Event, on_frame, change, flush, in_flight, lowest_empty}
use Rattle.commit_flush_spec.specs.Window.{fetched, commit, can, can_now, done, if_done, happens, opened}
use Rattle.commit_flush_spec.specs.Window as event
use Rattle.commit_flush_spec.specs.inside.Laws.{IsBeginning, WindowOk}

-- an event that is refused changes nothing
pub refused : (blocks : List Block) (budget : ℕ) (e : Event) (w : Window) (c : Cause)
    → can blocks budget e w ≡ NotNow c → happens blocks budget e w ≡ w
refused blocks budget e w c h = ap (λ x. if_done x (done blocks e w) w) h

-- an event that may happen does what it is defined to do
pub taken : (blocks : List Block) (budget : ℕ) (e : Event) (w : Window) → can blocks budget e w ≡ Done
    → happens blocks budget e w ≡ done blocks e w
taken blocks budget e w h = ap (λ x. if_done x (done blocks e w) w) h

-- flushes ----------------------------------------------------------------------------------------

flushed_out : (o : Older) (fs : List Frame) (n : ℕ) → in_flight n (change flush o fs n) ≡ false
flushed_out o [] n = refl
flushed_out o (f ∷ fs) n = go (f.number == n) refl (flushed_out (after f o) fs n)
  where
    go : (b : Bool) → (f.number == n) ≡ b → in_flight n (change flush (after f o) fs n) ≡ false
        → in_flight n (cond b [] (f ∷ change flush (after f o) fs n)) ≡ false
    go true e h = refl
    go false e h = ap (λ x. x || in_flight n (change flush (after f o) fs n)) e ∙ h

beginning : (o : Older) (fs : List Frame) (n : ℕ) → IsBeginning (change flush o fs n) fs
beginning o [] n = ([], refl)
beginning o (f ∷ fs) n = go (f.number == n) (beginning (after f o) fs n)
  where
    go : (b : Bool) → IsBeginning (change flush (after f o) fs n) fs
        → IsBeginning (cond b [] (f ∷ change flush (after f o) fs n)) (f ∷ fs)
    go true h = (f ∷ fs, refl)
    go false h = (h.0, ap (λ x. f ∷ x) h.1)

-- a Flush leaves a beginning of the frames, without the frame that it names
pub flush_leaves : (blocks : List Block) (budget n : ℕ) (w : Window) → can blocks budget (event.Flush n) w ≡ Done
    → (in_flight n (happens blocks budget (event.Flush n) w).frames ≡ false)
    × IsBeginning (happens blocks budget (event.Flush n) w).frames w.frames
flush_leaves blocks budget n w h =
    let same : (happens blocks budget (event.Flush n) w).frames ≡ change flush (committed w.state) w.frames n =
    ap (λ (x : Window). x.frames) (taken blocks budget (event.Flush n) w h) in (
      ap (in_flight n) same ∙ flushed_out (committed w.state) w.frames n,
      subst (λ x. IsBeginning x w.frames) (sym same) (beginning (committed w.state) w.frames n),
    )

-- commits ----------------------------------------------------------------------------------------

-- Commit applies the oldest frame's outputs to the state, or ends the run by its fault
pub commit_applies : (blocks : List Block) (budget : ℕ) (w : Window) (f : Frame) (fs : List Frame)
    → w.frames ≡ f ∷ fs → can blocks budget event.Commit w ≡ Done
    → ((happens blocks budget event.Commit w).state, (happens blocks budget event.Commit w).over)
    ≡ come_to f.code.writes.items (unless (cause_held f) (outputs f)) w.state
commit_applies blocks budget w f fs e h =
    ap (λ (x : Window). (x.state, x.over)) (taken blocks budget event.Commit w h ∙ ap (λ l. commit l w) e)
    ∙ by (unless (cause_held f) (outputs f))
  where
    by : (o : Outcome) → ((commit_to o f fs w).state, (commit_to o f fs w).over)
        ≡ come_to f.code.writes.items o w.state
    by (Comes x) = refl
    by (Faults c) = refl

-- a commit that traps flushes all frames
pub commit_traps : (blocks : List Block) (budget c : ℕ) (w : Window) (f : Frame) (fs : List Frame)
    → w.frames ≡ f ∷ fs → can blocks budget event.Commit w ≡ Done → cause_held f ≡ suc c
    → happens blocks budget event.Commit w ≡ record w { over = Trap (cause_of (suc c)); frames = [] }
commit_traps blocks budget c w f fs e h z =
    taken blocks budget event.Commit w h ∙ ap (λ l. commit l w) e
    ∙ ap (λ k. commit_to (unless k (outputs f)) f fs w) z

-- another event leaves the state
pub state_stays : (blocks : List Block) (budget : ℕ) (e : Event) (w : Window) → (e ≡ event.Commit → ⊥)
    → (happens blocks budget e w).state ≡ w.state
state_stays blocks budget e w n = go (can blocks budget e w)
  where
    fetches : (k : ℕ) (o : Option ℕ) (b : Option Block) → (fetched k o b w).state ≡ w.state
    fetches k None b = refl
    fetches k (Some m) None = refl
    fetches k (Some m) (Some b) = refl

    by : (e : Event) → (e ≡ event.Commit → ⊥) → (done blocks e w).state ≡ w.state
    by (event.Fetch k) n = fetches k (lowest_empty 8 0 w.frames) (slice_get blocks k)
    by (event.Read a b) n = refl
    by (event.Fire a b) n = refl
    by (event.Deliver a) n = refl
    by (event.Load a b) n = refl
    by (event.Store a b) n = refl
    by (event.Exit a) n = refl
    by (event.Seal a) n = refl
    by (event.Flush a) n = refl
    by event.Commit n = absurd (n refl)

    go : (h : Happened) → (if_done h (done blocks e w) w).state ≡ w.state
    go Done = by e n
    go (NotNow c) = refl

-- the start --------------------------------------------------------------------------------------

memory_size : (bytes : List ℕ) → length bytes ≤ data_size → length (memory_of bytes) ≡ data_size
unfolding memory_of
memory_size bytes l = length-append bytes (replicate (data_size - length bytes) 0)
    ∙ ap (λ n. length bytes + n) (length-replicate (data_size - length bytes) 0) ∙ (omega arith)

-- a window that opens on blocks and on data that fits has the invariant
pub opens : (blocks : List Block) (budget : ℕ) (bytes input : List ℕ) → 0 < length blocks → length bytes ≤ data_size
    → WindowOk blocks budget (opened (start bytes input))
opens blocks budget bytes input some few = record {
  frames = tt;
  kept = tt;
  numbers = tt;
  whole = record { registers = length-replicate {A = ℕ} 128 0; memory = memory_size bytes few };
  spent = omega arith;
  next = some;
}
