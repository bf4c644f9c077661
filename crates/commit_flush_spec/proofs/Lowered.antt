-- Each next event lowers the work that is left, and the generation of frame 0 rises by one at most.
use Rattle.std.proofs.Common.{◌≡◌, ℕ, zero, suc, ◌+◌, ◌-◌, ◌*◌, ◌^◌, ◌<◌, ◌≤◌, List, []}
use Rattle.std.proofs.Common.{◌∷◌, ◌++◌, Option, Some, None, slice_get, slice_index, set, get_or}
use Rattle.std.proofs.Common.{length, refl, sym, ap}
use Rattle.std.proofs.Common.{ap₂, ◌∙◌, subst, arith}
use Rattle.trips_isa.specs.declared.block.Block.{Block}
use Rattle.trips_isa.specs.declared.run.Stepped.{Stepped}
use Rattle.trips_isa.specs.declared.run.Stepped.TheVariants.{Went, Ended, StackFull, Trap}
use Rattle.trips_isa.specs.Outcomes.{Outcome, Comes, Faults, unless}
use Rattle.trips_isa.specs.Machine.{State, apply}
use Rattle.commit_flush_spec.specs.Frames.{Frame, fresh}
use Rattle.commit_flush_spec.specs.Older.{Older, after, committed}
use Rattle.commit_flush_spec.specs.Causes.{Happened, Done, NotNow}
use Rattle.commit_flush_spec.specs.Ends.{outputs, cause_held}
use Rattle.commit_flush_spec.specs.InFlight.{commit_to}
use Rattle.commit_flush_spec.specs.Window.{Window, Event, lowest_empty, fetched, commit, can, done, if_done, happens}
use Rattle.commit_flush_spec.specs.Window as event
use Rattle.commit_flush_spec.specs.inside.Invariant.{FramesOk, AllGood}
use Rattle.commit_flush_spec.specs.inside.Laws.{WindowOk}
use Rattle.commit_flush_spec.proofs.Events.{taken}
use Rattle.commit_flush_spec.proofs.Applying.{apply_trace}
use Rattle.commit_flush_spec.specs.inside.NextEvent.{next_event}
use Rattle.commit_flush_spec.specs.inside.Work.{oldest_left, work_while, work}
use Rattle.commit_flush_spec.specs.inside.DrivingLaws.{MayFill, HasGenerations}
use Rattle.commit_flush_spec.proofs.Next.{Next, Fetches, Commits, Seals, Takes, parts, next_done}
use Rattle.commit_flush_spec.proofs.FramesSeen.{Lowers, step_lowers, seal_lowers, fresh_least, most_of}

-- fetches ----------------------------------------------------------------------------------------

-- each number below the count of blocks is that of a block
pub there : (blocks : List Block) (k : ℕ) → k < length blocks → (b : Block) × (slice_get blocks k ≡ Some b)
there [] k l = absurd (omega (arith, l))
there (b ∷ bs) zero l = (b, refl)
there (b ∷ bs) (suc k) l = there bs k (omega (arith, l))

-- a fetch fills frame 0 where no frame is in flight
pub fetch_lowers : (blocks : List Block) (w : Window) → w.state.next < length blocks → w.frames ≡ [] → (e : Event)
    → e ≡ event.Fetch w.state.next → Lowers blocks w e
fetch_lowers blocks w l i e z =
    let b = there blocks w.state.next l in
    subst (Lowers blocks w) (sym z) (record {
      state = fetch_state (lowest_empty 8 0 w.frames) (slice_get blocks w.state.next);
      over = fetch_over (lowest_empty 8 0 w.frames) (slice_get blocks w.state.next);
      less = (let is : oldest_left (done blocks (event.Fetch w.state.next) w).frames ≡ 609 =
          ap₂ (λ n o. oldest_left (fetched w.state.next n o w).frames) (ap (λ fs. lowest_empty 8 0 fs) i) b.1
          ∙ ap (λ fs. oldest_left (fs ++ fresh 0 w.state.next b.0 ∷ [])) i ∙ fresh_least 0 w.state.next b.0 in
          let was : oldest_left w.frames ≡ 610 = ap oldest_left i in
          omega (arith, is, was));
    })
  where
    fetch_state : (n : Option ℕ) (b : Option Block) → (fetched w.state.next n b w).state ≡ w.state
    fetch_state None b = refl
    fetch_state (Some n) None = refl
    fetch_state (Some n) (Some b) = refl

    fetch_over : (n : Option ℕ) (b : Option Block) → (fetched w.state.next n b w).over ≡ w.over
    fetch_over None b = refl
    fetch_over (Some n) None = refl
    fetch_over (Some n) (Some b) = refl

-- work -------------------------------------------------------------------------------------------

while_most : (o : Stepped) (n : ℕ) → work_while o n ≤ n
while_most Went n = omega arith
while_most Ended n = omega arith
while_most StackFull n = omega arith
while_most (Trap c) n = omega arith

work_going : (budget : ℕ) (w : Window) → w.over ≡ Went
    → work budget w ≡ (budget - length w.state.trace) * 1638 + oldest_left w.frames
work_going budget w o = ap (λ s. work_while s ((budget - length w.state.trace) * 1638 + oldest_left w.frames)) o

less_work : (budget : ℕ) (w v : Window) → w.over ≡ Went → v.state ≡ w.state → v.over ≡ w.over
    → oldest_left v.frames < oldest_left w.frames → work budget v < work budget w
less_work budget w v o s p l =
    let a = work_going budget w o in
    let b = work_going budget v (p ∙ o) in
    let t : length v.state.trace ≡ length w.state.trace = ap (λ (x : State). length x.trace) s in
    let c : (budget - length v.state.trace) * 1638 ≡ (budget - length w.state.trace) * 1638 =
    ap (λ n. (budget - n) * 1638) t in
    omega (arith, a, b, c, l)

commit_less : (blocks : List Block) (budget : ℕ) (w : Window) → w.over ≡ Went → length w.state.trace < budget
    → (f : Frame) (fs : List Frame) (o : Older) → FramesOk blocks o fs → (c : Outcome)
    → work budget (commit_to c f fs w) < work budget w
commit_less blocks budget w o room f fs p ok (Comes x) =
    let a = work_going budget w o in
    let n : length (apply f.code.writes.items x w.state).0.trace ≡ length w.state.trace + 1 =
    apply_trace f.code.writes.items x w.state in
    let m = while_most (apply f.code.writes.items x w.state).1
    ((budget - length (apply f.code.writes.items x w.state).0.trace) * 1638 + oldest_left fs) in
    let most = most_of blocks fs p ok in
    let k : suc (budget - length (apply f.code.writes.items x w.state).0.trace) ≡ budget - length w.state.trace =
    omega (arith, n, room) in
    let d : (budget - length w.state.trace) * 1638
    ≡ 1638 + (budget - length (apply f.code.writes.items x w.state).0.trace) * 1638 = omega (arith, k) in
    omega (arith, a, m, most, d)
commit_less blocks budget w o room f fs p ok (Faults x) =
    let a = work_going budget w o in
    let d : 1638 ≤ (budget - length w.state.trace) * 1638 = omega (arith, room) in
    omega (arith, a, d)

-- the next event lowers the work that is left
pub work_falls : (blocks : List Block) (budget : ℕ) (e : Event) (w : Window) → AllGood blocks
    → WindowOk blocks budget w → MayFill w → next_event budget w ≡ Some e
    → work budget (happens blocks budget e w) < work budget w
work_falls blocks budget e w good ok fill h =
    subst (λ v. work budget v < work budget w) (sym (taken blocks budget e w (next_done blocks budget e w ok fill h)))
    (by k.2)
  where
    k : (w.over ≡ Went) × (length w.state.trace < budget) × Next w e
    k = parts budget w e h

    falls : Lowers blocks w e → work budget (done blocks e w) < work budget w
    falls l = less_work budget w (done blocks e w) k.0 l.state l.over l.less

    by : Next w e → work budget (done blocks e w) < work budget w
    by (Fetches i z) = falls (fetch_lowers blocks w ok.next i e z)
    by (Seals f fs i s c z) = falls (seal_lowers blocks w f fs i s e z)
    by (Takes f fs i t) =
        falls (step_lowers blocks good w f fs i (subst (FramesOk blocks (committed w.state)) i ok.frames).2 e t)
    by (Commits f fs i s z) =
        let all : FramesOk blocks (committed w.state) (f ∷ fs) =
        subst (FramesOk blocks (committed w.state)) i ok.frames in
        subst (λ x. work budget (done blocks x w) < work budget w) (sym z)
        (subst (λ l. work budget (commit l w) < work budget w) (sym i)
        (commit_less blocks budget w k.0 k.1 f fs (after f (committed w.state)) all.3
        (unless (cause_held f) (outputs f))))

-- generations ------------------------------------------------------------------------------------

first_rises : (xs : List ℕ) (n : ℕ) → get_or (set xs n (get_or xs n 0 + 1)) 0 0 ≤ suc (get_or xs 0 0)
first_rises [] n = omega arith
first_rises (x ∷ xs) zero = omega arith
first_rises (x ∷ xs) (suc n) = omega arith

pub generation_rises : (blocks : List Block) (budget : ℕ) (e : Event) (w : Window)
    → slice_index (happens blocks budget e w).generations 0 ≤ suc (slice_index w.generations 0)
generation_rises blocks budget e w = go (can blocks budget e w)
  where
    fetches : (k : ℕ) (n : Option ℕ) (b : Option Block)
        → slice_index (fetched k n b w).generations 0 ≤ suc (slice_index w.generations 0)
    fetches k None b = omega arith
    fetches k (Some n) None = omega arith
    fetches k (Some n) (Some b) = first_rises w.generations n

    came : (c : Outcome) (f : Frame) (fs : List Frame)
        → slice_index (commit_to c f fs w).generations 0 ≤ suc (slice_index w.generations 0)
    came (Comes x) f fs = omega arith
    came (Faults x) f fs = omega arith

    commits : (l : List Frame) → slice_index (commit l w).generations 0 ≤ suc (slice_index w.generations 0)
    commits [] = omega arith
    commits (f ∷ fs) = came (unless (cause_held f) (outputs f)) f fs

    by : (e : Event) → slice_index (done blocks e w).generations 0 ≤ suc (slice_index w.generations 0)
    by (event.Fetch k) = fetches k (lowest_empty 8 0 w.frames) (slice_get blocks k)
    by (event.Read a b) = omega arith
    by (event.Fire a b) = omega arith
    by (event.Deliver a) = omega arith
    by (event.Load a b) = omega arith
    by (event.Store a b) = omega arith
    by (event.Exit a) = omega arith
    by (event.Seal a) = omega arith
    by (event.Flush a) = omega arith
    by event.Commit = commits w.frames

    go : (h : Happened) → slice_index (if_done h (done blocks e w) w).generations 0
        ≤ suc (slice_index w.generations 0)
    go Done = by e
    go (NotNow c) = omega arith

below_last : (a w l : ℕ) → a + w < l → 0 < w → a < l - 1
below_last a w l h p = omega (arith, h, p)

still_room : (a w b v l : ℕ) → a + w < l → b ≤ suc a → v < w → b + v < l
still_room a w b v l h r f = omega (arith, h, r, f)

-- where work is left, frame 0 may be filled
pub may_fill : (budget : ℕ) (w : Window) → HasGenerations budget w → 0 < work budget w → MayFill w
may_fill budget w h p = below_last (slice_index w.generations 0) (work budget w) (2 ^ 64) h p

-- where there is a next event, work is left
pub has_work : (budget : ℕ) (w : Window) (e : Event) → next_event budget w ≡ Some e → 0 < work budget w
has_work budget w e h =
    let k = parts budget w e h in
    let a = work_going budget w k.0 in
    let room : length w.state.trace < budget = k.1 in
    let d : 1638 ≤ (budget - length w.state.trace) * 1638 = omega (arith, room) in
    omega (arith, a, d)

-- an event that lowers the work that is left keeps generations for what is left
pub generations_last : (blocks : List Block) (budget : ℕ) (e : Event) (w : Window) → HasGenerations budget w
    → work budget (happens blocks budget e w) < work budget w → HasGenerations budget (happens blocks budget e w)
generations_last blocks budget e w h f =
    still_room (slice_index w.generations 0) (work budget w)
    (slice_index (happens blocks budget e w).generations 0) (work budget (happens blocks budget e w)) (2 ^ 64) h
    (generation_rises blocks budget e w) f
