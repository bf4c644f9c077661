-- A window in which driving alone has filled frames has one at most, and each block takes fewer events.
use Rattle.std.proofs.Common.{◌≡◌, ◌≢◌, ℕ, zero, suc, ◌+◌, ◌-◌, ◌*◌, ◌/◌, ◌%◌, ◌<◌, ◌≤◌, Bool}
use Rattle.std.proofs.Common.{true, false, cond, ◌==◌}
use Rattle.std.proofs.Common.{inl, inr, List, [], ◌∷◌, ◌++◌, Option, Some, None, length, refl, sym, ap}
use Rattle.std.proofs.Common.{ap₂, ◌∙◌, subst, arith}
use Rattle.trips_isa.specs.declared.block.Inst.{Inst}
use Rattle.trips_isa.specs.declared.block.Block.{Block}
use Rattle.trips_isa.specs.declared.run.Stepped.TheVariants.{Went}
use Rattle.trips_isa.specs.Machine.{State}
use Rattle.trips_isa.specs.Outcomes.{Outcome, Comes, Faults, unless}
use Rattle.trips_isa.specs.Stores.{stored_of}
use Rattle.commit_flush_spec.specs.Frames.{Frame, at, fresh, numbers, slot_node}
use Rattle.commit_flush_spec.specs.Sending.{mark_with}
use Rattle.commit_flush_spec.specs.Older.{Older, after, passes, nearest, violated, cut, committed, follows}
use Rattle.commit_flush_spec.specs.Older.{successor_of}
use Rattle.commit_flush_spec.specs.Causes.{Done}
use Rattle.commit_flush_spec.specs.Dataflow.{read, fire, deliver}
use Rattle.commit_flush_spec.specs.Memory.{request, load, store, store_resolved, with_store}
use Rattle.commit_flush_spec.specs.Ends.{outputs, cause_held, exit, exit_by, branch_of, kept, seal}
use Rattle.commit_flush_spec.specs.InFlight.{commit_to}
use Rattle.commit_flush_spec.specs.Window.{Window, Event, change, alone, lowest_empty, fetched, commit, can, done}
use Rattle.commit_flush_spec.specs.Window.{happens}
use Rattle.commit_flush_spec.specs.Window as event
use Rattle.commit_flush_spec.specs.inside.Invariant.{FramesOk, AllGood}
use Rattle.commit_flush_spec.specs.inside.Laws.{WindowOk}
use Rattle.commit_flush_spec.proofs.Events.{taken}
use Rattle.commit_flush_spec.specs.inside.NextEvent.{next_event}
use Rattle.commit_flush_spec.specs.inside.Work.{none_guessed, oldest_left}
use Rattle.commit_flush_spec.specs.inside.Driving.{given, drives}
use Rattle.commit_flush_spec.specs.inside.DrivingLaws.{MayFill, HasGenerations, StaysOldest}
use Rattle.commit_flush_spec.proofs.Next.{Next, Fetches, Commits, Seals, Takes, parts, next_done, none_after}
use Rattle.commit_flush_spec.proofs.Steps.{Stepping, Delivers, Fires, Reads, Stores, Loads, Exits}
use Rattle.commit_flush_spec.proofs.FramesSeen.{Lowers, step_lowers, seal_lowers, fresh_unguessed}
use Rattle.commit_flush_spec.proofs.Lowered.{fetch_lowers, there, may_fill, has_work}
use Rattle.commit_flush_spec.proofs.DrivingEnds.{Onward, onward, rests}
use Rattle.commit_flush_spec.proofs.Runs.{went_or, trace_grows}
use Rattle.commit_flush_spec.proofs.Unflushed.{step_stays, oldest_stays}

-- one frame is in flight at most, and no load of it was guessed
abbrev pub AreLone : List Frame → Type 0
AreLone [] = Unit {0}
AreLone (f ∷ []) = none_guessed f ≡ true
AreLone (f ∷ g ∷ fs) = ⊥

lone_from : (fs : List Frame) → StaysOldest fs → length fs ≤ 1 → AreLone fs
lone_from [] s l = tt
lone_from (f ∷ []) s l = s
lone_from (f ∷ g ∷ fs) s l = absurd (omega (arith, l))

lone_head : (f : Frame) (fs : List Frame) → AreLone (f ∷ fs) → (none_guessed f ≡ true) × (fs ≡ [])
lone_head f [] h = (h, refl)
lone_head f (g ∷ fs) h = absurd h

-- no event but a Fetch adds a frame --------------------------------------------------------------

change_size : (does : Older → Frame → List Frame → List Frame)
    → ((o : Older) (f : Frame) (fs : List Frame) → length (does o f fs) ≤ suc (length fs))
    → (o : Older) (fs : List Frame) (n : ℕ) → length (change does o fs n) ≤ length fs
change_size does h o [] n = omega arith
change_size does h o (f ∷ fs) n = go (f.number == n) (change_size does h (after f o) fs n)
  where
    go : (b : Bool) → length (change does (after f o) fs n) ≤ length fs
        → length (cond b (does o f fs) (f ∷ change does (after f o) fs n)) ≤ suc (length fs)
    go true r = h o f fs
    go false r = omega (arith, r)

alone_size : (does : Older → Frame → Frame) (o : Older) (f : Frame) (fs : List Frame)
    → length (alone does o f fs) ≤ suc (length fs)
alone_size does o f fs = omega arith

cut_size : (touched : ℕ → Bool) (fs : List Frame) → length (cut touched fs) ≤ length fs
cut_size touched [] = omega arith
cut_size touched (f ∷ fs) =
    go (violated (λ n. passes (at f.stores) n touched) f.loads) (cut_size (passes (at f.stores) numbers touched) fs)
  where
    go : (b : Bool) → length (cut (passes (at f.stores) numbers touched) fs) ≤ length fs
        → length (cond b [] (f ∷ cut (passes (at f.stores) numbers touched) fs)) ≤ suc (length fs)
    go true r = omega arith
    go false r = omega (arith, r)

store_size : (n : ℕ) (o : Older) (f : Frame) (fs : List Frame) → length (store n o f fs) ≤ suc (length fs)
store_size n o f fs = by (request f n)
  where
    by : (q : Option (ℕ × Inst)) → length (store_resolved n f fs q) ≤ suc (length fs)
    by None = omega arith
    by (Some q) = go (with_store n (stored_of q.1 (at f.spots q.0) (at f.spots (128 + q.0)))
        (mark_with f (slot_node f.code q.0)) f)
      where
        go : (g : Frame) → length (cond (violated (nearest (at g.stores) n) g.loads) []
            (g ∷ cut (nearest (at g.stores) n numbers) fs)) ≤ suc (length fs)
        go g = last (violated (nearest (at g.stores) n) g.loads) (cut_size (nearest (at g.stores) n numbers) fs)
          where
            last : (b : Bool) → length (cut (nearest (at g.stores) n numbers) fs) ≤ length fs
                → length (cond b [] (g ∷ cut (nearest (at g.stores) n numbers) fs)) ≤ suc (length fs)
            last true r = omega arith
            last false r = omega (arith, r)

exit_size : (blocks : List Block) (o : Older) (f : Frame) (fs : List Frame)
    → length (exit blocks o f fs) ≤ suc (length fs)
exit_size blocks o f fs =
    let r = kept_size (successor_of (exit_by blocks f.block (branch_of f f.leaving))) fs in
    omega (arith, r)
  where
    kept_size : (known : Option ℕ) (fs : List Frame) → length (kept known fs) ≤ length fs
    kept_size known [] = omega arith
    kept_size known (g ∷ gs) = go (follows known g.block)
      where
        go : (b : Bool) → length (cond b (g ∷ gs) []) ≤ suc (length gs)
        go true = omega arith
        go false = omega arith

step_size : (blocks : List Block) (w : Window) (o : Older) (f : Frame) (e : Event) → Stepping o f e
    → length (done blocks e w).frames ≤ length w.frames
step_size blocks w o f e (Delivers p l z d) = subst (λ x. length (done blocks x w).frames ≤ length w.frames) (sym z)
    (change_size _ (alone_size (deliver ((f.number * 320 + p) % 320))) (committed w.state) w.frames
    ((f.number * 320 + p) / 320))
step_size blocks w o f e (Fires s z d) = subst (λ x. length (done blocks x w).frames ≤ length w.frames) (sym z)
    (change_size _ (alone_size (fire s)) (committed w.state) w.frames f.number)
step_size blocks w o f e (Reads r z d) = subst (λ x. length (done blocks x w).frames ≤ length w.frames) (sym z)
    (change_size _ (alone_size (read r)) (committed w.state) w.frames f.number)
step_size blocks w o f e (Stores n z d k) = subst (λ x. length (done blocks x w).frames ≤ length w.frames) (sym z)
    (change_size _ (store_size n) (committed w.state) w.frames f.number)
step_size blocks w o f e (Loads n z d k) = subst (λ x. length (done blocks x w).frames ≤ length w.frames) (sym z)
    (change_size _ (alone_size (load n)) (committed w.state) w.frames f.number)
step_size blocks w o f e (Exits z d) = subst (λ x. length (done blocks x w).frames ≤ length w.frames) (sym z)
    (change_size _ (exit_size blocks) (committed w.state) w.frames f.number)

-- n events lead from w to v, each a Commit, at 611, or one that lowers what is left of the oldest frame
abbrev pub PacedAlone : ℕ → Window → Window → Type 0
PacedAlone n w v = n + oldest_left v.frames + 611 * length w.state.trace
    ≤ oldest_left w.frames + 611 * length v.state.trace

then_paced : (n : ℕ) (w v x : Window) → PacedAlone 1 w v → PacedAlone n v x → PacedAlone (suc n) w x
then_paced n w v x a b = omega (arith, a, b)

module _ (blocks : List Block) (good : AllGood blocks) (budget : ℕ) (w : Window) (ok : WindowOk blocks budget w)
    (room : HasGenerations budget w) (lone : AreLone w.frames) (e : Event) (h : next_event budget w ≡ Some e)
    (goes : (happens blocks budget e w).over ≡ Went) where
  fill : MayFill w
  fill = may_fill budget w room (has_work budget w e h)

  is : happens blocks budget e w ≡ done blocks e w
  is = taken blocks budget e w (next_done blocks budget e w ok (fill) h)

  abbrev Goes : Type 0
  Goes = AreLone (happens blocks budget e w).frames × PacedAlone 1 w (happens blocks budget e w)

  lowered : Lowers blocks w e → AreLone (done blocks e w).frames → Goes
  lowered l a =
      let less : oldest_left (happens blocks budget e w).frames < oldest_left w.frames =
      subst (λ (x : Window). oldest_left x.frames < oldest_left w.frames) (sym is) l.less in
      let same : length (happens blocks budget e w).state.trace ≡ length w.state.trace =
      ap (λ (x : Window). length x.state.trace) is ∙ ap (λ (s : State). length s.trace) l.state in
      (subst (λ (x : Window). AreLone x.frames) (sym is) a, omega (arith, less, same))

  -- the oldest frame is alone
  heads : (f : Frame) (fs : List Frame) → w.frames ≡ f ∷ fs → (none_guessed f ≡ true) × (length w.frames ≤ 1)
  heads f fs i =
      let k = lone_head f fs (subst AreLone i lone) in
      let size : length w.frames ≡ 1 = ap length (i ∙ ap (λ l. f ∷ l) k.1) in
      (k.0, omega (arith, size))

  committing : (f : Frame) (fs : List Frame) → w.frames ≡ f ∷ fs → e ≡ event.Commit → Goes
  committing f fs i z =
      let it : happens blocks budget e w ≡ happens blocks budget event.Commit w =
      ap (λ y. happens blocks budget y w) z in
      let c : can blocks budget event.Commit w ≡ Done =
      sym (ap (λ y. can blocks budget y w) z) ∙ next_done blocks budget e w ok (fill) h in
      let grown : length (happens blocks budget e w).state.trace ≡ length w.state.trace + 1 =
      ap (λ (x : Window). length x.state.trace) it
      ∙ trace_grows blocks budget w f fs i c (sym (ap (λ (x : Window). x.over) it) ∙ goes) in
      let none : (happens blocks budget e w).frames ≡ [] =
      ap (λ (x : Window). x.frames) (it ∙ taken blocks budget event.Commit w c ∙ ap (λ l. commit l w) i)
      ∙ empties (unless (cause_held f) (outputs f)) (lone_head f fs (subst AreLone i lone)).1 in
      let left : oldest_left (happens blocks budget e w).frames ≡ 610 = ap oldest_left none in
      (subst AreLone (sym none) tt, omega (arith, grown, left))
    where
      empties : (x : Outcome) → fs ≡ [] → (commit_to x f fs w).frames ≡ []
      empties (Comes y) n = n
      empties (Faults y) n = refl

  fetching : w.frames ≡ [] → e ≡ event.Fetch w.state.next → Goes
  fetching i z =
      let b = there blocks w.state.next ok.next in
      let filled : (done blocks (event.Fetch w.state.next) w).frames ≡ fresh 0 w.state.next b.0 ∷ [] =
      ap₂ (λ n o. (fetched w.state.next n o w).frames) (ap (λ fs. lowest_empty 8 0 fs) i) b.1
      ∙ ap (λ fs. fs ++ fresh 0 w.state.next b.0 ∷ []) i in
      lowered (fetch_lowers blocks w ok.next i e z)
      (subst (λ x. AreLone (done blocks x w).frames) (sym z)
      (subst AreLone (sym filled) (fresh_unguessed 0 w.state.next b.0)))

  pub one_goes : Goes
  one_goes = by (parts budget w e h).2
    where
      by : Next w e → Goes
      by (Fetches i z) = fetching i z
      by (Commits f fs i s z) = committing f fs i z
      by (Seals f fs i s c z) =
          let k = heads f fs i in
          let l : Lowers blocks w e = seal_lowers blocks w f fs i s e z in
          let stays : StaysOldest (done blocks e w).frames =
          subst (λ (x : Window). StaysOldest x.frames) is
          (oldest_stays blocks budget e w f fs good ok (fill) h i s k.0) in
          let size : length (done blocks e w).frames ≤ length w.frames =
          subst (λ x. length (done blocks x w).frames ≤ length w.frames) (sym z)
          (change_size _ (alone_size seal) (committed w.state) w.frames f.number) in
          let few = k.1 in
          lowered l (lone_from (done blocks e w).frames stays (omega (arith, size, few)))
      by (Takes f fs i t) =
          let k = heads f fs i in
          let fine = (subst (FramesOk blocks (committed w.state)) i ok.frames).2 in
          let size = step_size blocks w (committed w.state) f e t in
          let few = k.1 in
          lowered (step_lowers blocks good w f fs i fine e t)
          (lone_from (done blocks e w).frames (step_stays blocks good w f fs i k.0 fine e t)
          (omega (arith, size, few)))

pub drives_alone : (blocks : List Block) → AllGood blocks → (budget n : ℕ) (w : Window) → WindowOk blocks budget w
    → HasGenerations budget w → AreLone w.frames → next_event budget (drives blocks budget n w) ≢ None
    → PacedAlone n w (drives blocks budget n w)
drives_alone blocks good budget zero w ok room lone m = omega arith
drives_alone blocks good budget (suc n) w ok room lone m =
    go (next_event budget w) refl (λ v p q r s. drives_alone blocks good budget n v p q r s)
  where
    go : (t : Option Event) → next_event budget w ≡ t → ((v : Window) → WindowOk blocks budget v
        → HasGenerations budget v → AreLone v.frames → next_event budget (drives blocks budget n v) ≢ None
        → PacedAlone n v (drives blocks budget n v))
        → PacedAlone (suc n) w (drives blocks budget n (given blocks budget (next_event budget w) w))
    go None h rest = absurd (m (ap (λ t. next_event budget (drives blocks budget n (given blocks budget t w))) h
        ∙ ap (next_event budget) (rests blocks budget n w h) ∙ h))
    go (Some e) h rest = subst (λ t. PacedAlone (suc n) w (drives blocks budget n (given blocks budget t w))) (sym h)
        (elim (went_or (happens blocks budget e w).over) [
          | inl p ↦
              let v : Onward blocks budget w (happens blocks budget e w) = onward blocks good budget w ok room e h in
              let one = one_goes blocks good budget w ok room lone e h p in
              then_paced n w (happens blocks budget e w) (drives blocks budget n (happens blocks budget e w)) one.1
              (rest (happens blocks budget e w) v.ok v.room one.0
              (λ z. m (ap (λ t. next_event budget (drives blocks budget n (given blocks budget t w))) h ∙ z)))
          | inr p ↦
              let none : next_event budget (happens blocks budget e w) ≡ None =
              none_after budget (happens blocks budget e w) p in
              absurd (m (ap (λ t. next_event budget (drives blocks budget n (given blocks budget t w))) h
              ∙ ap (next_event budget) (rests blocks budget n (happens blocks budget e w) none) ∙ none))
        ])

-- an empty window that is driven makes at most 611 events for each block that joins the trace, and for one more
pub fewer_events : (blocks : List Block) (budget n : ℕ) (w : Window) → AllGood blocks → WindowOk blocks budget w
    → HasGenerations budget w → w.frames ≡ [] → next_event budget (drives blocks budget n w) ≢ None
    → n ≤ (length (drives blocks budget n w).state.trace - length w.state.trace + 1) * 611
fewer_events blocks budget n w good ok room i m =
    let a = drives_alone blocks good budget n w ok room (subst AreLone (sym i) tt) m in
    let left : oldest_left w.frames ≡ 610 = ap oldest_left i in
    omega (arith, a, left)
