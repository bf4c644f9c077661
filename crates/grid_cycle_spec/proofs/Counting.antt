-- Fetched frames are committed, flushed, or in flight: how many frames each event leaves.
use Rattle.std.proofs.Common.{◌≡◌, ℕ, suc, ◌+◌, ◌-◌, ◌%◌, ◌/◌, ◌==◌, ◌≤◌, Bool, true, false, cond, not}
use Rattle.std.proofs.Common.{List, [], ◌∷◌, ◌++◌}
use Rattle.std.proofs.Common.{length, drop, Option, Some, None, is_none, slice_get, slice_index, refl, sym, ap}
use Rattle.std.proofs.Common.{◌∙◌, subst}
use Rattle.std.proofs.Common.{true≢false, arith}
use Rattle.std.proofs.lemmas.List.{length-drop}
use Rattle.trips_isa.specs.declared.block.Block.{Block}
use Rattle.trips_isa.specs.declared.block.Inst.{Inst}
use Rattle.trips_isa.specs.declared.run.Counts.{Counts}
use Rattle.trips_isa.specs.declared.run.Stepped.{Stepped}
use Rattle.trips_isa.specs.declared.run.Stepped.TheVariants as stepped
use Rattle.trips_isa.specs.Outcomes.{Outcome, Comes, Faults, Effects, unless}
use Rattle.trips_isa.specs.Machine.{State, with_input, system_call, then_system, changed, apply}
use Rattle.commit_flush_spec.specs.Causes.{Cause, NoFrame, NoBlock, Worn, Serial, Wrong}
use Rattle.commit_flush_spec.specs.Causes.{Happened, Done, NotNow, judged}
use Rattle.commit_flush_spec.specs.Frames.{Frame, Exit, at, token_places, numbers, fresh, slot_node}
use Rattle.commit_flush_spec.specs.Older.{Older, after, after_all, successor_of, committed, violated, passes}
use Rattle.commit_flush_spec.specs.Older.{nearest, cut, follows}
use Rattle.trips_isa.specs.Stores.{stored_of}
use Rattle.commit_flush_spec.specs.Sending.{mark_with}
use Rattle.commit_flush_spec.specs.Dataflow.{read, fire, deliver}
use Rattle.commit_flush_spec.specs.Memory.{load, request, with_store, checked, store_resolved, store}
use Rattle.commit_flush_spec.specs.Ends.{seal, exit_by, branch_of, kept, exit, outputs, cause_held}
use Rattle.commit_flush_spec.specs.InFlight.{Window, alone, change, lowest_empty, is_worn, can_fetch, commit}
use Rattle.commit_flush_spec.specs.InFlight.{commit_to, fetched}
use Rattle.commit_flush_spec.specs.Window.{Event, can, done, happens, if_done}
use Rattle.commit_flush_spec.specs.Window as window
use Rattle.grid_cycle_spec.specs.Laws.{AddsUp}
use Rattle.grid_cycle_spec.specs.Grid.{Grid, Fetching}
use Rattle.grid_cycle_spec.specs.Acting.{is_done, may, flushed, gone, act}
use Rattle.grid_cycle_spec.specs.Ends.{one_committed, learning, committed_as, commit_in}
use Rattle.grid_cycle_spec.specs.Fetches.{fills}
use Rattle.grid_cycle_spec.specs.Cycles.{closed}
use Rattle.grid_cycle_spec.specs.inside.Cycles.{AfterCycles}
use Rattle.grid_cycle_spec.proofs.KeptByCycles.{cycles_keep}
use Rattle.grid_cycle_spec.proofs.KeptChanges.{IsSingle, IsFlushing, Keeps, every, by_window}

-- frames in flight -------------------------------------------------------------------------------

one_changed : (does : Older → Frame → Frame) (o : Older) (fs : List Frame) (n : ℕ)
    → length (change (alone does) o fs n) ≡ length fs
one_changed does o [] n = refl
one_changed does o (f ∷ fs) n = go (f.number == n) (one_changed does (after f o) fs n)
  where
    go : (b : Bool) → length (change (alone does) (after f o) fs n) ≡ length fs
        → length (cond b (alone does o f fs) (f ∷ change (alone does) (after f o) fs n)) ≡ suc (length fs)
    go true h = refl
    go false h = ap suc h

some_changed : (does : Older → Frame → List Frame → List Frame)
    → ((o : Older) (f : Frame) (fs : List Frame) → length (does o f fs) ≤ suc (length fs))
    → (o : Older) (fs : List Frame) (n : ℕ) → length (change does o fs n) ≤ length fs
some_changed does less o [] n = omega arith
some_changed does less o (f ∷ fs) n = go (f.number == n) (some_changed does less (after f o) fs n)
  where
    go : (b : Bool) → length (change does (after f o) fs n) ≤ length fs
        → length (cond b (does o f fs) (f ∷ change does (after f o) fs n)) ≤ suc (length fs)
    go true h = less o f fs
    go false h = omega (arith, h)

cut_less : (touched : ℕ → Bool) (fs : List Frame) → length (cut touched fs) ≤ length fs
cut_less touched [] = omega arith
cut_less touched (f ∷ fs) = go (violated (λ n. passes (at f.stores) n touched) f.loads)
    (cut_less (passes (at f.stores) numbers touched) fs)
  where
    go : (b : Bool) → length (cut (passes (at f.stores) numbers touched) fs) ≤ length fs
        → length (cond b [] (f ∷ cut (passes (at f.stores) numbers touched) fs)) ≤ suc (length fs)
    go true h = omega arith
    go false h = omega (arith, h)

checked_less : (n : ℕ) (f : Frame) (fs : List Frame) → length (checked n f fs) ≤ suc (length fs)
checked_less n f fs = go (violated (nearest (at f.stores) n) f.loads)
  where
    go : (b : Bool) → length (cond b [] (f ∷ cut (nearest (at f.stores) n numbers) fs)) ≤ suc (length fs)
    go true = omega arith
    go false = let h = cut_less (nearest (at f.stores) n numbers) fs in omega (arith, h)

resolved_less : (n : ℕ) (f : Frame) (fs : List Frame) (q : Option (ℕ × Inst))
    → length (store_resolved n f fs q) ≤ suc (length fs)
resolved_less n f fs None = omega arith
resolved_less n f fs (Some q) =
    checked_less n (with_store n (stored_of q.1 (at f.spots q.0) (at f.spots (128 + q.0)))
    (mark_with f (slot_node f.code q.0)) f) fs

kept_less : (known : Option ℕ) (fs : List Frame) → length (kept known fs) ≤ length fs
kept_less known [] = omega arith
kept_less known (f ∷ fs) = go (follows known f.block)
  where
    go : (b : Bool) → length (cond b (f ∷ fs) []) ≤ suc (length fs)
    go true = omega arith
    go false = omega arith

raised : (m n : ℕ) → m ≤ n → suc m ≤ suc n
raised m n h = omega (arith, h)

exit_less : (blocks : List Block) (o : Older) (f : Frame) (fs : List Frame)
    → length (exit blocks o f fs) ≤ suc (length fs)
exit_less blocks o f fs = raised (length (kept (successor_of (exit_by blocks f.block (branch_of f f.leaving))) fs))
    (length fs) (kept_less (successor_of (exit_by blocks f.block (branch_of f f.leaving))) fs)

module _ (blocks : List Block) (budget : ℕ) where
  as_many : (h : Happened) (v w : Window) → length v.frames ≡ length w.frames
      → length (if_done h v w).frames ≡ length w.frames
  as_many Done v w e = e
  as_many (NotNow c) v w e = refl

  no_more : (h : Happened) (v w : Window) → length v.frames ≤ length w.frames
      → length (if_done h v w).frames ≤ length w.frames
  no_more Done v w e = e
  no_more (NotNow c) v w e = omega arith

  single_frames : (e : Event) → IsSingle e → (w : Window)
      → length (happens blocks budget e w).frames ≡ length w.frames
  single_frames (window.Read n r) l w = as_many (can blocks budget (window.Read n r) w)
      (done blocks (window.Read n r) w) w
      (one_changed (read r) (committed w.state) w.frames n)
  single_frames (window.Fire n s) l w = as_many (can blocks budget (window.Fire n s) w)
      (done blocks (window.Fire n s) w) w
      (one_changed (fire s) (committed w.state) w.frames n)
  single_frames (window.Deliver t) l w = as_many (can blocks budget (window.Deliver t) w)
      (done blocks (window.Deliver t) w) w
      (one_changed (deliver (t % token_places)) (committed w.state) w.frames (t / token_places))
  single_frames (window.Load n m) l w = as_many (can blocks budget (window.Load n m) w)
      (done blocks (window.Load n m) w) w
      (one_changed (load m) (committed w.state) w.frames n)
  single_frames (window.Seal n) l w = as_many (can blocks budget (window.Seal n) w) (done blocks (window.Seal n) w) w
      (one_changed seal (committed w.state) w.frames n)
  single_frames (window.Fetch k) l w = absurd l
  single_frames (window.Store n m) l w = absurd l
  single_frames (window.Exit n) l w = absurd l
  single_frames (window.Flush n) l w = absurd l
  single_frames window.Commit l w = absurd l

  flushing_frames : (e : Event) → IsFlushing e → (w : Window)
      → length (happens blocks budget e w).frames ≤ length w.frames
  flushing_frames (window.Store n m) l w =
      no_more (can blocks budget (window.Store n m) w) (done blocks (window.Store n m) w) w
      (some_changed (store m) (λ o f fs. resolved_less m f fs (request f m)) (committed w.state) w.frames n)
  flushing_frames (window.Exit n) l w = no_more (can blocks budget (window.Exit n) w)
      (done blocks (window.Exit n) w) w
      (some_changed (exit blocks) (exit_less blocks) (committed w.state) w.frames n)
  flushing_frames (window.Read n r) l w = absurd l
  flushing_frames (window.Fire n s) l w = absurd l
  flushing_frames (window.Deliver t) l w = absurd l
  flushing_frames (window.Load n m) l w = absurd l
  flushing_frames (window.Seal n) l w = absurd l
  flushing_frames (window.Fetch k) l w = absurd l
  flushing_frames (window.Flush n) l w = absurd l
  flushing_frames window.Commit l w = absurd l

-- what is Done happens
happens_done : (blocks : List Block) (budget : ℕ) (e : Event) (w : Window) → is_done (can blocks budget e w) ≡ true
    → happens blocks budget e w ≡ done blocks e w
happens_done blocks budget e w d = go (can blocks budget e w) d
  where
    go : (h : Happened) → is_done h ≡ true → if_done h (done blocks e w) w ≡ done blocks e w
    go Done d = refl
    go (NotNow c) d = absurd (true≢false (sym d))

-- a cause that holds refuses
fails : (p : Bool) (c : Cause) (rest : List (Bool × Cause)) → is_done (judged ((p, c) ∷ rest)) ≡ true
    → (p ≡ false) × (is_done (judged rest) ≡ true)
fails true c rest d = absurd (true≢false (sym d))
fails false c rest d = (refl, d)

went_on : (o : Stepped) (h : Happened) → is_done (window.unless_over o h) ≡ true → is_done h ≡ true
went_on stepped.Went h d = d
went_on stepped.Ended h d = absurd (true≢false (sym d))
went_on stepped.StackFull h d = absurd (true≢false (sym d))
went_on (stepped.Trap c) h d = absurd (true≢false (sym d))

-- the causes of a fetch behind the second one, and behind the first one
abbrev behind_block : List Block → ℕ → Window → List (Bool × Cause)
behind_block blocks k w = (is_worn w.generations (lowest_empty 8 0 w.frames), Worn)
    ∷ ((after_all w.frames (committed w.state)).serial, Serial)
    ∷ (not (follows (after_all w.frames (committed w.state)).known k), Wrong) ∷ []

abbrev behind_room : List Block → ℕ → Window → List (Bool × Cause)
behind_room blocks k w = (is_none (slice_get blocks k), NoBlock) ∷ behind_block blocks k w

-- a fetch that is Done fills one frame
fetched_one : (k : ℕ) (n : Option ℕ) (b : Option Block) (w : Window) → is_none n ≡ false → is_none b ≡ false
    → length (fetched k n b w).frames ≡ suc (length w.frames)
fetched_one k None b w e d = absurd (true≢false e)
fetched_one k (Some n) None w e d = absurd (true≢false d)
fetched_one k (Some n) (Some b) w e d = added w.frames (fresh n k b)
  where
    added : (fs : List Frame) (f : Frame) → length (fs ++ f ∷ []) ≡ suc (length fs)
    added [] f = refl
    added (g ∷ fs) f = ap suc (added fs f)

fetch_frames : (blocks : List Block) (budget k : ℕ) (w : Window)
    → is_done (can blocks budget (window.Fetch k) w) ≡ true
    → length (happens blocks budget (window.Fetch k) w).frames ≡ suc (length w.frames)
fetch_frames blocks budget k w d =
    let room = fails (is_none (lowest_empty 8 0 w.frames)) NoFrame (behind_room blocks k w)
    (went_on w.over (can_fetch blocks k w) d) in
    let block = fails (is_none (slice_get blocks k)) NoBlock (behind_block blocks k w) room.1 in
    ap (λ (v : Window). length v.frames) (happens_done blocks budget (window.Fetch k) w d)
    ∙ fetched_one k (lowest_empty 8 0 w.frames) (slice_get blocks k) w room.0 block.0

-- a commit ---------------------------------------------------------------------------------------

-- the run has not trapped
abbrev IsNoTrap : Stepped → Type 0
IsNoTrap (stepped.Trap c) = ⊥
IsNoTrap o = Unit {0}

call_no_trap : (call : ℕ) (s : State) → IsNoTrap (system_call call s).1
call_no_trap call s = go (call == 1) (call == 2) (call == 3) (call == 4)
    (record s { output = s.output ++ (slice_index s.registers 3 % 256) ∷ [] }) (with_input s s.rest)
  where
    go : (a b c d : Bool) (t u : State) → IsNoTrap (cond {A = State × Stepped} a (t, stepped.Went)
        (cond b (u, stepped.Went) (cond c (s, stepped.Ended) (cond d (s, stepped.StackFull) (s, stepped.Went))))).1
    go true b c d t u = tt
    go false true c d t u = tt
    go false false true d t u = tt
    go false false false true t u = tt
    go false false false false t u = tt

apply_no_trap : (writes : List ℕ) (o : Effects) (s : State) → IsNoTrap (apply writes o s).1
apply_no_trap writes o s = go o.system (changed writes o s)
  where
    go : (b : Bool) (t : State) → IsNoTrap (then_system b t).1
    go true t = call_no_trap (slice_index t.registers 0) t
    go false t = tt

flushed_counts : {W : Type 0} (fs : List Frame) (g : Grid W)
    → ((flushed fs g).counts.flushed ≡ g.counts.flushed + length fs)
    × ((flushed fs g).counts.fetched ≡ g.counts.fetched) × ((flushed fs g).counts.committed ≡ g.counts.committed)
    × ((flushed fs g).window ≡ g.window)
flushed_counts [] g = (omega arith, refl, refl, refl)
flushed_counts (f ∷ fs) g = (refl, refl, refl, refl)

-- counts ------------------------------------------------------------------------------------------

module _ {W : Type 0} (blocks : List Block) (budget : ℕ) where
  flushed_adds : (fs : List Frame) (g : Grid W)
      → g.counts.fetched ≡ g.counts.committed + (g.counts.flushed + length fs) + length g.window.frames
      → AddsUp (flushed fs g)
  flushed_adds fs g e =
      let c = flushed_counts fs g in
      let p = c.0 in
      let q = c.1 in
      let r = c.2 in
      let s : length (flushed fs g).window.frames ≡ length g.window.frames =
      ap (λ (w : Window). length w.frames) c.3 in
      omega (arith, p, q, r, s, e)

  quiet_adds : (g h : Grid W) → length h.window.frames ≡ length g.window.frames → h.counts ≡ g.counts → AddsUp g
      → AddsUp h
  quiet_adds g h e c adds =
      let p : h.counts.fetched ≡ g.counts.fetched = ap (λ (k : Counts). k.fetched) c in
      let q : h.counts.committed ≡ g.counts.committed = ap (λ (k : Counts). k.committed) c in
      let r : h.counts.flushed ≡ g.counts.flushed = ap (λ (k : Counts). k.flushed) c in
      omega (arith, p, q, r, e, adds)

  act_adds : (e : Event) → IsFlushing e → (g : Grid W) → AddsUp g → AddsUp (act blocks budget e g)
  act_adds e l g adds =
      let v : Window = happens blocks budget e g.window in
      let less = flushing_frames blocks budget e l g.window in
      let left : length (drop (length v.frames) g.window.frames) ≡ length g.window.frames - length v.frames =
      length-drop (length v.frames) g.window.frames in
      flushed_adds (gone g.window v) (record g { window = v }) (omega (arith, less, left, adds))

  fill_adds : (f : Fetching) (g : Grid W) → may blocks budget (window.Fetch f.block) g ≡ true → AddsUp g
      → AddsUp (fills blocks budget f g)
  fill_adds f g may adds = let one = fetch_frames blocks budget f.block g.window may in omega (arith, one, adds)

  -- a frame that commits without a trap, the window having the frames behind it
  committed_adds : (s : Stepped) → IsNoTrap s → (f : Frame) (fs : List Frame) (g : Grid W)
      → length g.window.frames ≡ length fs
      → g.counts.fetched ≡ g.counts.committed + g.counts.flushed + suc (length fs) → AddsUp (committed_as s f fs g)
  committed_adds s ok f fs g e adds = go s ok
    where
      kept_by : (o : Option Exit) (k : Grid W)
          → ((learning f o k).counts ≡ k.counts) × ((learning f o k).window ≡ k.window)
      kept_by None k = (refl, refl)
      kept_by (Some x) k = (refl, refl)

      after_learning : (k : Grid W) → AddsUp k → AddsUp (learning f f.exit k)
      after_learning k h = quiet_adds k (learning f f.exit k)
          (ap (λ (w : Window). length w.frames) (kept_by f.exit k).1) (kept_by f.exit k).0 h

      one_more : AddsUp (learning f f.exit (record g { counts = one_committed g.counts }))
      one_more = after_learning (record g { counts = one_committed g.counts }) (omega (arith, e, adds))

      go : (s : Stepped) → IsNoTrap s → AddsUp (committed_as s f fs g)
      go stepped.Went ok = one_more
      go stepped.Ended ok = one_more
      go stepped.StackFull ok = one_more
      go (stepped.Trap c) ok = absurd ok

  outcome_adds : (o : Outcome) (f : Frame) (fs : List Frame) (g : Grid W) → g.window.frames ≡ f ∷ fs → AddsUp g
      → AddsUp (committed_as (commit_to o f fs g.window).over f fs (record g { window = commit_to o f fs g.window }))
  outcome_adds (Comes o) f fs g e adds =
      let size : length g.window.frames ≡ suc (length fs) = ap length e in
      committed_adds (commit_to (Comes o) f fs g.window).over
      (apply_no_trap f.code.writes.items o g.window.state) f fs
      (record g { window = commit_to (Comes o) f fs g.window }) refl (omega (arith, size, adds))
  outcome_adds (Faults c) f fs g e adds =
      let size : length g.window.frames ≡ suc (length fs) = ap length e in
      flushed_adds (f ∷ fs) (record g { window = commit_to (Faults c) f fs g.window }) (omega (arith, size, adds))

  commit_adds : (g : Grid W) → may blocks budget window.Commit g ≡ true → AddsUp g
      → AddsUp (commit_in blocks budget g.window.frames g)
  commit_adds g may adds = go g.window.frames refl
    where
      go : (fs : List Frame) → g.window.frames ≡ fs → AddsUp (commit_in blocks budget fs g)
      go [] e = adds
      go (f ∷ fs) e = subst (λ (v : Window). AddsUp (committed_as v.over f fs (record g { window = v })))
          (sym (happens_done blocks budget window.Commit g.window may ∙ ap (λ xs. commit xs g.window) e))
          (outcome_adds (unless (cause_held f) (outputs f)) f fs g e adds)

  abbrev pub Adds : Grid W → Grid W → Type 0
  Adds g h = AddsUp g → AddsUp h

  -- that the frames add up is kept by each primitive change
  pub keeps : Keeps every blocks budget Adds
  keeps = by_window every blocks budget Adds (record {
    same = λ g a. a;
    chain = λ g m h f k a. k (f a);
    quiet = λ g h e c. quiet_adds g h (ap (λ (w : Window). length w.frames) e) c;
    single = λ e l g h is c. quiet_adds g h
        (ap (λ (w : Window). length w.frames) is ∙ single_frames blocks budget e l g.window) c;
    flushing = act_adds;
    filling = λ c. fill_adds;
    committing = λ c. commit_adds;
    counting = λ c g a. a;
  })

  -- the frames still add up after some cycles
  pub cycles_add_up : (next : W → ℕ) (follows : W → W → Type 0) (n : ℕ) (g h : Grid W) → AddsUp g
      → AfterCycles next follows blocks budget n g h → AddsUp h
  cycles_add_up next follows n g h adds cycles =
      cycles_keep blocks budget Adds keeps next follows n g h cycles adds

-- at the end of a run no frame is in flight
pub closed_adds_up : {W : Type 0} (g : Grid W) → AddsUp g
    → (closed g).counts.fetched ≡ (closed g).counts.committed + (closed g).counts.flushed
closed_adds_up g adds =
    let c = flushed_counts g.window.frames (record g { window = record g.window { frames = [] } }) in
    let p = c.0 in
    let q = c.1 in
    let r = c.2 in
    omega (arith, p, q, r, adds)
