-- What an event leaves: the committed state is the machine's, and of a flushed frame nothing is left.
use Rattle.std.specs.List.{list_any}
use Rattle.std.proofs.Common.{◌≡◌, ◌≢◌, ℕ, zero, suc, ◌≤◌, Bool, true, false, cond, ◌||◌, ◌==◌, List, [], ◌∷◌, take}
use Rattle.std.proofs.Common.{Option, Some, None, slice_get, slice_index, refl, sym, ap, ap₂}
use Rattle.std.proofs.Common.{◌∙◌, subst, arith, true≢false}
use Rattle.std.proofs.lemmas.Bool.Decides.{nat_tests}
use Rattle.std.proofs.lemmas.List.{take-map}
use Rattle.trips_isa.specs.declared.block.Block.{Block}
use Rattle.trips_isa.specs.declared.block.Inst.{Inst}
use Rattle.trips_isa.specs.declared.run.Stepped.{Stepped}
use Rattle.trips_isa.specs.declared.run.Stepped.TheVariants as stepped
use Rattle.trips_isa.specs.Outcomes.{Effects, Outcome, Comes, Faults, unless}
use Rattle.trips_isa.specs.Machine.{State, changed, system_call, then_system}
use Rattle.commit_flush_spec.specs.Causes.{Done}
use Rattle.commit_flush_spec.specs.Frames.{Frame}
use Rattle.commit_flush_spec.specs.Older.{Older, after, committed}
use Rattle.commit_flush_spec.specs.Memory.{request}
use Rattle.commit_flush_spec.specs.Dropping.{with_resolved}
use Rattle.commit_flush_spec.specs.inside.Dropping.{stored_alone, exited_alone, unchanged}
use Rattle.commit_flush_spec.specs.Ends.{outputs, cause_held}
use Rattle.commit_flush_spec.specs.InFlight.{Window, alone, change, commit, commit_to, in_flight}
use Rattle.commit_flush_spec.specs.Window.{Event, can, can_now, done, happens, if_done, plays, unless_over}
use Rattle.commit_flush_spec.specs.Window as event
use Rattle.commit_flush_spec.specs.inside.Invariant.{AllGood}
use Rattle.commit_flush_spec.specs.Laws.{TakesSteps}
use Rattle.commit_flush_spec.specs.inside.Laws.{AreNumbers, WindowOk}
use Rattle.commit_flush_spec.proofs.DropFacts.{stores_drop, exits_drop, flushes_drop}
use Rattle.commit_flush_spec.proofs.Events.{taken, state_stays}
use Rattle.commit_flush_spec.proofs.Look.{or_false}
use Rattle.commit_flush_spec.proofs.Whole.{from_here}
use Rattle.commit_flush.specs.Places.{numbers_of}
use Rattle.commit_flush.specs.Seen.{Seen}
use Rattle.commit_flush.specs.Flushed.{is_trap, MayFlush, left_of, LeavesNothing}
use Rattle.commit_flush.proofs.SeenFacts.{mapped_at}

-- numbers ----------------------------------------------------------------------------------------

swapped : (m n : ℕ) → (m == n) ≡ false → (n == m) ≡ false
swapped m n e = grind (arith, nat_tests)

-- a frame in flight is found by its number
among : (n : ℕ) (fs : List Frame) → in_flight n fs ≡ list_any (λ m. m == n) (numbers_of fs)
among n [] = refl
among n (f ∷ fs) = ap (λ b. (f.number == n) || b) (among n fs)

-- a number that is not among some is another one than each of them
other : (m : ℕ) (ns : List ℕ) (a n : ℕ) → list_any (λ j. j == m) ns ≡ false → slice_get ns a ≡ Some n
    → (m == n) ≡ false
other m [] a n h e = absurd (cc)
other m (j ∷ ns) zero n h e =
    let p = or_false (j == m) (list_any (λ i. i == m) ns) h in
    let same : j ≡ n = cc in
    ap (λ x. m == x) (sym same) ∙ swapped j m p.0
other m (j ∷ ns) (suc a) n h e = other m ns a n (or_false (j == m) (list_any (λ i. i == m) ns) h).1 e

-- of different numbers one from a place on is not among those before it
none_before : (ns : List ℕ) → AreNumbers ns → (k a n : ℕ) → k ≤ a → slice_get ns a ≡ Some n
    → list_any (λ m. m == n) (take k ns) ≡ false
none_before ns ok zero a n l e = refl
none_before [] ok (suc k) a n l e = refl
none_before (m ∷ ns) ok (suc k) zero n l e = absurd (omega (arith, l))
none_before (m ∷ ns) ok (suc k) (suc a) n l e =
    ap₂ (λ x y. x || y) (other m ns a n ok.1 e) (none_before ns ok.2 k a n (omega (arith, l)) e)

-- a change of one frame that keeps its number keeps all numbers
same_numbers : (does : Older → Frame → Frame) → ((o : Older) (f : Frame) → (does o f).number ≡ f.number)
    → (o : Older) (fs : List Frame) (n : ℕ) → numbers_of (change (alone does) o fs n) ≡ numbers_of fs
same_numbers does h o [] n = refl
same_numbers does h o (f ∷ fs) n = go (f.number == n) (same_numbers does h (after f o) fs n)
  where
    go : (b : Bool) → numbers_of (change (alone does) (after f o) fs n) ≡ numbers_of fs
        → numbers_of (cond b (does o f ∷ fs) (f ∷ change (alone does) (after f o) fs n)) ≡ numbers_of (f ∷ fs)
    go true r = ap (λ m. m ∷ numbers_of fs) (h o f)
    go false r = ap (λ ms. f.number ∷ ms) r

stored_number : (m : ℕ) (o : Older) (f : Frame) → (stored_alone m o f).number ≡ f.number
stored_number m o f = go (request f m)
  where
    go : (q : Option (ℕ × Inst)) → (with_resolved m f q).number ≡ f.number
    go None = refl
    go (Some q) = refl

-- traps ------------------------------------------------------------------------------------------

-- what a step answers
abbrev answer : State × Stepped → Stepped
answer p = p.1

-- no system call traps
calls_go_on : (call : ℕ) (s : State) → is_trap (answer (system_call call s)) ≡ false
calls_go_on call s = by (call == 1) (call == 2) (call == 3) (call == 4) _ _
  where
    by : (a b c d : Bool) (x y : State) → is_trap (answer (cond a (x, stepped.Went) (cond b (y, stepped.Went)
        (cond c (s, stepped.Ended) (cond d (s, stepped.StackFull) (s, stepped.Went)))))) ≡ false
    by true b c d x y = refl
    by false true c d x y = refl
    by false false true d x y = refl
    by false false false true x y = refl
    by false false false false x y = refl

effects_go_on : (writes : List ℕ) (o : Effects) (s : State)
    → is_trap (answer (then_system o.system (changed writes o s))) ≡ false
effects_go_on writes o s = by o.system (changed writes o s)
  where
    by : (b : Bool) (t : State) → is_trap (answer (then_system b t)) ≡ false
    by true t = calls_go_on (slice_index t.registers 0) t
    by false t = refl

-- none is left of an empty window
none_left : (old new : List Frame) → new ≡ [] → LeavesNothing 0 old new
none_left old new e =
    record { oldest = ap numbers_of e; gone = λ age f l at. ap (in_flight f.number) e }

-- events -----------------------------------------------------------------------------------------

module _ (blocks : List Block) (budget : ℕ) (w : Window) (ok : WindowOk blocks budget w) where
  cut_leaves : (does : Older → Frame → Frame) → ((o : Older) (f : Frame) → (does o f).number ≡ f.number)
      → (left n : ℕ) (new : List Frame) → new ≡ take left (change (alone does) (committed w.state) w.frames n)
      → LeavesNothing left w.frames new
  cut_leaves does keeps left n new e = record {
    oldest = oldest;
    gone = λ age f l at. among f.number new ∙ ap (λ ns. list_any (λ m. m == f.number) ns) oldest
        ∙ none_before (numbers_of w.frames) ok.numbers left age f.number l
        (mapped_at (λ (f : Frame). f.number) w.frames age f at);
  }
    where
      oldest : numbers_of new ≡ take left (numbers_of w.frames)
      oldest = ap numbers_of e
          ∙ sym (take-map (λ (f : Frame). f.number) left (change (alone does) (committed w.state) w.frames n))
          ∙ ap (take left) (same_numbers does keeps (committed w.state) w.frames n)

  -- a commit that traps leaves none
  trap_leaves : (fs : List Frame) → w.frames ≡ fs → is_trap (commit fs w).over ≡ true
      → LeavesNothing 0 w.frames (commit fs w).frames
  trap_leaves [] i e = none_left w.frames w.frames i
  trap_leaves (f ∷ fs) i e = by (unless (cause_held f) (outputs f)) e
    where
      by : (o : Outcome) → is_trap (commit_to o f fs w).over ≡ true
          → LeavesNothing 0 w.frames (commit_to o f fs w).frames
      by (Comes o) t = absurd (true≢false (sym t ∙ effects_go_on f.code.writes.items o w.state))
      by (Faults c) t = none_left w.frames [] refl

  done_leaves : (e : Event) → MayFlush e (done blocks e w).over
      → LeavesNothing (left_of blocks e w) w.frames (done blocks e w).frames
  done_leaves (event.Store n m) t =
      cut_leaves (stored_alone m) (stored_number m) _ n _ (stores_drop m (committed w.state) w.frames n)
  done_leaves (event.Exit n) t =
      cut_leaves (exited_alone blocks) (λ o f. refl) _ n _ (exits_drop blocks (committed w.state) w.frames n)
  done_leaves (event.Flush n) t =
      cut_leaves unchanged (λ o f. refl) _ n _ (flushes_drop (committed w.state) w.frames n)
  done_leaves event.Commit t = trap_leaves w.frames refl t
  done_leaves (event.Fetch k) t = absurd t
  done_leaves (event.Read a b) t = absurd t
  done_leaves (event.Fire a b) t = absurd t
  done_leaves (event.Deliver a) t = absurd t
  done_leaves (event.Load a b) t = absurd t
  done_leaves (event.Seal a) t = absurd t

  pub leaves : (e : Event) → can blocks budget e w ≡ Done → MayFlush e (happens blocks budget e w).over
      → LeavesNothing (left_of blocks e w) w.frames (happens blocks budget e w).frames
  leaves e d t =
      let is : happens blocks budget e w ≡ done blocks e w = taken blocks budget e w d in
      subst (λ (x : Window). LeavesNothing (left_of blocks e w) w.frames x.frames) (sym is)
      (done_leaves e (subst (λ (x : Window). MayFlush e x.over) is t))

  -- once the run has ended no event happens
  pub rests : (e : Event) → w.over ≢ stepped.Went → happens blocks budget e w ≡ w
  rests e n = by w.over refl
    where
      by : (o : Stepped) → w.over ≡ o → happens blocks budget e w ≡ w
      by stepped.Went i = absurd (n i)
      by stepped.Ended i = ap (λ o. if_done (unless_over o (can_now blocks budget e w)) (done blocks e w) w) i
      by stepped.StackFull i = ap (λ o. if_done (unless_over o (can_now blocks budget e w)) (done blocks e w) w) i
      by (stepped.Trap c) i = ap (λ o. if_done (unless_over o (can_now blocks budget e w)) (done blocks e w) w) i

-- as the window is seen --------------------------------------------------------------------------

module _ (v u : Seen) (ok : WindowOk v.image.blocks v.budget v.window) where
  -- events, one after another, take steps of the machine
  pub steps_seen : (es : List Event) → AllGood v.image.blocks → v.window.over ≡ stepped.Went
      → u ≡ record v { window = plays v.image.blocks v.budget es v.window }
      → TakesSteps v.image.blocks v.window.state u.window
  steps_seen es good went is = subst (λ (z : Seen). TakesSteps v.image.blocks v.window.state z.window) (sym is)
      (from_here v.image.blocks good v.budget es v.window ok went)

  module _ (e : Event) (is : u ≡ record v { window = happens v.image.blocks v.budget e v.window }) where
    -- an event other than Commit leaves the committed state
    pub stays_seen : e ≢ event.Commit → u.window.state ≡ v.window.state
    stays_seen n = ap (λ (z : Seen). z.window.state) is ∙ state_stays v.image.blocks v.budget e v.window n

    -- an event that may flush leaves nothing of the frames that it flushes
    pub flushed_seen : can v.image.blocks v.budget e v.window ≡ Done → MayFlush e u.window.over
        → LeavesNothing (left_of v.image.blocks e v.window) v.window.frames u.window.frames
    flushed_seen d t = subst (λ (z : Seen). MayFlush e z.window.over
        → LeavesNothing (left_of v.image.blocks e v.window) v.window.frames z.window.frames) (sym is)
        (leaves v.image.blocks v.budget v.window ok e d) t

    -- where the run has ended, an event changes nothing
    pub rests_seen : v.window.over ≢ stepped.Went → u ≡ v
    rests_seen n = is ∙ ap (λ (x : Window). (let z : Seen = record v { window = x } in z))
        (rests v.image.blocks v.budget v.window ok e n)

-- events rest, one after another, once the run has ended
all_rest : (blocks : List Block) (budget : ℕ) (es : List Event) (w : Window) → WindowOk blocks budget w
    → w.over ≢ stepped.Went → plays blocks budget es w ≡ w
all_rest blocks budget [] w ok n = refl
all_rest blocks budget (e ∷ es) w ok n = ap (plays blocks budget es) (rests blocks budget w ok e n)
    ∙ all_rest blocks budget es w ok n

-- where the run has ended, no events change anything
pub all_rest_seen : (v u : Seen) (es : List Event) → WindowOk v.image.blocks v.budget v.window
    → v.window.over ≢ stepped.Went → u ≡ record v { window = plays v.image.blocks v.budget es v.window } → u ≡ v
all_rest_seen v u es ok n is = is ∙ ap (λ (x : Window). (let z : Seen = record v { window = x } in z))
    (all_rest v.image.blocks v.budget es v.window ok n)
