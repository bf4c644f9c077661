-- Each event keeps the invariant, and the committed state takes the steps of the machine.
use Rattle.std.proofs.Common.{◌≡◌, ℕ, zero, suc, ◌+◌, ◌/◌, ◌%◌, ◌<◌, Bool, true, false, not, nat_le, List, [], ◌∷◌}
use Rattle.std.proofs.Common.{◌++◌, Some, slice_get, length, refl, sym, ap, ◌∙◌, subst, arith}
use Rattle.std.specs.Prelude.{is_none}
use Rattle.std.proofs.lemmas.Bool.Decides.{nat_tests}
use Rattle.trips_isa.specs.declared.block.Block.{Block}
use Rattle.trips_isa.specs.declared.run.Stepped.{Stepped}
use Rattle.trips_isa.specs.declared.run.Stepped.TheVariants.{Went, Ended, StackFull, Trap}
use Rattle.trips_isa.specs.TrapCauses.{cause_of}
use Rattle.trips_isa.specs.Blocks.{leaving_of, token_of}
use Rattle.trips_isa.specs.Tables.{deepest}
use Rattle.trips_isa.specs.Outcomes.{Effects}
use Rattle.trips_isa.specs.Machine.{State, apply}
use Rattle.trips_isa.specs.Outcomes.{Comes, Faults, unless}
use Rattle.trips_isa.specs.Machine.{come_to, step_of, goes_on, runs}
use Rattle.block_cases.specs.inside.Plain.{IsTrap}
use Rattle.block_cases.proofs.Traps.{applied_goes}
use Rattle.commit_flush_spec.specs.Ends.{cause_held}
use Rattle.commit_flush_spec.specs.InFlight.{commit_to}
use Rattle.commit_flush_spec.specs.Laws.{Reached}
use Rattle.commit_flush_spec.specs.Frames.{Frame, fresh}
use Rattle.commit_flush_spec.specs.Older.{Older, after_all, committed, follows}
use Rattle.commit_flush_spec.specs.Causes.{Cause}
use Rattle.commit_flush_spec.specs.Causes.{NoFrame, NoBlock, Worn, Serial, Wrong, NoToken, Unsealed, Spent}
use Rattle.commit_flush_spec.specs.Causes.{Happened, Done, NotNow}
use Rattle.commit_flush_spec.specs.Dataflow.{can_read, read, can_fire, fire, can_deliver, deliver}
use Rattle.commit_flush_spec.specs.Memory.{can_load, load, can_store, store}
use Rattle.commit_flush_spec.specs.Ends.{can_exit, exit, can_seal, seal, outputs}
use Rattle.commit_flush_spec.specs.Window.{Window, Event, on_frame, change, alone, flush, lowest_empty}
use Rattle.commit_flush_spec.specs.Window.{is_worn, can_fetch, fetched, is_sealed, can_commit, commit}
use Rattle.commit_flush_spec.specs.Window.{can_now, unless_over, can, done, if_done, happens, plays}
use Rattle.commit_flush_spec.specs.Window as event
use Rattle.commit_flush_spec.specs.inside.Invariant.{FramesOk, AllGood}
use Rattle.commit_flush_spec.specs.Laws.{TakesSteps}
use Rattle.commit_flush_spec.specs.inside.Laws.{WindowOk, NoneLost, AllKept, AreNumbers}
use Rattle.commit_flush_spec.proofs.Kept.{read_kept, fire_kept}
use Rattle.commit_flush_spec.proofs.KeptFrames.{load_kept, deliver_kept, store_kept, exit_kept, seal_kept}
use Rattle.commit_flush_spec.proofs.KeptFrames.{fetch_kept, change_kept, alone_kept}
use Rattle.commit_flush_spec.proofs.Numbers.{nums, Begins, beginning, change_numbers, alone_numbers}
use Rattle.commit_flush_spec.proofs.Numbers.{read_number, fire_number, deliver_number, load_number}
use Rattle.commit_flush_spec.proofs.Numbers.{store_numbers, exit_numbers, flush_numbers, lowest_is}
use Rattle.commit_flush_spec.proofs.Numbers.{fetch_numbers}
use Rattle.commit_flush_spec.specs.inside.Invariant.{FrameOk}
use Rattle.commit_flush_spec.proofs.Frames.{Goes, not_now, change_ok, alone_ok}
use Rattle.commit_flush_spec.proofs.Flow.{some_of, read_ok, fire_ok}
use Rattle.commit_flush_spec.proofs.Loads.{load_ok}
use Rattle.commit_flush_spec.proofs.Delivers.{deliver_ok}
use Rattle.commit_flush_spec.proofs.Storing.{store_ok}
use Rattle.commit_flush_spec.proofs.Ending.{exit_ok, seal_ok, fetch_ok}
use Rattle.commit_flush_spec.proofs.Committing.{same_effects, commits, go_on}
use Rattle.commit_flush_spec.proofs.Applying.{apply_whole, apply_trace, apply_next, next_in}

follows_is : (n k : ℕ) → follows (Some n) k ≡ true → n ≡ k
follows_is n k e = grind (arith, nat_tests)

not_true : (b : Bool) → not b ≡ false → b ≡ true
not_true true e = refl
not_true false e = absurd (cc)

-- the state after an event, where the run had not ended and the event is Done
pub record Moves (blocks : List Block) (budget : ℕ) (w v : Window) : Type 0 where
  pub ok : WindowOk blocks budget v
  pub steps : ℕ
  pub grown : length v.state.trace ≡ length w.state.trace + steps
  pub one : (s : State) (n : ℕ) → Reached blocks s n w.state w.over → Reached blocks s (n + steps) v.state v.over

-- an event that changes frames alone
frames_move : (blocks : List Block) (budget : ℕ) (w : Window) (fs : List Frame) (gs : List ℕ)
    → WindowOk blocks budget w → FramesOk blocks (committed w.state) fs → AllKept fs → AreNumbers (nums fs)
    → Moves blocks budget w (record w { generations = gs; frames = fs })
frames_move blocks budget w fs gs ok h k m = record {
  ok = record { frames = h; kept = k; numbers = m; whole = ok.whole; spent = ok.spent; next = ok.next };
  steps = 0;
  grown = omega arith;
  one = λ s n e. let z : n ≡ n + 0 = omega arith in subst (λ k. Reached blocks s k w.state w.over) z e;
}

-- an event of the frame of a number
frame_moves : (blocks : List Block) (can : Older → Frame → Happened) (does : Older → Frame → List Frame → List Frame)
    → ((o : Older) (f : Frame) (fs : List Frame) → can o f ≡ Done → FramesOk blocks o (f ∷ fs)
    → FramesOk blocks o (does o f fs))
    → ((o : Older) (f : Frame) (fs : List Frame) → can o f ≡ Done → FramesOk blocks o (f ∷ fs) → AllKept (f ∷ fs)
    → AllKept (does o f fs))
    → ((o : Older) (f : Frame) (fs : List Frame) → Begins (nums (does o f fs)) (nums (f ∷ fs)))
    → (budget : ℕ) (w : Window) (c : Cause) (n : ℕ) → on_frame (NotNow c) can (committed w.state) w.frames n ≡ Done
    → WindowOk blocks budget w
    → Moves blocks budget w (record w { frames = change does (committed w.state) w.frames n })
frame_moves blocks can does good kept numbered budget w c n e ok =
    frames_move blocks budget w (change does (committed w.state) w.frames n) w.generations ok
    (change_ok blocks can does good c (committed w.state) w.frames n e ok.frames)
    (change_kept blocks can does kept c (committed w.state) w.frames n e ok.frames ok.kept)
    (beginning (nums (change does (committed w.state) w.frames n)) (nums w.frames)
    (change_numbers does numbered (committed w.state) w.frames n) ok.numbers)

-- an event that changes that frame alone
alone_moves : (blocks : List Block) (can : Older → Frame → Happened) (does : Older → Frame → Frame)
    → ((o : Older) (f : Frame) → can o f ≡ Done → f.sealed ≡ false)
    → ((o : Older) (f : Frame) → can o f ≡ Done → FrameOk blocks o f → Goes blocks o f (does o f))
    → ((o : Older) (f : Frame) → can o f ≡ Done → FrameOk blocks o f → NoneLost f → NoneLost (does o f))
    → ((o : Older) (f : Frame) → (does o f).number ≡ f.number)
    → (budget : ℕ) (w : Window) (c : Cause) (n : ℕ) → on_frame (NotNow c) can (committed w.state) w.frames n ≡ Done
    → WindowOk blocks budget w
    → Moves blocks budget w (record w { frames = change (alone does) (committed w.state) w.frames n })
alone_moves blocks can does running good kept numbered =
    frame_moves blocks can (alone does) (alone_ok blocks can does good) (alone_kept blocks can does running kept)
    (alone_numbers does numbered)

next_step : (blocks : List Block) (s : State) (n : ℕ) (t : State) → (t, Went) ≡ runs blocks s n
    → step_of blocks t ≡ runs blocks s (suc n)
unfolding runs
next_step blocks s n t e = ap (λ (p : State × Stepped). goes_on blocks p.0 p.1) e

-- what is no trap is reached by its steps
untrapped : (blocks : List Block) (s : State) (n : ℕ) (t : State) (o : Stepped) → (IsTrap o → ⊥)
    → (t, o) ≡ runs blocks s n → Reached blocks s n t o
untrapped blocks s n t Went h e = e
untrapped blocks s n t Ended h e = e
untrapped blocks s n t StackFull h e = e
untrapped blocks s n t (Trap c) h e = absurd (h tt)

commit_moves : (blocks : List Block) → AllGood blocks → (budget : ℕ) (w : Window) → w.over ≡ Went
    → can_commit budget w ≡ Done → WindowOk blocks budget w → (fs : List Frame) → w.frames ≡ fs
    → Moves blocks budget w (commit fs w)
commit_moves blocks good budget w o c ok [] e = absurd (
    let a = not_now (not (is_sealed w.frames)) Unsealed _ c in
    let bad : not (is_sealed w.frames) ≡ true = ap (λ l. not (is_sealed l)) e in cc)
commit_moves blocks good budget w o c ok (f ∷ fs) e = go (cause_held f) refl
  where
    frames : FramesOk blocks (committed w.state) (f ∷ fs)
    frames = subst (FramesOk blocks (committed w.state)) e ok.frames

    new : State
    new = (apply f.code.writes.items (outputs f) w.state).0

    facts : (is_sealed w.frames ≡ true) × (nat_le budget (length w.state.trace) ≡ false)
    facts =
        let a = not_now (not (is_sealed w.frames)) Unsealed _ c in
        let b = not_now (nat_le budget (length w.state.trace)) Spent _ a.1 in
        (not_true _ a.0, b.0)

    sealed : f.sealed ≡ true
    sealed = sym (ap is_sealed e) ∙ facts.0

    room : length w.state.trace < budget
    room = let x = facts.1 in grind (arith, nat_tests)

    -- the step of the machine from here
    stepped : (s : State) (n k : ℕ) → cause_held f ≡ k → Reached blocks s n w.state w.over
        → come_to f.code.writes.items (unless k (outputs f)) w.state ≡ runs blocks s (suc n)
    stepped s n k z r =
        let went : (w.state, Went) ≡ runs blocks s n = subst (Reached blocks s n w.state) o r in
        ap (λ x. come_to f.code.writes.items (unless x (outputs f)) w.state) (sym z)
        ∙ commits blocks good w.state f frames.2 sealed (follows_is _ _ frames.1) ∙ next_step blocks s n w.state went

    effects : cause_held f ≡ 0 → Moves blocks budget w (commit_to (Comes (outputs f)) f fs w)
    effects z = record {
      ok = record {
        frames = go_on blocks good w.state f frames.2 sealed ok.whole fs frames.3;
        kept = (subst AllKept e ok.kept).1;
        numbers = (subst (λ l. AreNumbers (nums l)) e ok.numbers).2;
        whole = apply_whole f.code.writes.items (outputs f) w.state ok.whole;
        spent = (let t : length new.trace ≡ length w.state.trace + 1 =
            apply_trace f.code.writes.items (outputs f) w.state in let r : length w.state.trace < budget = room in
            omega arith);
        next = subst (λ k. k < length blocks) (sym (apply_next f.code.writes.items (outputs f) w.state
            ∙ ap (λ (x : Effects). x.successor) (same_effects blocks good w.state f frames.2 sealed)))
            (next_in blocks (let l : w.state.next < length blocks = ok.next in
            omega arith) f.block (leaving_of f.code (token_of f.code w.state.registers w.state.memory deepest)));
      };
      steps = 1;
      grown = apply_trace f.code.writes.items (outputs f) w.state;
      one = λ s n r.
          let up : suc n ≡ n + 1 = omega arith in
          untrapped blocks s (n + 1) new (apply f.code.writes.items (outputs f) w.state).1
          (applied_goes f.code.writes.items (outputs f) w.state) (stepped s n 0 z r ∙ ap (runs blocks s) up);
    }

    fault : (k : ℕ) → cause_held f ≡ suc k → Moves blocks budget w (commit_to (Faults (cause_of (suc k))) f fs w)
    fault k z = record {
      ok = record {
        frames = tt;
        kept = tt;
        numbers = tt;
        whole = ok.whole;
        spent = ok.spent;
        next = ok.next;
      };
      steps = 0;
      grown = omega arith;
      one = λ s n r.
          let same : n ≡ n + 0 = omega arith in
          let went : (w.state, Went) ≡ runs blocks s n = subst (Reached blocks s n w.state) o r in (
            went ∙ ap (runs blocks s) same,
            stepped s n (suc k) z r ∙ ap (λ x. runs blocks s (suc x)) same,
          );
    }

    go : (k : ℕ) → cause_held f ≡ k → Moves blocks budget w (commit (f ∷ fs) w)
    go zero z = subst (λ x. Moves blocks budget w (commit_to (unless x (outputs f)) f fs w)) (sym z) (effects z)
    go (suc k) z = subst (λ x. Moves blocks budget w (commit_to (unless x (outputs f)) f fs w)) (sym z) (fault k z)

fetch_frames : (blocks : List Block) → (k : ℕ) (budget : ℕ) (w : Window) → can_fetch blocks k w ≡ Done
    → WindowOk blocks budget w → Moves blocks budget w (fetched k (lowest_empty 8 0 w.frames) (slice_get blocks k) w)
fetch_frames blocks k budget w c ok =
    let youngest : Older = after_all w.frames (committed w.state) in
    let a = not_now (is_none (lowest_empty 8 0 w.frames)) NoFrame _ c in
    let b = not_now (is_none (slice_get blocks k)) NoBlock _ a.1 in
    let d = not_now (is_worn w.generations (lowest_empty 8 0 w.frames)) Worn _ b.1 in
    let e = not_now (after_all w.frames (committed w.state)).serial Serial _ d.1 in
    let h = not_now (not (follows (after_all w.frames (committed w.state)).known k)) Wrong _ e.1 in
    let n = some_of _ a.0 in
    let x = some_of _ b.0 in
    subst (λ o. Moves blocks budget w (fetched k o (slice_get blocks k) w)) (sym n.1)
    (subst (λ o. Moves blocks budget w (fetched k (Some n.0) o w)) (sym x.1)
    (frames_move blocks budget w (w.frames ++ fresh n.0 k x.0 ∷ []) _ ok
    (fetch_ok blocks n.0 k x.0 x.1 (committed w.state) w.frames e.0 (not_true _ h.0) ok.frames)
    (fetch_kept n.0 k x.0 w.frames ok.kept) (let low = lowest_is 8 0 w.frames n.0 n.1 in
    fetch_numbers n.0 k x.0 w.frames low.0 low.1 ok.numbers)))

pub done_moves : (blocks : List Block) → AllGood blocks → (budget : ℕ) (e : Event) (w : Window) → w.over ≡ Went
    → can_now blocks budget e w ≡ Done → WindowOk blocks budget w → Moves blocks budget w (done blocks e w)
done_moves blocks good budget (event.Fetch k) w o c ok = fetch_frames blocks k budget w c ok
done_moves blocks good budget (event.Read n r) w o c ok =
    alone_moves blocks (can_read r) (read r) (λ p f d. (not_now f.sealed NoFrame _ d).0) (read_ok blocks good r)
    (read_kept blocks good r) (read_number r) budget w NoFrame n c ok
done_moves blocks good budget (event.Fire n s) w o c ok =
    alone_moves blocks (can_fire s) (fire s) (λ p f d. (not_now f.sealed NoFrame _ d).0) (fire_ok blocks good s)
    (fire_kept blocks good s) (fire_number s) budget w NoFrame n c ok
done_moves blocks good budget (event.Deliver t) w o c ok =
    alone_moves blocks (can_deliver (t % 320)) (deliver (t % 320)) (λ p f d. (not_now f.sealed NoToken _ d).0)
    (deliver_ok blocks good (t % 320)) (deliver_kept blocks (t % 320)) (deliver_number (t % 320)) budget w
    NoToken (t / 320) c ok
done_moves blocks good budget (event.Load n m) w o c ok =
    alone_moves blocks (can_load m) (load m) (λ p f d. (not_now f.sealed NoFrame _ d).0) (load_ok blocks good m)
    (load_kept blocks good m) (load_number m) budget w NoFrame n c ok
done_moves blocks good budget (event.Store n m) w o c ok =
    frame_moves blocks (can_store m) (store m) (store_ok blocks good m) (store_kept blocks m) (store_numbers m)
    budget w NoFrame n c ok
done_moves blocks good budget (event.Exit n) w o c ok =
    frame_moves blocks can_exit (exit blocks) (exit_ok blocks good) (exit_kept blocks) (exit_numbers blocks) budget w
    NoFrame n c ok
done_moves blocks good budget (event.Seal n) w o c ok =
    frame_moves blocks can_seal (alone seal) (alone_ok blocks can_seal seal (seal_ok blocks))
    (λ p f fs d k all. seal_kept p f fs all) (alone_numbers seal (λ p f. refl)) budget w NoFrame n c ok
done_moves blocks good budget (event.Flush n) w o c ok =
    frame_moves blocks (λ o f. Done) flush (λ p f fs d k. tt) (λ p f fs d k all. tt) flush_numbers budget w NoFrame n
    c ok
done_moves blocks good budget event.Commit w o c ok = commit_moves blocks good budget w o c ok w.frames refl

still : (blocks : List Block) (budget : ℕ) (w : Window) → WindowOk blocks budget w → Moves blocks budget w w
still blocks budget w ok = record {
  ok = ok;
  steps = 0;
  grown = omega arith;
  one = λ s n e. let z : n ≡ n + 0 =
      omega arith in subst (λ k. Reached blocks s k w.state w.over) z e;
}

went : (o : Stepped) (h : Happened) → unless_over o h ≡ Done → (o ≡ Went) × (h ≡ Done)
went Went h e = (refl, e)
went Ended h e = absurd (cc)
went (Trap c) h e = absurd (cc)
went StackFull h e = absurd (cc)

-- an event keeps the invariant, and moves the committed state as the machine does
pub happens_moves : (blocks : List Block) → AllGood blocks → (budget : ℕ) (e : Event) (w : Window)
    → WindowOk blocks budget w → Moves blocks budget w (happens blocks budget e w)
happens_moves blocks good budget e w ok = go (can blocks budget e w) refl
  where
    go : (h : Happened) → can blocks budget e w ≡ h → Moves blocks budget w (if_done h (done blocks e w) w)
    go Done i = let k = went w.over (can_now blocks budget e w) i in done_moves blocks good budget e w k.0 k.1 ok
    go (NotNow c) i = still blocks budget w ok

-- many events ------------------------------------------------------------------------------------

-- events one after another keep the invariant
pub plays_ok : (blocks : List Block) → AllGood blocks → (budget : ℕ) (es : List Event) (w : Window)
    → WindowOk blocks budget w → WindowOk blocks budget (plays blocks budget es w)
plays_ok blocks good budget [] w ok = ok
plays_ok blocks good budget (e ∷ es) w ok =
    plays_ok blocks good budget es (happens blocks budget e w) (happens_moves blocks good budget e w ok).ok

plays_steps : (blocks : List Block) → AllGood blocks → (budget : ℕ) (s : State) (es : List Event) (w : Window)
    → WindowOk blocks budget w → TakesSteps blocks s w → TakesSteps blocks s (plays blocks budget es w)
plays_steps blocks good budget s [] w ok h = h
plays_steps blocks good budget s (e ∷ es) w ok h =
    let m = happens_moves blocks good budget e w ok in
    plays_steps blocks good budget s es (happens blocks budget e w) m.ok (record {
      steps = h.steps + m.steps;
      grown = (let a : length w.state.trace ≡ length s.trace + h.steps = h.grown in
          let b : length (happens blocks budget e w).state.trace ≡ length w.state.trace + m.steps = m.grown in
          omega arith);
      reached = m.one s h.steps h.reached;
    })

begins : (blocks : List Block) (s : State) → (s, Went) ≡ runs blocks s 0
unfolding runs
begins blocks s = refl

-- events from a run that goes on take as many steps of the machine as the trace grows by
pub from_here : (blocks : List Block) → AllGood blocks → (budget : ℕ) (es : List Event) (w : Window)
    → WindowOk blocks budget w → w.over ≡ Went → TakesSteps blocks w.state (plays blocks budget es w)
from_here blocks good budget es w ok o = plays_steps blocks good budget w.state es w ok (record {
  steps = 0;
  grown =
      omega arith;
  reached = start;
})
  where
    start : Reached blocks w.state 0 w.state w.over
    start = subst (Reached blocks w.state 0 w.state) (sym o) (begins blocks w.state)
