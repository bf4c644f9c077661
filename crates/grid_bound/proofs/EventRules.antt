-- Each event of the window keeps the rule of its frames.
use Rattle.std.proofs.Common.{◌≡◌, ℕ, ◌+◌, ◌/◌, ◌%◌, ◌==◌, Bool, true}
use Rattle.std.proofs.Common.{false, cond, not}
use Rattle.std.proofs.Common.{List, [], ◌∷◌, ◌++◌, Option, Some, None, slice_get, refl, sym}
use Rattle.std.proofs.Common.{◌∙◌, subst}
use Rattle.trips_isa.specs.declared.block.Stored.{Stored}
use Rattle.trips_isa.specs.declared.block.Block.{Block}
use Rattle.trips_isa.specs.declared.run.Stepped.{Stepped}
use Rattle.trips_isa.specs.declared.run.Stepped.TheVariants as stepped
use Rattle.trips_isa.specs.Forms.{is_store}
use Rattle.trips_isa.specs.Outcomes.{Outcome, Comes, Faults, unless}
use Rattle.trips_isa.specs.Stores.{stored_of}
use Rattle.commit_flush_spec.specs.Frames.{Frame, at, fresh, numbers}
use Rattle.commit_flush_spec.specs.Frames.{slot_node}
use Rattle.commit_flush_spec.specs.Sending.{mark_with}
use Rattle.commit_flush_spec.specs.Older.{Older, after, follows, successor_of, passes, nearest, violated, cut}
use Rattle.commit_flush_spec.specs.Older.{committed}
use Rattle.commit_flush_spec.specs.Causes.{Cause, NoFrame, NoToken, NoRequest}
use Rattle.commit_flush_spec.specs.Causes.{Happened, Done, NotNow}
use Rattle.commit_flush_spec.specs.Dataflow.{can_read, read, can_fire, fire}
use Rattle.commit_flush_spec.specs.Dataflow.{can_deliver, deliver}
use Rattle.commit_flush_spec.specs.Memory.{request, is_request, can_load, load}
use Rattle.commit_flush_spec.specs.Memory.{can_store, store, store_resolved, with_store}
use Rattle.commit_flush_spec.specs.Ends.{can_exit, exit, exit_by, branch_of, branch_mark, kept, can_seal}
use Rattle.commit_flush_spec.specs.Ends.{seal, outputs, cause_held}
use Rattle.commit_flush_spec.specs.InFlight.{commit_to}
use Rattle.commit_flush_spec.specs.Window.{Window, Event, on_frame, change, alone}
use Rattle.commit_flush_spec.specs.Window.{flush, lowest_empty, fetched, commit}
use Rattle.commit_flush_spec.specs.Window.{can_now, unless_over, can, done, if_done, happens}
use Rattle.commit_flush_spec.specs.Window as event
use Rattle.commit_flush_spec.specs.inside.Invariant.{FrameOk, FramesOk, AllGood}
use Rattle.commit_flush_spec.specs.inside.Laws.{WindowOk}
use Rattle.commit_flush_spec.proofs.Lists.{blank_at}
use Rattle.commit_flush_spec.proofs.Frames.{not_now}
use Rattle.commit_flush_spec.proofs.Loads.{Stands, stands}
use Rattle.grid_bound.specs.inside.Rule.{EachFrame, FrameRule}
use Rattle.grid_bound.proofs.FrameRules.{read_rule, fire_rule, deliver_rule, load_rule, store_rule, exit_rule}
use Rattle.grid_bound.proofs.FrameRules.{seal_rule}

-- lists of frames --------------------------------------------------------------------------------

abbrev Rules : List Frame → Type 0
Rules fs = EachFrame FrameRule fs

cut_rules : (touched : ℕ → Bool) (fs : List Frame) → Rules fs → Rules (cut touched fs)
cut_rules touched [] h = tt
cut_rules touched (f ∷ fs) h =
    go (violated (λ n. passes (at f.stores) n touched) f.loads) (cut_rules (passes
    (at f.stores) numbers touched) fs h.1)
  where
    go : (b : Bool) → Rules (cut (passes (at f.stores) numbers touched) fs)
        → Rules (cond b [] (f ∷ cut (passes (at f.stores) numbers touched) fs))
    go true r = tt
    go false r = (h.0, r)

kept_rules : (known : Option ℕ) (fs : List Frame) → Rules fs → Rules (kept known fs)
kept_rules known [] h = tt
kept_rules known (f ∷ fs) h = go (follows known f.block)
  where
    go : (b : Bool) → Rules (cond b (f ∷ fs) [])
    go true = h
    go false = tt

store_rules : (blocks : List Block) → AllGood blocks → (n : ℕ) (o : Older) (f : Frame) (fs : List Frame)
    → can_store n o f ≡ Done → FramesOk blocks o (f ∷ fs) → Rules (f ∷ fs) → Rules (store n o f fs)
store_rules blocks good n o f fs c ok rules =
    let a = not_now f.sealed NoFrame _ c in
    let b = not_now (not (is_request is_store (request f n))) NoRequest _ a.1 in
    let q : Stands is_store f n = stands is_store f n b.0 in
    let v : Option Stored = stored_of q.inst (at f.spots q.slot) (at f.spots (128 + q.slot)) in
    let g : Frame = with_store n v (mark_with f (slot_node f.code q.slot)) f in
    subst (λ y. Rules (store_resolved n f fs y)) (sym q.is_request)
    (go g (violated (nearest (at g.stores) n) f.loads)
    (store_rule blocks good o f ok.2 rules.0 n q.slot q.inst v
    (mark_with f (slot_node f.code q.slot)) q.asks q.is_inst
    q.is_kind))
  where
    go : (g : Frame) (b : Bool) → FrameRule g → Rules (cond b [] (g ∷ cut (nearest (at g.stores) n numbers) fs))
    go g true r = tt
    go g false r = (r, cut_rules (nearest (at g.stores) n numbers) fs rules.1)

change_rules : (blocks : List Block) (can : Older → Frame → Happened) (does : Older → Frame → List Frame → List Frame)
    → ((o : Older) (f : Frame) (fs : List Frame) → can o f ≡ Done → FramesOk blocks o (f ∷ fs) → Rules (f ∷ fs)
    → Rules (does o f fs))
    → (c : Cause) (o : Older) (fs : List Frame) (n : ℕ) → on_frame (NotNow c) can o fs n ≡ Done
    → FramesOk blocks o fs → Rules fs → Rules (change does o fs n)
change_rules blocks can does k c o [] n e ok r = absurd (cc)
change_rules blocks can does k c o (f ∷ fs) n e ok r =
    go (f.number == n) e (λ d. change_rules blocks can does k c (after f o) fs n d ok.3 r.1)
  where
    go : (b : Bool) → cond b (can o f) (on_frame (NotNow c) can (after f o) fs n) ≡ Done
        → (on_frame (NotNow c) can (after f o) fs n ≡ Done → Rules (change does (after f o) fs n))
        → Rules (cond b (does o f fs) (f ∷ change does (after f o) fs n))
    go true d rest = k o f fs d ok r
    go false d rest = (r.0, rest d)

alone_rules : (blocks : List Block) (can : Older → Frame → Happened) (does : Older → Frame → Frame)
    → ((o : Older) (f : Frame) → FrameOk blocks o f → FrameRule f → can o f ≡ Done → FrameRule (does o f))
    → (c : Cause) (o : Older) (fs : List Frame) (n : ℕ) → on_frame (NotNow c) can o fs n ≡ Done
    → FramesOk blocks o fs → Rules fs → Rules (change (alone does) o fs n)
alone_rules blocks can does k = change_rules blocks can (alone does)
    (λ o f fs d ok r. (k o f ok.2 r.0 d, r.1))

fetched_rules : (k : ℕ) (n : Option ℕ) (b : Option Block) (w : Window) → Rules w.frames
    → Rules (fetched k n b w).frames
fetched_rules k None b w r = r
fetched_rules k (Some n) None w r = r
fetched_rules k (Some n) (Some b) w r = added w.frames r
  where
    new : FrameRule (fresh n k b)
    new = record {
      targets = λ p h. absurd (h (blank_at 320 p));
      stored = λ m h. absurd (h (blank_at 32 m));
      waits = λ m s h. absurd (let y : None ≡ Some s = sym (blank_at 32 m) ∙ h in cc);
    }

    added : (fs : List Frame) → Rules fs → Rules (fs ++ fresh n k b ∷ [])
    added [] h = (new, tt)
    added (f ∷ fs) h = (h.0, added fs h.1)

commit_rules : (fs : List Frame) (w : Window) → Rules fs → Rules w.frames → Rules (commit fs w).frames
commit_rules [] w r h = h
commit_rules (f ∷ fs) w r h = go (unless (cause_held f) (outputs f))
  where
    go : (x : Outcome) → Rules (commit_to x f fs w).frames
    go (Comes e) = r.1
    go (Faults c) = tt

done_rules : (blocks : List Block) → AllGood blocks → (budget : ℕ) (e : Event) (w : Window)
    → can_now blocks budget e w ≡ Done → WindowOk blocks budget w → Rules w.frames → Rules (done blocks e w).frames
done_rules blocks good budget (event.Fetch k) w c ok r =
    fetched_rules k (lowest_empty 8 0 w.frames) (slice_get blocks k) w r
done_rules blocks good budget (event.Read n m) w c ok r = alone_rules blocks (can_read m) (read m)
    (λ o f k h d. read_rule blocks good o f k h m d) NoFrame (committed w.state) w.frames n c ok.frames r
done_rules blocks good budget (event.Fire n s) w c ok r = alone_rules blocks (can_fire s) (fire s)
    (λ o f k h d. fire_rule blocks good o f k h s d) NoFrame (committed w.state) w.frames n c ok.frames r
done_rules blocks good budget (event.Deliver t) w c ok r = alone_rules blocks (can_deliver (t % 320)) (deliver
    (t % 320))
    (λ o f k h d. deliver_rule blocks good o f k h (t % 320) d) NoToken (committed w.state) w.frames (t / 320) c
    ok.frames r
done_rules blocks good budget (event.Load n m) w c ok r = alone_rules blocks (can_load m) (load m)
    (λ o f k h d. load_rule blocks good o f k h m d) NoFrame (committed w.state) w.frames n c ok.frames r
done_rules blocks good budget (event.Store n m) w c ok r = change_rules blocks (can_store m) (store m)
    (store_rules blocks good m) NoFrame (committed w.state) w.frames n c ok.frames r
done_rules blocks good budget (event.Exit n) w c ok r = change_rules blocks can_exit (exit blocks)
    (λ o f fs d k h. (
      exit_rule blocks good o f k.2 h.0 (exit_by blocks f.block (branch_of f f.leaving))
          (branch_mark f f.leaving),
      kept_rules (successor_of (exit_by blocks f.block (branch_of f f.leaving))) fs h.1,
    ))
    NoFrame (committed w.state) w.frames n c ok.frames r
done_rules blocks good budget (event.Seal n) w c ok r = alone_rules blocks can_seal seal
    (λ o f k h d. seal_rule blocks good o f k h) NoFrame (committed w.state) w.frames n c ok.frames r
done_rules blocks good budget (event.Flush n) w c ok r = change_rules blocks (λ o f. Done) flush
    (λ o f fs d k h. tt) NoFrame (committed w.state) w.frames n c ok.frames r
done_rules blocks good budget event.Commit w c ok r = commit_rules w.frames w r r

-- the run goes on where an event is done
pub went : (o : Stepped) (h : Happened) → unless_over o h ≡ Done → (o ≡ stepped.Went) × (h ≡ Done)
went stepped.Went h e = (refl, e)
went stepped.Ended h e = absurd (cc)
went (stepped.Trap c) h e = absurd (cc)
went stepped.StackFull h e = absurd (cc)

-- each event keeps the rule of the frames
pub events_rule : (blocks : List Block) → AllGood blocks → (budget : ℕ) (e : Event) (w : Window)
    → WindowOk blocks budget w → EachFrame FrameRule w.frames
    → EachFrame FrameRule (happens blocks budget e w).frames
events_rule blocks good budget e w ok r = go (can blocks budget e w) refl
  where
    go : (h : Happened) → can blocks budget e w ≡ h → Rules (if_done h (done blocks e w) w).frames
    go Done i = done_rules blocks good budget e w (went w.over (can_now blocks budget e w) i).1 ok r
    go (NotNow c) i = r
