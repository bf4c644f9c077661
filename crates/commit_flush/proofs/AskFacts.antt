-- What the frame of a number is asked, where it is handed in as what stands at its number.
use Rattle.std.proofs.Common.{◌≡◌, ℕ, Bool, true, false, cond, ◌==◌, ◌||◌, slice_index_or, List, [], ◌∷◌, Option}
use Rattle.std.proofs.Common.{Some, None, slice_get, refl, sym, ap, ◌∙◌, subst}
use Rattle.std.specs.Prelude.{is_none}
use Rattle.std.proofs.Common.{true≢false}
use Rattle.std.proofs.lemmas.Option.{none-some}
use Rattle.trips_isa.specs.declared.block.Block.{Block}
use Rattle.trips_isa.specs.declared.run.Stepped.{Stepped}
use Rattle.trips_isa.specs.declared.run.Stepped.TheVariants.{Went, Ended, StackFull, Trap}
use Rattle.commit_flush_spec.specs.Causes.{Cause, NoFrame, NoRead, NotYet, Happened, Done, NotNow}
use Rattle.commit_flush_spec.specs.Frames.{Frame}
use Rattle.commit_flush_spec.specs.Older.{Older, after, committed}
use Rattle.commit_flush_spec.specs.InFlight.{Window, on_frame}
use Rattle.commit_flush_spec.specs.Dataflow.{can_read, read_seen}
use Rattle.commit_flush_spec.specs.Window.{can, unless_over}
use Rattle.commit_flush_spec.specs.Window as event
use Rattle.commit_flush_spec.proofs.Frames.{not_now}
use Rattle.commit_flush_spec.specs.inside.Numbered.{seen_at}
use Rattle.commit_flush.specs.inside.Places.{later, age_of, frame_of}
use Rattle.commit_flush.proofs.FrameFacts.{none_asked, one_asked, no_age}
use Rattle.trips_isa.specs.declared.block.Image.{Image}
use Rattle.frame_state.specs.declared.phase.Phase.{Phase}
use Rattle.frame_state.specs.inside.Phases.{HasBlock, answered, frame_in}

-- an event is done only while the run goes on
pub goes_on : (o : Stepped) (h : Happened) → unless_over o h ≡ Done → h ≡ Done
goes_on Went h e = e
goes_on Ended h e = absurd (cc)
goes_on StackFull h e = absurd (cc)
goes_on (Trap c) h e = absurd (cc)

-- what is answered at what stands at a number is what is answered by age
pub asked : (none : Happened) (can : Older → Frame → Happened) (n : ℕ) (fs : List Frame) (o : Older)
    (z : Option Frame)
    (h : Happened) → z ≡ frame_of n fs → h ≡ answered none can (seen_at o fs n) z → h ≡ on_frame none can o fs n
asked none can n fs o None h e a = a ∙ sym (none_asked none can n fs o (sym e))
asked none can n fs o (Some f) h e a = a ∙ sym (one_asked none can n fs o f (sym e))

-- a frame that answers Done is there
pub there : (c : Cause) (can : Older → Frame → Happened) (n : ℕ) (fs : List Frame) (o : Older)
    → on_frame (NotNow c) can o fs n ≡ Done
    → (f : Frame) × (frame_of n fs ≡ Some f) × (can (seen_at o fs n) f ≡ Done)
there c can n fs o d = go (frame_of n fs) refl
  where
    go : (z : Option Frame) → frame_of n fs ≡ z
        → (f : Frame) × (frame_of n fs ≡ Some f) × (can (seen_at o fs n) f ≡ Done)
    go None e = absurd (let bad : NotNow c ≡ Done = sym (none_asked (NotNow c) can n fs o e) ∙ d in cc)
    go (Some f) e = (f, e, sym (one_asked (NotNow c) can n fs o f e) ∙ d)

-- the same of an image that is the window's
pub told : (none : Happened) (can : Older → Frame → Happened) (n : ℕ) (fs : List Frame) (o : Older) (a b : Image)
    (p : Phase) (h : Happened) → a ≡ b → frame_in b.blocks p ≡ frame_of n fs
    → ((e : Older) → h ≡ answered none can e (frame_in a.blocks p)) → h ≡ on_frame none can o fs n
told none can n fs o a b p h e w t =
    asked none can n fs o (frame_in b.blocks p) h w
    (t (seen_at o fs n) ∙ ap (λ (i : Image). answered none can (seen_at o fs n) (frame_in i.blocks p)) e)

-- a phase has its block in an equal image too
pub same_blocks : (a b : Image) (p : Phase) → a ≡ b → HasBlock b.blocks p → HasBlock a.blocks p
same_blocks a b p e h = subst (λ (i : Image). HasBlock i.blocks p) (sym e) h

-- what is answered the same at every frame in flight
pub aged : (none h : Happened) (n : ℕ) (fs : List Frame) (o : Older) (a : ℕ) → age_of n fs ≡ Some a
    → h ≡ on_frame none (λ p f. h) o fs n
aged none h n [] o a e = absurd (cc)
aged none h n (f ∷ fs) o a e = go (f.number == n) e (age_of n fs) refl (λ k q. aged none h n fs (after f o) k q)
  where
    go : (b : Bool) → cond b (Some 0) (later (age_of n fs)) ≡ Some a → (p : Option ℕ) → age_of n fs ≡ p
        → ((k : ℕ) → age_of n fs ≡ Some k → h ≡ on_frame none (λ p f. h) (after f o) fs n)
        → h ≡ cond b h (on_frame none (λ p f. h) (after f o) fs n)
    go true w p q rest = refl
    go false w None q rest = absurd (let bad : None ≡ Some a = sym (ap later q) ∙ w in cc)
    go false w (Some k) q rest = rest k q

-- a read that is done is of a register that is known
pub never_unknown : (blocks : List Block) (budget n r : ℕ) (w : Window) → can blocks budget (event.Read n r) w ≡ Done
    → ((f : Frame) → frame_of n w.frames ≡ Some f
    → None ≡ read_seen (seen_at (committed w.state) w.frames n) (slice_get f.code.reads.items r)) → ⊥
never_unknown blocks budget n r w d unknown =
    let t = there NoFrame (can_read r) n w.frames (committed w.state)
    (goes_on w.over (on_frame (NotNow NoFrame) (can_read r) (committed w.state) w.frames n) d) in
    let a = not_now t.0.sealed NoFrame _ t.2 in
    let b = not_now (is_none (slice_get t.0.code.reads.items r) || slice_index_or t.0.reads r false) NoRead _ a.1 in
    let e = not_now (is_none (read_seen (seen_at (committed w.state) w.frames n) (slice_get t.0.code.reads.items r)))
    NotYet _ b.1 in
    let bad : true ≡ false = ap is_none (unknown t.0 t.1) ∙ e.0 in true≢false bad

-- an event of the frame of a number is done only where that is in flight
pub has_age : (c : Cause) (test : Older → Frame → Happened) (n : ℕ) (w : Window)
    → on_frame (NotNow c) test (committed w.state) w.frames n ≡ Done → age_of n w.frames ≡ None → ⊥
has_age c test n w d e =
    let t = there c test n w.frames (committed w.state) d in
    let bad : None ≡ Some t.0 = sym (no_age n w.frames e) ∙ t.1 in
    none-some t.0 bad

-- what is told of the frame at a number is told of the frame of that number
pub told_of : {A : Type 0} (tell : Option Frame → A) (a b : Image) (p : Phase) (z : Option Frame) → a ≡ b
    → frame_in b.blocks p ≡ z → tell (frame_in a.blocks p) ≡ tell z
told_of tell a b p z e w = ap (λ (i : Image). tell (frame_in i.blocks p)) e ∙ ap tell w
