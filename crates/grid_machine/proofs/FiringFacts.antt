-- Which slots of the frame of a number may fire, and which reads may be answered.
use Rattle.std.proofs.Common.{◌≡◌, ℕ, ◌+◌, ◌-◌, ◌*◌, ◌<◌, ◌≤◌, ◌⊎◌, inl, inr, Bool, true, false}
use Rattle.std.proofs.Common.{cond, not, ◌&&◌, ◌||◌}
use Rattle.std.proofs.Common.{nat_lt, List, [], ◌∷◌, Option, Some, None, slice_get, slice_index_or}
use Rattle.std.proofs.Common.{refl, sym, ap, ◌∙◌, arith, is_some, is_none, true≢false}
use Rattle.std.proofs.lemmas.Bool.{cases_lt, lt-ltb, le-ltb}
use Rattle.trips_isa.specs.declared.block.Block.{Block}
use Rattle.trips_isa.specs.declared.run.Stepped.{Stepped}
use Rattle.trips_isa.specs.declared.run.Stepped.TheVariants.{Went, Ended, StackFull, Trap}
use Rattle.trips_isa.specs.Rule.{Answer}
use Rattle.block_cases.specs.Orders.{slot_of}
use Rattle.commit_flush_spec.specs.Causes.{Cause, Done, Happened, NoFrame, NoInst, NoRead}
use Rattle.commit_flush_spec.specs.Causes.{NotNow, NotReady, NotYet, judged}
use Rattle.commit_flush_spec.specs.Dataflow.{can_fire, can_read, read_seen}
use Rattle.commit_flush_spec.specs.Frames.{Frame, slot_node}
use Rattle.commit_flush_spec.specs.InFlight.{on_frame}
use Rattle.commit_flush_spec.specs.inside.Numbered.{seen_at}
use Rattle.commit_flush_spec.specs.Older.{Older}
use Rattle.commit_flush_spec.specs.Sending.{token_with}
use Rattle.commit_flush_spec.specs.Window.{unless_over}
use Rattle.commit_flush.specs.inside.Places.{frame_of}
use Rattle.commit_flush.proofs.FrameFacts.{none_asked, one_asked}
use Rattle.frame_state.specs.inside.Held.{Held, running}
use Rattle.frame_state.specs.inside.Shapes.{is_ready}
use Rattle.commit_flush.specs.inside.Observed.{unread_in}
use Rattle.frame_state.specs.inside.Events as events
use Rattle.frame_state.specs.inside.Phases.{IsIdle}
use Rattle.operand_net.specs.Marks.{has_bit}
use Rattle.grid_cycle_spec.specs.Acting.{is_done}
use Rattle.grid_machine.proofs.WordFacts.{no_bit}

-- done is done
pub same_done : (h : Happened) → events.is_done h ≡ is_done h
same_done Done = refl
same_done (NotNow c) = refl

-- a frame that does not run lets nothing happen
pub idle_frame : (rest : Frame → List (Bool × Cause)) (n : ℕ) (fs : List Frame) (o : Older) → IsIdle (frame_of n fs)
    → is_done (on_frame (NotNow NoFrame) (λ p f. judged ((f.sealed, NoFrame) ∷ rest f)) o fs n) ≡ false
idle_frame rest n fs o i = go (frame_of n fs) refl i
  where
    go : (z : Option Frame) → frame_of n fs ≡ z → IsIdle z
        → is_done (on_frame (NotNow NoFrame) (λ p f. judged ((f.sealed, NoFrame) ∷ rest f)) o fs n) ≡ false
    go None e k = ap is_done (none_asked (NotNow NoFrame) (λ p f. judged ((f.sealed, NoFrame) ∷ rest f)) n fs o e)
    go (Some f) e k =
        ap is_done (one_asked (NotNow NoFrame) (λ p g. judged ((g.sealed, NoFrame) ∷ rest g)) n fs o f e)
        ∙ ap (λ b. is_done (cond b (NotNow NoFrame) (judged (rest f)))) k

-- firing -----------------------------------------------------------------------------------------

two : (a : Bool) (t : Answer) → (not a && is_some t) ≡ is_done (judged ((a, NoInst) ∷ (is_none t, NotReady) ∷ []))
two true t = refl
two false None = refl
two false (Some x) = refl

-- a slot of a frame that runs may fire where it is ready
pub ready_fires : (n s : ℕ) (fs : List Frame) (o : Older) (b : Block) (h : Held) (x : Bool)
    → frame_of n fs ≡ Some (running b h) → x ≡ is_ready (running b h) s
    → x ≡ is_done (on_frame (NotNow NoFrame) (can_fire s) o fs n)
ready_fires n s fs o b h x e is =
    is ∙ two (is_none (slot_of b s) || slice_index_or h.fired s false) (token_with (running b h) (slot_node b s) 0)
    ∙ sym (ap is_done (one_asked (NotNow NoFrame) (can_fire s) n fs o (running b h) e))

-- where no frame runs, no slot may fire
pub idle_fires : (n s : ℕ) (fs : List Frame) (o : Older) → IsIdle (frame_of n fs)
    → has_bit 0 s ≡ is_done (on_frame (NotNow NoFrame) (can_fire s) o fs n)
idle_fires n s fs o i =
    no_bit s ∙ sym (idle_frame (λ (f : Frame). (is_none (slot_of f.code s) || slice_index_or f.fired s false, NoInst)
    ∷ (is_none (token_with f (slot_node f.code s) 0), NotReady) ∷ []) n fs o i)

-- two words of ready slots are one
pub both_ready : (low high : ℕ) (test : ℕ → Bool) (s : ℕ)
    → ((k : ℕ) → k < 64 → has_bit low k ≡ test (64 * 0 + k)) → ((k : ℕ) → k < 64 → has_bit high k ≡ test (64 * 1 + k))
    → s < 128 → cond (nat_lt s 64) (has_bit low s) (has_bit high (s - 64)) ≡ test s
both_ready low high test s first second l = go (cases_lt s 64)
  where
    go : (s < 64) ⊎ (64 ≤ s) → cond (nat_lt s 64) (has_bit low s) (has_bit high (s - 64)) ≡ test s
    go (inl k) =
        let e : 64 * 0 + s ≡ s = omega arith in
        ap (λ b. cond b (has_bit low s) (has_bit high (s - 64))) (lt-ltb s 64 k) ∙ first s k ∙ ap test e
    go (inr k) =
        let e : 64 * 1 + (s - 64) ≡ s = omega arith in
        ap (λ b. cond b (has_bit low s) (has_bit high (s - 64))) (le-ltb s 64 k) ∙ second (s - 64) (omega arith)
        ∙ ap test e

-- the run ---------------------------------------------------------------------------------------

-- what is not done while it goes on is not done at all
pub never_done : (o : Stepped) (h : Happened) → is_done h ≡ false → is_done (unless_over o h) ≡ false
never_done Went h e = e
never_done Ended h e = refl
never_done StackFull h e = refl
never_done (Trap c) h e = refl

-- reads ------------------------------------------------------------------------------------------

-- a read that is not open at the frame of a number is not answered
pub not_open : (n r x : ℕ) (fs : List Frame) (o : Older) → has_bit x r ≡ unread_in r (frame_of n fs)
    → has_bit x r ≡ false → is_done (on_frame (NotNow NoFrame) (can_read r) o fs n) ≡ false
not_open n r x fs o is off = go (frame_of n fs) refl (sym is ∙ off)
  where
    three : (s t u : Bool) → (not s && not t) ≡ false
        → is_done (judged ((s, NoFrame) ∷ (t, NoRead) ∷ (u, NotYet) ∷ [])) ≡ false
    three true t u e = refl
    three false true u e = refl
    three false false u e = absurd (true≢false e)

    go : (z : Option Frame) → frame_of n fs ≡ z → unread_in r z ≡ false
        → is_done (on_frame (NotNow NoFrame) (can_read r) o fs n) ≡ false
    go None e k = ap is_done (none_asked (NotNow NoFrame) (can_read r) n fs o e)
    go (Some f) e k =
        ap is_done (one_asked (NotNow NoFrame) (can_read r) n fs o f e)
        ∙ three f.sealed (is_none (slice_get f.code.reads.items r) || slice_index_or f.reads r false)
        (is_none (read_seen (seen_at o fs n) (slice_get f.code.reads.items r))) k
