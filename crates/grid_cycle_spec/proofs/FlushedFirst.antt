-- The first frame with a wrong load is the first that a store flushes.
use Rattle.std.proofs.Common.{◌≡◌, ℕ, zero, suc, ◌==◌, ◌||◌, Bool, true, false, cond, not, List}
use Rattle.std.proofs.Common.{[], ◌∷◌, length, drop}
use Rattle.std.proofs.Common.{Option, Some, None, is_some, refl, sym, ap, ◌∙◌, true≢false}
use Rattle.trips_isa.specs.declared.block.Inst.{Inst}
use Rattle.trips_isa.specs.declared.block.Block.{Block}
use Rattle.trips_isa.specs.declared.run.Stepped.{Stepped}
use Rattle.trips_isa.specs.declared.run.Stepped.TheVariants as stepped
use Rattle.trips_isa.specs.Forms.{is_store}
use Rattle.commit_flush_spec.specs.Causes.{NoFrame, NoRequest, Happened, Done, NotNow, judged}
use Rattle.commit_flush_spec.specs.Frames.{Frame, Taken, at, numbers, slot_node}
use Rattle.commit_flush_spec.specs.Sending.{mark_with}
use Rattle.commit_flush_spec.specs.Older.{Older, after, committed, nearest, passes, took_touched, violated, cut}
use Rattle.commit_flush_spec.specs.Memory.{request, is_request, can_store, with_store, store, store_resolved}
use Rattle.commit_flush_spec.specs.inside.Invariant.{FramesOk}
use Rattle.commit_flush_spec.specs.inside.Laws.{WindowOk}
use Rattle.commit_flush_spec.specs.Window.{Window, Store, on_frame, change, can, can_now, unless_over}
use Rattle.commit_flush_spec.specs.Window.{done, if_done, happens}
use Rattle.grid_cycle_spec.specs.Acting.{gone, is_done}
use Rattle.grid_cycle_spec.specs.Choosing.{found_in, least}
use Rattle.grid_cycle_spec.specs.DataTiles.{stored_by, wrong_behind, wrong_from, wrong_in, wrong_load}
use Rattle.grid_cycle_spec.specs.inside.Laws.{first_number, frame_named}

-- loads ------------------------------------------------------------------------------------------

-- the numbers of loads and stores
numbers_are : numbers ≡ 32
unfolding numbers
numbers_are = refl

-- a number is found from one number further on exactly where the next one is found
least_moved : (test : ℕ → Bool) (n k : ℕ) → is_some (least test n (suc k)) ≡ is_some (least (λ j. test (suc j)) n k)
least_moved test zero k = refl
least_moved test (suc n) k = go (test (suc k)) (least_moved test n (suc k))
  where
    go : (b : Bool) → is_some (least test n (suc (suc k))) ≡ is_some (least (λ j. test (suc j)) n (suc k))
        → is_some (cond b (Some (suc k)) (least test n (suc (suc k))))
        ≡ is_some (cond b (Some k) (least (λ j. test (suc j)) n (suc k)))
    go true h = refl
    go false h = h

-- a load is found exactly where one is violated
least_violated : (touched : ℕ → ℕ → Bool) (ts : List (Option Taken))
    → is_some (least (λ k. took_touched (touched k) (at ts k)) (length ts) 0) ≡ violated touched ts
least_violated touched [] = refl
least_violated touched (t ∷ ts) =
    go (took_touched (touched 0) t)
    (least_moved (λ k. took_touched (touched k) (at (t ∷ ts) k)) (length ts) 0
    ∙ least_violated (λ k. touched (suc k)) ts)
  where
    go : (b : Bool) → is_some (least (λ k. took_touched (touched k) (at (t ∷ ts) k)) (length ts) 1)
        ≡ violated (λ k. touched (suc k)) ts
        → is_some (cond b (Some 0) (least (λ k. took_touched (touched k) (at (t ∷ ts) k)) (length ts) 1))
        ≡ (b || violated (λ k. touched (suc k)) ts)
    go true h = refl
    go false h = h

load_found : (touched : ℕ → ℕ → Bool) (ts : List (Option Taken)) → length ts ≡ 32
    → is_some (least (λ k. took_touched (touched k) (at ts k)) numbers 0) ≡ violated touched ts
load_found touched ts sized =
    ap (λ z. is_some (least (λ k. took_touched (touched k) (at ts k)) z 0)) (numbers_are ∙ sym sized)
    ∙ least_violated touched ts

-- frames -----------------------------------------------------------------------------------------

-- each frame has 32 numbers of loads
abbrev AreSized : List Frame → Type 0
AreSized [] = Unit {0}
AreSized (f ∷ fs) = (length f.loads ≡ 32) × AreSized fs

sized_frames : (blocks : List Block) (o : Older) (fs : List Frame) → FramesOk blocks o fs → AreSized fs
sized_frames blocks o [] ok = tt
sized_frames blocks o (f ∷ fs) ok = (ok.2.sized.loads, sized_frames blocks (after f o) fs ok.3)

-- a frame with a load that is found goes first, and else what is found behind it
one_frame : (f x g : Frame) → f.number ≡ x.number → (o : Option ℕ) (b : Bool) → is_some o ≡ b
    → (behind : Option (ℕ × ℕ)) (left fs : List Frame) → frame_named behind ≡ first_number (drop (length left) fs)
    → frame_named (found_in f o behind) ≡ first_number (drop (length (cond b [] (g ∷ left))) (x ∷ fs))
one_frame f x g e None true s behind left fs h = absurd (true≢false (sym s))
one_frame f x g e (Some k) true s behind left fs h = ap Some e
one_frame f x g e None false s behind left fs h = h
one_frame f x g e (Some k) false s behind left fs h = absurd (true≢false s)

behind_first : (touched : ℕ → Bool) (fs : List Frame) → AreSized fs
    → frame_named (wrong_behind touched fs) ≡ first_number (drop (length (cut touched fs)) fs)
behind_first touched [] s = refl
behind_first touched (f ∷ fs) s =
    one_frame f f f refl (least (λ n. took_touched (passes (at f.stores) n touched) (at f.loads n)) numbers 0)
    (violated (λ n. passes (at f.stores) n touched) f.loads)
    (load_found (λ n. passes (at f.stores) n touched) f.loads s.0)
    (wrong_behind (passes (at f.stores) numbers touched) fs) (cut (passes (at f.stores) numbers touched) fs) fs
    (behind_first (passes (at f.stores) numbers touched) fs s.1)

-- from the frame of the store on
own_first : (n : ℕ) (f : Frame) (fs : List Frame) → length f.loads ≡ 32 → AreSized fs → (q : Option (ℕ × Inst))
    → is_request is_store q ≡ true → frame_named (wrong_from n (with_store n (stored_by f q) 0 f) fs)
    ≡ first_number (drop (length (store_resolved n f fs q)) (f ∷ fs))
own_first n f fs l s None e = absurd (true≢false (sym e))
own_first n f fs l s (Some q) e =
    let V : Frame = with_store n (stored_by f (Some q)) (mark_with f (slot_node f.code q.0)) f in
    one_frame (with_store n (stored_by f (Some q)) 0 f) f V refl
    (least (λ k. took_touched (nearest (at V.stores) n k) (at f.loads k)) numbers 0)
    (violated (nearest (at V.stores) n) f.loads) (load_found (nearest (at V.stores) n) f.loads l)
    (wrong_behind (nearest (at V.stores) n numbers) fs) (cut (nearest (at V.stores) n numbers) fs) fs
    (behind_first (nearest (at V.stores) n numbers) fs s)

-- a store that goes on waits
waits : (b c : Bool) → judged ((b, NoFrame) ∷ (not c, NoRequest) ∷ []) ≡ Done → c ≡ true
waits true c e = absurd (cc)
waits false true e = refl
waits false false e = absurd (cc)

frames_first : (m n : ℕ) (o : Older) (fs : List Frame) → AreSized fs
    → on_frame (NotNow NoFrame) (can_store n) o fs m ≡ Done
    → frame_named (wrong_in m n fs) ≡ first_number (drop (length (change (store n) o fs m)) fs)
frames_first m n o [] s e = absurd (cc)
frames_first m n o (f ∷ fs) s e = go (f.number == m) e (frames_first m n (after f o) fs s.1)
  where
    go : (b : Bool) → cond b (can_store n o f) (on_frame (NotNow NoFrame) (can_store n) (after f o) fs m) ≡ Done
        → (on_frame (NotNow NoFrame) (can_store n) (after f o) fs m ≡ Done
        → frame_named (wrong_in m n fs) ≡ first_number (drop (length (change (store n) (after f o) fs m)) fs))
        → frame_named (cond b (wrong_from n (with_store n (stored_by f (request f n)) 0 f) fs) (wrong_in m n fs))
        ≡ first_number (drop (length (cond b (store n o f fs) (f ∷ change (store n) (after f o) fs m))) (f ∷ fs))
    go true d h = own_first n f fs s.0 s.1 (request f n) (waits f.sealed (is_request is_store (request f n)) d)
    go false d h = h d

-- events -----------------------------------------------------------------------------------------

-- all frames are left
none_gone : (fs : List Frame) → drop (length fs) fs ≡ []
none_gone [] = refl
none_gone (f ∷ fs) = none_gone fs

-- an event that is done is done while the run goes on
while_on : (o : Stepped) (h : Happened) → unless_over o h ≡ Done → h ≡ Done
while_on stepped.Went h e = e
while_on stepped.Ended h e = absurd (cc)
while_on stepped.StackFull h e = absurd (cc)
while_on (stepped.Trap c) h e = absurd (cc)

-- the frame of the wrong load that a store meets first is the first frame that the store flushes
pub flushed_first : (blocks : List Block) (budget m n : ℕ) (w : Window) → WindowOk blocks budget w
    → frame_named (wrong_load blocks budget m n w) ≡ first_number (gone w (happens blocks budget (Store m n) w))
flushed_first blocks budget m n w ok = go (can blocks budget (Store m n) w) refl
  where
    go : (h : Happened) → can blocks budget (Store m n) w ≡ h
        → frame_named (cond (is_done h) (wrong_in m n w.frames) None)
        ≡ first_number (gone w (if_done h (done blocks (Store m n) w) w))
    go (NotNow c) e = sym (ap first_number (none_gone w.frames))
    go Done e = frames_first m n (committed w.state) w.frames
        (sized_frames blocks (committed w.state) w.frames ok.frames)
        (while_on w.over (can_now blocks budget (Store m n) w) e)
