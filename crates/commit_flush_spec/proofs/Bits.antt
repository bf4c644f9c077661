-- What the window tells of a frame beforehand is what its events are answered.
use Rattle.std.proofs.Common.{◌≡◌, ℕ, Bool, true, false, cond, not, ◌&&◌, ◌||◌, List, [], ◌∷◌}
use Rattle.std.proofs.Common.{◌++◌, Option, Some, None}
use Rattle.std.proofs.Common.{slice_get, get_or, is_some, is_none, refl, ap, ap₂, ◌∙◌, ◌==◌}
use Rattle.trips_isa.specs.declared.form.Form.{Form}
use Rattle.trips_isa.specs.declared.form.Form.TheVariants.{General, Immediate, Load, Store, Branch, Constant}
use Rattle.trips_isa.specs.declared.block.Inst.{Inst}
use Rattle.trips_isa.specs.declared.block.ReadSlot.{ReadSlot}
use Rattle.trips_isa.specs.Forms.{form_of, is_load, is_store}
use Rattle.trips_isa.specs.Machine.{State}
use Rattle.block_cases.specs.Orders.{slot_of}
use Rattle.commit_flush_spec.specs.Frames.{Frame, slot_node}
use Rattle.commit_flush_spec.specs.Sending.{token_with}
use Rattle.commit_flush_spec.specs.Older.{Older, after, after_all, committed}
use Rattle.commit_flush_spec.specs.Causes.{NoFrame, NoRead, NotYet, NoInst, NotReady, NoRequest, Cause}
use Rattle.commit_flush_spec.specs.Causes.{Happened, judged}
use Rattle.commit_flush_spec.specs.Dataflow.{can_read, read_seen, can_fire}
use Rattle.commit_flush_spec.specs.Memory.{request, is_request, can_load, can_store}
use Rattle.commit_flush_spec.specs.Window.{on_frame, change, in_flight}
use Rattle.commit_flush_spec.proofs.Look.{or_false}
use Rattle.commit_flush_spec.specs.inside.NextEvent.{is_done}
use Rattle.commit_flush_spec.specs.inside.Observers.{is_ready, is_unread, has_number, is_asked}
use Rattle.commit_flush_spec.proofs.Next.{same}

-- three causes
three : (a b c d : Bool) (x y z : Cause)
    → (not a && (not b && (not c && not d))) ≡ is_done (judged ((a, x) ∷ (b || c, y) ∷ (d, z) ∷ []))
three true b c d x y z = refl
three false true c d x y z = refl
three false false true d x y z = refl
three false false false true x y z = refl
three false false false false x y z = refl

some_not_none : {A : Type 0} (t : Option A) → is_some t ≡ not (is_none t)
some_not_none None = refl
some_not_none (Some v) = refl

-- the bit of a ready slot is whether it may fire
pub ready_tells : (o : Older) (f : Frame) (s : ℕ) → is_ready f s ≡ is_done (can_fire s o f)
ready_tells o f s =
    ap₂ (λ x y. not f.sealed && (x && (not (get_or f.fired s false) && y))) (some_not_none (slot_of f.code s))
    (some_not_none (token_with f (slot_node f.code s) 0))
    ∙ three f.sealed (is_none (slot_of f.code s)) (get_or f.fired s false)
    (is_none (token_with f (slot_node f.code s) 0)) NoFrame NoInst NotReady

-- the oldest frame sees every register
pub unread_tells : (s : State) (f : Frame) (r : ℕ) → is_unread f r ≡ is_done (can_read r (committed s) f)
unread_tells s f r = by f.sealed (slice_get f.code.reads.items r) (get_or f.reads r false)
  where
    by : (a : Bool) (q : Option ReadSlot) (c : Bool) → (not a && (is_some q && not c))
        ≡ is_done (judged ((a, NoFrame) ∷ (is_none q || c, NoRead)
        ∷ (is_none (read_seen (committed s) q), NotYet) ∷ []))
    by true q c = refl
    by false None c = refl
    by false (Some x) true = refl
    by false (Some x) false = refl

-- a request is asked for exactly where its load or its store may be done
pub asked_tells : (o : Older) (f : Frame) (n : ℕ)
    → is_asked f n ≡ (is_done (can_load n o f) || is_done (can_store n o f))
asked_tells o f n = by f.sealed (request f n)
  where
    kinds : (t : Form) → has_number t
        ≡ (is_done (judged ((not (is_load t), NoRequest) ∷ []))
        || is_done (judged ((not (is_store t), NoRequest) ∷ [])))
    kinds General = refl
    kinds Immediate = refl
    kinds Constant = refl
    kinds Load = refl
    kinds Store = refl
    kinds Branch = refl

    by : (a : Bool) (q : Option (ℕ × Inst)) → (not a && is_request has_number q)
        ≡ (is_done (judged ((a, NoFrame) ∷ (not (is_request is_load q), NoRequest) ∷ []))
        || is_done (judged ((a, NoFrame) ∷ (not (is_request is_store q), NoRequest) ∷ [])))
    by true q = refl
    by false None = refl
    by false (Some q) = kinds (form_of (q.1).op)

-- an event acts at its frame ---------------------------------------------------------------------

-- a change of the frame of a number acts at that frame, which sees what the older ones make
pub change_at : (does : Older → Frame → List Frame → List Frame) (fs : List Frame) (o : Older) (f : Frame)
    (gs : List Frame) → in_flight f.number fs ≡ false
    → change does o (fs ++ f ∷ gs) f.number ≡ fs ++ does (after_all fs o) f gs
change_at does [] o f gs e = ap (λ b. cond b (does o f gs) (f ∷ change does (after f o) gs f.number)) (same f.number)
change_at does (g ∷ fs) o f gs e =
    let k = or_false (g.number == f.number) (in_flight f.number fs) e in
    ap (λ b. cond b (does o g (fs ++ f ∷ gs)) (g ∷ change does (after g o) (fs ++ f ∷ gs) f.number)) k.0
    ∙ ap (λ l. g ∷ l) (change_at does fs (after g o) f gs k.1)

-- the answer of the frame of a number is its own, by what it sees of the older ones
pub answer_at : (none : Happened) (can : Older → Frame → Happened) (fs : List Frame) (o : Older) (f : Frame)
    (gs : List Frame) → in_flight f.number fs ≡ false
    → on_frame none can o (fs ++ f ∷ gs) f.number ≡ can (after_all fs o) f
answer_at none can [] o f gs e =
    ap (λ b. cond b (can o f) (on_frame none can (after f o) gs f.number)) (same f.number)
answer_at none can (g ∷ fs) o f gs e =
    let k = or_false (g.number == f.number) (in_flight f.number fs) e in
    ap (λ b. cond b (can o g) (on_frame none can (after g o) (fs ++ f ∷ gs) f.number)) k.0
    ∙ answer_at none can fs (after g o) f gs k.1
