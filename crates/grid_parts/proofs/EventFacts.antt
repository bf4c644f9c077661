-- Reads and Fires: neither lets another read be answered or another slot fire, and no frame comes or goes.
use Rattle.std.proofs.Common.{◌≡◌, ℕ, ◌+◌, ◌*◌, ◌==◌, ◌||◌, Bool, true, false, cond, List, []}
use Rattle.std.proofs.Common.{◌∷◌, Option, Some, None}
use Rattle.std.proofs.Common.{slice_get, set, get_or, refl, sym, ap, ◌∙◌}
use Rattle.std.specs.Prelude.{is_none}
use Rattle.trips_isa.specs.declared.block.Inst.{Inst}
use Rattle.trips_isa.specs.declared.block.Block.{Block}
use Rattle.trips_isa.specs.declared.form.Form.{Form}
use Rattle.trips_isa.specs.declared.form.Form.TheVariants.{General, Immediate, Load, Store, Branch, Constant}
use Rattle.trips_isa.specs.declared.run.Stepped.{Stepped}
use Rattle.trips_isa.specs.declared.run.Stepped.TheVariants.{Went, Ended, StackFull, Trap}
use Rattle.trips_isa.specs.Forms.{form_of}
use Rattle.trips_isa.specs.Rule.{Answer}
use Rattle.block_cases.specs.Orders.{slot_of}
use Rattle.commit_flush_spec.specs.Frames.{Frame, slot_node}
use Rattle.commit_flush_spec.specs.Sending.{send, token_with}
use Rattle.commit_flush_spec.specs.Older.{Older, after, committed}
use Rattle.commit_flush_spec.specs.Causes.{Cause, Happened, Done, NotNow, NoFrame, NoRead, NotYet, NoInst, NotReady}
use Rattle.commit_flush_spec.specs.Causes.{judged}
use Rattle.commit_flush_spec.specs.Dataflow.{can_read, read, read_seen, read_answered}
use Rattle.commit_flush_spec.specs.Dataflow.{can_fire, fire, fire_form, fire_inst}
use Rattle.commit_flush_spec.specs.Window.{Window, Fire, Read, on_frame, change, alone, can, done, if_done, happens}
use Rattle.commit_flush_spec.specs.Window.{unless_over}
use Rattle.commit_flush_spec.proofs.Lists.{flag_keeps}
use Rattle.commit_flush_spec.proofs.Numbers.{read_number, fire_number}
use Rattle.grid_cycle_spec.specs.Grid.{numbers_of}
use Rattle.grid_cycle_spec.specs.Acting.{is_done}

-- a change of one frame --------------------------------------------------------------------------

-- a change that keeps the frame's number and what younger frames see of it, and lets nothing be done in it
module _ (none : Happened) (may : Older → Frame → Happened) (does : Older → Frame → Frame)
    (number : (o : Older) (f : Frame) → (does o f).number ≡ f.number)
    (unseen : (o : Older) (f : Frame) → after (does o f) o ≡ after f o)
    (fewer : (o : Older) (f : Frame) → is_done (may o f) ≡ false → is_done (may o (does o f)) ≡ false) where
  pub enables_none : (o : Older) (fs : List Frame) (n m : ℕ) → is_done (on_frame none may o fs m) ≡ false
      → is_done (on_frame none may o (change (alone does) o fs n) m) ≡ false
  enables_none o [] n m e = e
  enables_none o (f ∷ fs) n m e = go (f.number == n) (f.number == m) refl e (enables_none (after f o) fs n m)
    where
      go : (b c : Bool) → (f.number == m) ≡ c
          → is_done (cond c (may o f) (on_frame none may (after f o) fs m)) ≡ false
          → (is_done (on_frame none may (after f o) fs m) ≡ false
          → is_done (on_frame none may (after f o) (change (alone does) (after f o) fs n) m) ≡ false)
          → is_done (on_frame none may o (cond b (does o f ∷ fs) (f ∷ change (alone does) (after f o) fs n)) m)
          ≡ false
      go true true i e behind =
          ap (λ b. is_done (cond b (may o (does o f)) (on_frame none may (after (does o f) o) fs m)))
          (ap (λ k. k == m) (number o f) ∙ i)
          ∙ fewer o f e
      go true false i e behind =
          ap (λ b. is_done (cond b (may o (does o f)) (on_frame none may (after (does o f) o) fs m)))
          (ap (λ k. k == m) (number o f) ∙ i)
          ∙ ap (λ p. is_done (on_frame none may p fs m)) (unseen o f) ∙ e
      go false true i e behind =
          ap (λ b. is_done (cond b (may o f) (on_frame none may (after f o)
          (change (alone does) (after f o) fs n) m))) i
          ∙ e
      go false false i e behind =
          ap (λ b. is_done (cond b (may o f) (on_frame none may (after f o)
          (change (alone does) (after f o) fs n) m))) i
          ∙ behind e

  pub same_numbers : (o : Older) (fs : List Frame) (n : ℕ) → numbers_of (change (alone does) o fs n) ≡ numbers_of fs
  same_numbers o [] n = refl
  same_numbers o (f ∷ fs) n = go (f.number == n) (same_numbers (after f o) fs n)
    where
      go : (b : Bool) → numbers_of (change (alone does) (after f o) fs n) ≡ numbers_of fs
          → numbers_of (cond b (does o f ∷ fs) (f ∷ change (alone does) (after f o) fs n)) ≡ numbers_of (f ∷ fs)
      go true behind = ap (λ k. k ∷ numbers_of fs) (number o f)
      go false behind = ap (λ ks. f.number ∷ ks) behind

-- a cause more does not let it be done
pub fewer_done : (a b q r d : Bool) (x y z : Cause) → (q ≡ true → r ≡ true)
    → is_done (judged ((a, x) ∷ (b || q, y) ∷ (d, z) ∷ [])) ≡ false
    → is_done (judged ((a, x) ∷ (b || r, y) ∷ (d, z) ∷ [])) ≡ false
fewer_done true b q r d x y z h e = refl
fewer_done false true q r d x y z h e = first r
  where
    first : (r : Bool) → is_done (judged ((false, x) ∷ (true || r, y) ∷ (d, z) ∷ [])) ≡ false
    first true = refl
    first false = refl
fewer_done false false true r d x y z h e =
    ap (λ k. is_done (judged ((false, x) ∷ (false || k, y) ∷ (d, z) ∷ []))) (h refl)
fewer_done false false false true d x y z h e = refl
fewer_done false false false false d x y z h e = e

send_unseen : (x p : ℕ) (t : Answer) (f : Frame) (o : Older) → after (send x p t f) o ≡ after f o
send_unseen x p None f o = refl
send_unseen x p (Some t) f o = refl

-- reads ------------------------------------------------------------------------------------------

read_unseen : (r : ℕ) (o : Older) (f : Frame) → after (read r o f) o ≡ after f o
read_unseen r o f = go (read_seen o (slice_get f.code.reads.items r))
  where
    go : (v : Option ℕ) → after (read_answered r v f) o ≡ after f o
    go None = refl
    go (Some v) = send_unseen r (256 + 2 * r) (token_with f r v) (record f { reads = set f.reads r true }) o

read_fewer : (r k : ℕ) (o : Older) (f : Frame) → is_done (can_read k o f) ≡ false
    → is_done (can_read k o (read r o f)) ≡ false
read_fewer r k o f e = go (read_seen o (slice_get f.code.reads.items r))
  where
    less : is_done (can_read k o (record f { reads = set f.reads r true })) ≡ false
    less = fewer_done f.sealed (is_none (slice_get f.code.reads.items k)) (get_or f.reads k false)
        (get_or (set f.reads r true) k false) (is_none (read_seen o (slice_get f.code.reads.items k)))
        NoFrame NoRead NotYet (flag_keeps f.reads r k) e

    by : (t : Answer) → is_done (can_read k o (send r (256 + 2 * r) t (record f { reads = set f.reads r true })))
        ≡ false
    by None = less
    by (Some t) = less

    go : (v : Option ℕ) → is_done (can_read k o (read_answered r v f)) ≡ false
    go None = e
    go (Some v) = by (token_with f r v)

-- firing -----------------------------------------------------------------------------------------

module _ (s : ℕ) (o : Older) (f : Frame) where
  abbrev firing : Frame
  firing = record f { fired = set f.fired s true }

  fire_unseen : after (fire s o f) o ≡ after f o
  fire_unseen = inst (slot_of f.code s)
    where
      form : (t : Form) (i : Inst) → after (fire_form t i s firing) o ≡ after f o
      form General i = send_unseen _ _ _ firing o
      form Immediate i = send_unseen _ _ _ firing o
      form Constant i = send_unseen _ _ _ firing o
      form Load i = refl
      form Store i = refl
      form Branch i = refl

      inst : (i : Option Inst) → after (fire_inst i s firing) o ≡ after f o
      inst None = refl
      inst (Some i) = form (form_of i.op) i

  fire_fewer : (t : ℕ) → is_done (can_fire t o f) ≡ false → is_done (can_fire t o (fire s o f)) ≡ false
  fire_fewer t e = inst (slot_of f.code s)
    where
      less : is_done (can_fire t o firing) ≡ false
      less = fewer_done f.sealed (is_none (slot_of f.code t)) (get_or f.fired t false)
          (get_or (set f.fired s true) t false) (is_none (token_with f (slot_node f.code t) 0))
          NoFrame NoInst NotReady (flag_keeps f.fired s t) e

      sends : (x p : ℕ) (k : Answer) → is_done (can_fire t o (send x p k firing)) ≡ false
      sends x p None = less
      sends x p (Some k) = less

      form : (w : Form) (i : Inst) → is_done (can_fire t o (fire_form w i s firing)) ≡ false
      form General i = sends _ _ _
      form Immediate i = sends _ _ _
      form Constant i = sends _ _ _
      form Load i = less
      form Store i = less
      form Branch i = less

      inst : (i : Option Inst) → is_done (can_fire t o (fire_inst i s firing)) ≡ false
      inst None = less
      inst (Some i) = form (form_of i.op) i

-- windows ----------------------------------------------------------------------------------------

-- once the run has ended nothing is done
over_fewer : (v : Stepped) (h k : Happened) → (is_done h ≡ false → is_done k ≡ false)
    → is_done (unless_over v h) ≡ false → is_done (unless_over v k) ≡ false
over_fewer Went h k less e = less e
over_fewer Ended h k less e = refl
over_fewer StackFull h k less e = refl
over_fewer (Trap c) h k less e = refl

module _ (blocks : List Block) (budget : ℕ) (w : Window) (n : ℕ) where
  -- a Read lets no other read be answered
  pub read_enables_none : (r m k : ℕ) → is_done (can blocks budget (Read m k) w) ≡ false
      → is_done (can blocks budget (Read m k) (happens blocks budget (Read n r) w)) ≡ false
  read_enables_none r m k e = go (can blocks budget (Read n r) w)
    where
      go : (h : Happened) → is_done (can blocks budget (Read m k) (if_done h (done blocks (Read n r) w) w)) ≡ false
      go Done = over_fewer w.over (on_frame (NotNow NoFrame) (can_read k) (committed w.state) w.frames m)
          (on_frame (NotNow NoFrame) (can_read k) (committed w.state)
          (change (alone (read r)) (committed w.state) w.frames n) m)
          (enables_none (NotNow NoFrame) (can_read k) (read r) (read_number r) (read_unseen r) (read_fewer r k)
          (committed w.state) w.frames n m) e
      go (NotNow c) = e

  pub read_numbers : (r : ℕ) → numbers_of (happens blocks budget (Read n r) w).frames ≡ numbers_of w.frames
  read_numbers r = go (can blocks budget (Read n r) w)
    where
      go : (h : Happened) → numbers_of (if_done h (done blocks (Read n r) w) w).frames ≡ numbers_of w.frames
      go Done = same_numbers (NotNow NoFrame) (can_read r) (read r) (read_number r) (read_unseen r) (read_fewer r r)
          (committed w.state) w.frames n
      go (NotNow c) = refl

  -- a Fire lets no other slot fire
  pub fire_enables_none : (s m t : ℕ) → is_done (can blocks budget (Fire m t) w) ≡ false
      → is_done (can blocks budget (Fire m t) (happens blocks budget (Fire n s) w)) ≡ false
  fire_enables_none s m t e = go (can blocks budget (Fire n s) w)
    where
      go : (h : Happened) → is_done (can blocks budget (Fire m t) (if_done h (done blocks (Fire n s) w) w)) ≡ false
      go Done = over_fewer w.over (on_frame (NotNow NoFrame) (can_fire t) (committed w.state) w.frames m)
          (on_frame (NotNow NoFrame) (can_fire t) (committed w.state)
          (change (alone (fire s)) (committed w.state) w.frames n) m)
          (enables_none (NotNow NoFrame) (can_fire t) (fire s) (fire_number s) (fire_unseen s)
          (λ o f. fire_fewer s o f t) (committed w.state) w.frames n m) e
      go (NotNow c) = e

  -- a Fire leaves the numbers of the frames
  pub fire_numbers : (s : ℕ) → numbers_of (happens blocks budget (Fire n s) w).frames ≡ numbers_of w.frames
  fire_numbers s = go (can blocks budget (Fire n s) w)
    where
      go : (h : Happened) → numbers_of (if_done h (done blocks (Fire n s) w) w).frames ≡ numbers_of w.frames
      go Done = same_numbers (NotNow NoFrame) (can_fire s) (fire s) (fire_number s) (fire_unseen s)
          (λ o f. fire_fewer s o f s) (committed w.state) w.frames n
      go (NotNow c) = refl
