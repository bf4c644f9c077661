-- Which frames have a resolved store or an answered load, after each event.
use Rattle.std.proofs.Common.{◌≡◌, ◌≢◌, ℕ, zero, suc, ◌+◌, ◌*◌, ◌<◌, ◌⊎◌, inl, inr, Bool, true, false, cond, ◌==◌}
use Rattle.std.proofs.Common.{◌||◌, List, [], ◌∷◌, ◌++◌, Option, Some, None, length, take, set, slice_get, refl, sym}
use Rattle.std.proofs.Common.{ap, ◌∙◌, subst, arith, true≢false}
use Rattle.std.proofs.lemmas.Option.{same_Some}
use Rattle.trips_isa.specs.declared.block.Inst.{Inst}
use Rattle.trips_isa.specs.declared.block.Block.{Block}
use Rattle.trips_isa.specs.declared.block.Image.{Image}
use Rattle.trips_isa.specs.declared.run.Stepped.{Stepped}
use Rattle.trips_isa.specs.Machine.{Machine}
use Rattle.trips_isa.specs.declared.form.Form.{Form}
use Rattle.trips_isa.specs.declared.form.Form.TheVariants.{General, Immediate, Load, Store, Branch, Constant}
use Rattle.trips_isa.specs.Forms.{form_of}
use Rattle.trips_isa.specs.Rule.{Answer}
use Rattle.trips_isa.specs.Outcomes.{Outcome, Comes, Faults, unless}
use Rattle.block_cases.specs.Orders.{slot_of}
use Rattle.base.specs.Rows.{has_bit}
use Rattle.commit_flush_spec.specs.Causes.{Happened, Done, NotNow}
use Rattle.commit_flush_spec.specs.Frames.{Frame, at, fresh}
use Rattle.commit_flush_spec.specs.Sending.{send, token_with}
use Rattle.commit_flush_spec.specs.Older.{Older, after}
use Rattle.commit_flush_spec.specs.Dataflow.{read, read_seen, read_answered, fire, fire_form, fire_inst}
use Rattle.commit_flush_spec.specs.Dataflow.{deliver, delivered}
use Rattle.commit_flush_spec.specs.Memory.{load, load_answered, store, request, taken_of}
use Rattle.commit_flush_spec.specs.Ends.{exit, seal, outputs, cause_held}
use Rattle.commit_flush_spec.specs.InFlight.{Window, change, alone, flush, fetched, commit, commit_to}
use Rattle.commit_flush_spec.specs.Window.{Event, can, done, if_done}
use Rattle.commit_flush_spec.specs.Dropping.{left_by, none_left, store_left, with_resolved, exit_left}
use Rattle.commit_flush_spec.specs.inside.Dropping.{stored_alone}
use Rattle.commit_flush_spec.specs.inside.Dropping.{exited_alone, unchanged}
use Rattle.commit_flush_spec.proofs.Lists.{blank_at}
use Rattle.commit_flush_spec.proofs.DropFacts.{stores_drop, exits_drop, flushes_drop}
use Rattle.reg_bank.specs.inside.Ages.{Ages}
use Rattle.commit_flush.specs.inside.Places.{age_of, later}
use Rattle.frame_state.specs.declared.phase.Phase.{Phase}
use Rattle.commit_flush.specs.inside.Seen.{IsSound, flying}
use Rattle.commit_flush.specs.inside.Accesses.{AreTold, NoStores, NoLoads, Stands}
use Rattle.commit_flush.proofs.EventFacts.{Becomes}
use Rattle.commit_flush.proofs.TryFacts.{Turns}

-- a change of one frame ----------------------------------------------------------------------------

-- each of the new frames was there before at the same age, but for what the one of an age became
abbrev IsFrom : (Frame → Frame → Type 0) → Option ℕ → List Frame → List Frame → Type 0
IsFrom R age old new = (a : ℕ) (g : Frame) → slice_get new a ≡ Some g
    → (h : Frame) × (slice_get old a ≡ Some h) × ((g ≡ h) ⊎ ((age ≡ Some a) × R g h))

changed : (R : Frame → Frame → Type 0) (does : Older → Frame → Frame) → ((o : Older) (f : Frame) → R (does o f) f)
    → (o : Older) (fs : List Frame) (n : ℕ) → IsFrom R (age_of n fs) fs (change (alone does) o fs n)
changed R does r o [] n = λ a g e. absurd (cc)
changed R does r o (f ∷ fs) n = go (f.number == n) (changed R does r (after f o) fs n)
  where
    one_later : (age : Option ℕ) (a : ℕ) (g h : Frame) → (g ≡ h) ⊎ ((age ≡ Some a) × R g h)
        → (g ≡ h) ⊎ ((later age ≡ Some (suc a)) × R g h)
    one_later age a g h (inl s) = inl s
    one_later age a g h (inr t) = inr (ap later t.0, t.1)

    go : (b : Bool) → IsFrom R (age_of n fs) fs (change (alone does) (after f o) fs n)
        → IsFrom R (cond b (Some 0) (later (age_of n fs))) (f ∷ fs)
        (cond b (does o f ∷ fs) (f ∷ change (alone does) (after f o) fs n))
    go true ih zero g e = (f, refl, inr (refl, subst (λ x. R x f) (same_Some (does o f) g e) (r o f)))
    go true ih (suc a) g e = (g, e, inl refl)
    go false ih zero g e = (f, refl, inl (sym (same_Some f g e)))
    go false ih (suc a) g e = let t = ih a g e in (t.0, t.1, one_later (age_of n fs) a g t.0 t.2)

-- an item of a beginning
taken_at : (k : ℕ) (xs : List Frame) (a : ℕ) (g : Frame) → slice_get (take k xs) a ≡ Some g → slice_get xs a ≡ Some g
taken_at zero xs a g e = absurd (cc)
taken_at (suc k) [] a g e = absurd (cc)
taken_at (suc k) (x ∷ xs) zero g e = e
taken_at (suc k) (x ∷ xs) (suc a) g e = taken_at k xs a g e

cut_from : (R : Frame → Frame → Type 0) (age : Option ℕ) (old new : List Frame) (k : ℕ) → IsFrom R age old new
    → IsFrom R age old (take k new)
cut_from R age old new k h a g e = h a g (taken_at k new a g e)

-- what stays of a frame ------------------------------------------------------------------------------

abbrev SameStores : Frame → Frame → Type 0
SameStores g h = g.stores ≡ h.stores

abbrev SameLoads : Frame → Frame → Type 0
SameLoads g h = g.loads ≡ h.loads

abbrev Alike : Frame → Frame → Type 0
Alike g h = SameStores g h × SameLoads g h

no_stores : (g h : Frame) → SameStores g h → NoStores h → NoStores g
no_stores g h e s n = ap (λ xs. at xs n) e ∙ s n

no_loads : (g h : Frame) → SameLoads g h → NoLoads h → NoLoads g
no_loads g h e s n = ap (λ xs. at xs n) e ∙ s n

-- a set bit of a word, and the others as they were
pub record Sets (age old new : ℕ) : Type 0 where
  pub same : (k : ℕ) → k ≢ age → has_bit new k ≡ has_bit old k
  pub here : has_bit new age ≡ (has_bit old age || true)

or_true : (b : Bool) → (b || true) ≡ true
or_true true = refl
or_true false = refl

-- where it is clear, it was clear before, of another age
was_clear : (age old new a : ℕ) → Sets age old new → has_bit new a ≡ false → (a ≢ age) × (has_bit old a ≡ false)
was_clear age old new a s e = (other, sym (s.same a other) ∙ e)
  where
    other : a ≢ age
    other q = true≢false (sym (s.here ∙ or_true (has_bit old age)) ∙ ap (has_bit new) (sym q) ∙ e)

module _ {storing loading : ℕ} {old new : List Frame} (k : AreTold storing loading old) where
  stay_told : (age : Option ℕ) → IsFrom Alike age old new → AreTold storing loading new
  stay_told age h = record {
    stores = λ a g e b. let t = h a g e in stores a g t.0 t.2 (k.stores a t.0 t.1 b);
    loads = λ a g e b. let t = h a g e in loads a g t.0 t.2 (k.loads a t.0 t.1 b);
  }
    where
      stores : (a : ℕ) (g f : Frame) → (g ≡ f) ⊎ ((age ≡ Some a) × Alike g f) → NoStores f → NoStores g
      stores a g f (inl e) = subst NoStores (sym e)
      stores a g f (inr t) = no_stores g f t.1.0

      loads : (a : ℕ) (g f : Frame) → (g ≡ f) ⊎ ((age ≡ Some a) × Alike g f) → NoLoads f → NoLoads g
      loads a g f (inl e) = subst NoLoads (sym e)
      loads a g f (inr t) = no_loads g f t.1.1

  -- a frame of an age got a store
  stored_told : (age storing2 : ℕ) → Sets age storing storing2 → IsFrom SameLoads (Some age) old new
      → AreTold storing2 loading new
  stored_told age storing2 s h = record {
    stores = λ a g e b. let t = h a g e in let c = was_clear age storing storing2 a s b in
        stores a g t.0 t.2 c.0 (k.stores a t.0 t.1 c.1);
    loads = λ a g e b. let t = h a g e in loads a g t.0 t.2 (k.loads a t.0 t.1 b);
  }
    where
      stores : (a : ℕ) (g f : Frame) → (g ≡ f) ⊎ ((Some age ≡ Some a) × SameLoads g f) → a ≢ age → NoStores f
          → NoStores g
      stores a g f (inl e) ne = subst NoStores (sym e)
      stores a g f (inr t) ne = absurd (ne (sym (same_Some age a t.0)))

      loads : (a : ℕ) (g f : Frame) → (g ≡ f) ⊎ ((Some age ≡ Some a) × SameLoads g f) → NoLoads f → NoLoads g
      loads a g f (inl e) = subst NoLoads (sym e)
      loads a g f (inr t) = no_loads g f t.1

  -- a frame of an age got an answer
  loaded_told : (age loading2 : ℕ) → Sets age loading loading2 → IsFrom SameStores (Some age) old new
      → AreTold storing loading2 new
  loaded_told age loading2 s h = record {
    stores = λ a g e b. let t = h a g e in stores a g t.0 t.2 (k.stores a t.0 t.1 b);
    loads = λ a g e b. let t = h a g e in let c = was_clear age loading loading2 a s b in
        loads a g t.0 t.2 c.0 (k.loads a t.0 t.1 c.1);
  }
    where
      stores : (a : ℕ) (g f : Frame) → (g ≡ f) ⊎ ((Some age ≡ Some a) × SameStores g f) → NoStores f → NoStores g
      stores a g f (inl e) = subst NoStores (sym e)
      stores a g f (inr t) = no_stores g f t.1

      loads : (a : ℕ) (g f : Frame) → (g ≡ f) ⊎ ((Some age ≡ Some a) × SameStores g f) → a ≢ age → NoLoads f
          → NoLoads g
      loads a g f (inl e) ne = subst NoLoads (sym e)
      loads a g f (inr t) ne = absurd (ne (sym (same_Some age a t.0)))

  -- the oldest is gone, and perhaps all
  retired_told : (storing2 loading2 : ℕ) → ((a : ℕ) → has_bit storing2 a ≡ has_bit storing (suc a))
      → ((a : ℕ) → has_bit loading2 a ≡ has_bit loading (suc a))
      → ((a : ℕ) (g : Frame) → slice_get new a ≡ Some g → slice_get old (suc a) ≡ Some g)
      → AreTold storing2 loading2 new
  retired_told storing2 loading2 s l h = record {
    stores = λ a g e b. k.stores (suc a) g (h a g e) (sym (s a) ∙ b);
    loads = λ a g e b. k.loads (suc a) g (h a g e) (sym (l a) ∙ b);
  }

-- the events ---------------------------------------------------------------------------------------

sent_alike : (x p : ℕ) (t : Answer) (f : Frame) → Alike (send x p t f) f
sent_alike x p None f = (refl, refl)
sent_alike x p (Some t) f = (refl, refl)

read_alike : (r : ℕ) (o : Older) (f : Frame) → Alike (read r o f) f
read_alike r o f = go (read_seen o (slice_get f.code.reads.items r))
  where
    go : (v : Option ℕ) → Alike (read_answered r v f) f
    go None = (refl, refl)
    go (Some v) = sent_alike r (256 + 2 * r) (token_with f r v) (record f { reads = set f.reads r true })

fire_alike : (s : ℕ) (o : Older) (f : Frame) → Alike (fire s o f) f
fire_alike s o f = inst (slot_of f.code s)
  where
    form : (t : Form) (i : Inst) → Alike (fire_form t i s (record f { fired = set f.fired s true })) f
    form General i = sent_alike _ _ _ (record f { fired = set f.fired s true })
    form Immediate i = sent_alike _ _ _ (record f { fired = set f.fired s true })
    form Constant i = sent_alike _ _ _ (record f { fired = set f.fired s true })
    form Load i = (refl, refl)
    form Store i = (refl, refl)
    form Branch i = (refl, refl)

    inst : (i : Option Inst) → Alike (fire_inst i s (record f { fired = set f.fired s true })) f
    inst None = (refl, refl)
    inst (Some i) = form (form_of i.op) i

deliver_alike : (p : ℕ) (o : Older) (f : Frame) → Alike (deliver p o f) f
deliver_alike p o f = go (at f.places p)
  where
    go : (t : Answer) → Alike (delivered p t f) f
    go None = (refl, refl)
    go (Some t) = (refl, refl)

load_stores : (n : ℕ) (o : Older) (f : Frame) → SameStores (load n o f) f
load_stores n o f = go (request f n)
  where
    go : (q : Option (ℕ × Inst)) → SameStores (load_answered n o f q) f
    go None = refl
    go (Some q) = (sent_alike _ _ _ (record f {
      requests = set f.requests n None;
      loads = set f.loads n (Some (taken_of q.1 (at f.spots q.0)));
    })).0

store_loads : (n : ℕ) (o : Older) (f : Frame) → SameLoads (stored_alone n o f) f
store_loads n o f = go (request f n)
  where
    go : (q : Option (ℕ × Inst)) → SameLoads (with_resolved n f q) f
    go None = refl
    go (Some q) = refl

module _ {storing loading : ℕ} (o : Older) (fs : List Frame) (k : AreTold storing loading fs) (n : ℕ) where
  -- a Read leaves which frames have stores and loads as it was told
  pub read_told : (r : ℕ) → AreTold storing loading (change (alone (read r)) o fs n)
  read_told r = stay_told k (age_of n fs) (changed Alike (read r) (read_alike r) o fs n)

  -- a Fire leaves which frames have stores and loads as it was told
  pub fire_told : (s : ℕ) → AreTold storing loading (change (alone (fire s)) o fs n)
  fire_told s = stay_told k (age_of n fs) (changed Alike (fire s) (fire_alike s) o fs n)

  -- a Deliver leaves which frames have stores and loads as it was told
  pub deliver_told : (p : ℕ) → AreTold storing loading (change (alone (deliver p)) o fs n)
  deliver_told p = stay_told k (age_of n fs) (changed Alike (deliver p) (deliver_alike p) o fs n)

  -- a Seal leaves which frames have stores and loads as it was told
  pub seal_told : AreTold storing loading (change (alone seal) o fs n)
  seal_told = stay_told k (age_of n fs) (changed Alike seal (λ o f. (refl, refl)) o fs n)

  -- an Exit leaves which frames have stores and loads as it was told
  pub exit_told : (blocks : List Block) → AreTold storing loading (change (exit blocks) o fs n)
  exit_told blocks = subst (AreTold storing loading) (sym (exits_drop blocks o fs n))
      (stay_told k (age_of n fs) (cut_from Alike (age_of n fs) fs (change (alone (exited_alone blocks)) o fs n)
      (left_by (exit_left blocks) o fs n) (changed Alike (exited_alone blocks) (λ o f. (refl, refl)) o fs n)))

  -- a Flush leaves which frames have stores and loads as it was told
  pub flush_told : AreTold storing loading (change flush o fs n)
  flush_told = subst (AreTold storing loading) (sym (flushes_drop o fs n))
      (stay_told k (age_of n fs) (cut_from Alike (age_of n fs) fs (change (alone unchanged) o fs n)
      (left_by none_left o fs n) (changed Alike unchanged (λ o f. (refl, refl)) o fs n)))

  -- a Load sets the bit of its frame among those that have answered loads
  pub load_told : (m age loading2 : ℕ) → age_of n fs ≡ Some age → Sets age loading loading2
      → AreTold storing loading2 (change (alone (load m)) o fs n)
  load_told m age loading2 aged s = loaded_told k age loading2 s
      (subst (λ z. IsFrom SameStores z fs (change (alone (load m)) o fs n)) aged
      (changed SameStores (load m) (load_stores m) o fs n))

  -- a Store sets the bit of its frame among those that have resolved stores
  pub store_told : (m age storing2 : ℕ) → age_of n fs ≡ Some age → Sets age storing storing2
      → AreTold storing2 loading (change (store m) o fs n)
  store_told m age storing2 aged s = subst (AreTold storing2 loading) (sym (stores_drop m o fs n))
      (stored_told k age storing2 s (cut_from SameLoads (Some age) fs (change (alone (stored_alone m)) o fs n)
      (left_by (store_left m) o fs n)
      (subst (λ z. IsFrom SameLoads z fs (change (alone (stored_alone m)) o fs n)) aged
      (changed SameLoads (stored_alone m) (store_loads m) o fs n))))

-- a frame that was filled has neither
module _ {storing loading : ℕ} (w : Window) (k : AreTold storing loading w.frames) (storing2 loading2 : ℕ)
    (stores : (a : ℕ) → a < length w.frames → has_bit storing2 a ≡ has_bit storing a)
    (loads : (a : ℕ) → a < length w.frames → has_bit loading2 a ≡ has_bit loading a) where
  appended : (fs : List Frame) (f : Frame) (a : ℕ) (g : Frame) → slice_get (fs ++ f ∷ []) a ≡ Some g
      → ((slice_get fs a ≡ Some g) × (a < length fs)) ⊎ (g ≡ f)
  appended [] f zero g e = inr (sym (same_Some f g e))
  appended [] f (suc a) g e = absurd (cc)
  appended (x ∷ xs) f zero g e = inl (e, omega arith)
  appended (x ∷ xs) f (suc a) g e = go (appended xs f a g e)
    where
      go : ((slice_get xs a ≡ Some g) × (a < length xs)) ⊎ (g ≡ f)
          → ((slice_get (x ∷ xs) (suc a) ≡ Some g) × (suc a < length (x ∷ xs))) ⊎ (g ≡ f)
      go (inl t) = inl (t.0, let l = t.1 in omega (arith, l))
      go (inr q) = inr q

  still : AreTold storing2 loading2 w.frames
  still = record {
    stores = λ a f e b. k.stores a f e (sym (stores a (within w.frames a f e)) ∙ b);
    loads = λ a f e b. k.loads a f e (sym (loads a (within w.frames a f e)) ∙ b);
  }
    where
      within : (fs : List Frame) (a : ℕ) (f : Frame) → slice_get fs a ≡ Some f → a < length fs
      within [] a f e = absurd (cc)
      within (x ∷ xs) zero f e = omega arith
      within (x ∷ xs) (suc a) f e = let l = within xs a f e in omega (arith, l)

  -- a Fetch leaves which frames have stores and loads as it was told, the new one having none
  pub fetch_told : (block : ℕ) (n : Option ℕ) (b : Option Block)
      → AreTold storing2 loading2 (fetched block n b w).frames
  fetch_told block None b = still
  fetch_told block (Some n) None = still
  fetch_told block (Some n) (Some b) = record {
    stores = λ a g e c. go_stores a g (appended w.frames (fresh n block b) a g e) c;
    loads = λ a g e c. go_loads a g (appended w.frames (fresh n block b) a g e) c;
  }
    where
      go_stores : (a : ℕ) (g : Frame)
          → ((slice_get w.frames a ≡ Some g) × (a < length w.frames)) ⊎ (g ≡ fresh n block b)
          → has_bit storing2 a ≡ false → NoStores g
      go_stores a g (inl t) c = still.stores a g t.0 c
      go_stores a g (inr q) c = subst NoStores (sym q) (λ m. blank_at {A = _} 32 m)

      go_loads : (a : ℕ) (g : Frame)
          → ((slice_get w.frames a ≡ Some g) × (a < length w.frames)) ⊎ (g ≡ fresh n block b)
          → has_bit loading2 a ≡ false → NoLoads g
      go_loads a g (inl t) c = still.loads a g t.0 c
      go_loads a g (inr q) c = subst NoLoads (sym q) (λ m. blank_at {A = _} 32 m)

-- after a commit the younger are left, or none
pub commit_told : {storing loading : ℕ} (w : Window) → AreTold storing loading w.frames → (storing2 loading2 : ℕ)
    → ((a : ℕ) → has_bit storing2 a ≡ has_bit storing (suc a))
    → ((a : ℕ) → has_bit loading2 a ≡ has_bit loading (suc a))
    → AreTold storing2 loading2 (commit w.frames w).frames
commit_told {storing} {loading} w k storing2 loading2 s l = go w.frames refl
  where
    some : (f : Frame) (fs : List Frame) → w.frames ≡ f ∷ fs → (x : Outcome)
        → AreTold storing2 loading2 (commit_to x f fs w).frames
    some f fs e (Comes c) = retired_told (subst (AreTold storing loading) e k) storing2 loading2 s l (λ a g h. h)
    some f fs e (Faults c) =
        retired_told (subst (AreTold storing loading) e k) storing2 loading2 s l (λ a g h. absurd (cc))

    go : (fs : List Frame) → w.frames ≡ fs → AreTold storing2 loading2 (commit fs w).frames
    go [] e = subst (AreTold storing2 loading2) (sym e)
        (retired_told (subst (AreTold storing loading) e k) storing2 loading2 s l (λ a g h. absurd (cc)))
    go (f ∷ fs) e = some f fs e (unless (cause_held f) (outputs f))

-- no frame is told of
pub none_told : (storing loading : ℕ) (fs : List Frame) → fs ≡ [] → AreTold storing loading fs
none_told storing loading fs e = subst (AreTold storing loading) (sym e) (record {
  stores = λ a g h. absurd (cc);
  loads = λ a g h. absurd (cc);
})

-- the window in code -------------------------------------------------------------------------------

module _ {image : Image} {budget : ℕ} {old : Window} {e : Event} {machine : Machine} {over : Stepped}
    {phases : List Phase} {order : List ℕ} {registers : Ages} {storing loading : ℕ} where
  -- an event that is done
  pub stands : Becomes image budget old e machine over phases order registers
      → AreTold storing loading (done image.blocks e old).frames
      → Stands image budget machine over phases order registers storing loading
  stands b k = record {
    sound = b.sound;
    accesses = subst (AreTold storing loading) (sym (ap (λ (w : Window). w.frames) b.same)) k;
  }

  -- an event that is tried
  pub turned_stands : {h : Happened} → Turns image budget old e h machine over phases order registers
      → AreTold storing loading old.frames → AreTold storing loading (done image.blocks e old).frames
      → Stands image budget machine over phases order registers storing loading
  turned_stands t k d = record {
    sound = t.sound;
    accesses = subst (AreTold storing loading) (sym (ap (λ (w : Window). w.frames) t.same))
        (go (can image.blocks budget e old));
  }
    where
      go : (x : Happened) → AreTold storing loading (if_done x (done image.blocks e old) old).frames
      go Done = d
      go (NotNow c) = k

-- no frame is in flight
pub empty_stands : {image : Image} {budget : ℕ} {machine : Machine} {over : Stepped} {phases : List Phase}
    {order : List ℕ} {registers : Ages} {storing loading : ℕ}
    → IsSound image budget machine over phases order registers → order ≡ []
    → Stands image budget machine over phases order registers storing loading
empty_stands {image} {budget} {machine} {over} {phases} {order} {registers} {storing} {loading} s e = record {
  sound = s;
  accesses = none_told storing loading (flying image.blocks phases order) (ap (flying image.blocks phases) e);
}
