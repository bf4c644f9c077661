-- The next event of a window is done, and there is one while the run goes on.
use Rattle.std.proofs.Common.{◌≡◌, ◌≢◌, ℕ, zero, suc, ◌+◌, ◌-◌, ◌*◌, ◌/◌, ◌%◌, ◌^◌, ◌<◌, ◌≤◌, Bool, true, false}
use Rattle.std.proofs.Common.{cond, not}
use Rattle.std.proofs.Common.{◌==◌, ◌⊎◌, ◌↔◌, inl, inr, nat_le, List, [], ◌∷◌, Option, Some, None, slice_get, length}
use Rattle.std.proofs.Common.{slice_index, is_none, refl, sym, ap, ap₂, ◌∙◌, subst, true≢false, arith}
use Rattle.std.proofs.lemmas.Bool.Decides.{nat_tests}
use Rattle.trips_isa.specs.declared.block.Block.{Block}
use Rattle.trips_isa.specs.declared.run.Stepped.{Stepped}
use Rattle.trips_isa.specs.declared.run.Stepped.TheVariants.{Went, Ended, StackFull, Trap}
use Rattle.trips_isa.specs.Machine.{State}
use Rattle.commit_flush_spec.specs.Frames.{Frame}
use Rattle.commit_flush_spec.specs.Older.{Older, after, committed}
use Rattle.commit_flush_spec.specs.Causes.{NoFrame, NoBlock, Worn, Wrong, NoToken, Missing, Unsealed, Spent}
use Rattle.commit_flush_spec.specs.Causes.{Happened, Done, NotNow}
use Rattle.commit_flush_spec.specs.Dataflow.{can_read, can_fire, can_deliver}
use Rattle.commit_flush_spec.specs.Memory.{can_load, can_store}
use Rattle.commit_flush_spec.specs.Ends.{can_exit, can_seal, complete}
use Rattle.commit_flush_spec.specs.Window.{Window, Event, on_frame, lowest_empty, is_worn, can_fetch, is_sealed}
use Rattle.commit_flush_spec.specs.Window.{can_commit, can_now, unless_over, can}
use Rattle.commit_flush_spec.specs.Window as event
use Rattle.commit_flush_spec.specs.inside.Invariant.{FramesOk, AllGood}
use Rattle.commit_flush_spec.specs.inside.Laws.{WindowOk, AllKept}
use Rattle.block_check.proofs.Spots.{le_true, true_le}
use Rattle.commit_flush_spec.specs.inside.NextEvent.{next_step, next_of_frame, next_in, while_going, next_event}
use Rattle.commit_flush_spec.specs.DrivingLaws.{is_step_of}
use Rattle.commit_flush_spec.specs.inside.DrivingLaws.{is_guess, IsNextIn, MayFill}
use Rattle.commit_flush_spec.proofs.Search.{clear}
use Rattle.commit_flush_spec.proofs.Stuck.{quiet_is_complete}
use Rattle.commit_flush_spec.proofs.Steps.{Stepping, Delivers, Fires, Reads, Stores, Loads, Exits, step_is, quiet_of}

-- a number is equal to itself
pub same : (n : ℕ) → (n == n) ≡ true
same n = grind arith

-- the frame of its own number --------------------------------------------------------------------

-- asked by its number, the oldest frame answers for itself
pub at_oldest : (none : Happened) (can : Older → Frame → Happened) (o : Older) (f : Frame) (fs : List Frame)
    → on_frame none can o (f ∷ fs) f.number ≡ can o f
at_oldest none can o f fs = ap (λ b. cond b (can o f) (on_frame none can (after f o) fs f.number)) (same f.number)

-- the same where the frames are known by an equation
pub oldest : (none : Happened) (can : Older → Frame → Happened) (w : Window) (f : Frame) (fs : List Frame)
    → w.frames ≡ f ∷ fs → can (committed w.state) f ≡ Done
    → on_frame none can (committed w.state) w.frames f.number ≡ Done
oldest none can w f fs e d = ap (λ l. on_frame none can (committed w.state) l f.number) e
    ∙ at_oldest none can (committed w.state) f fs ∙ d

-- a place of a frame is told again from its number and the frame's
pub place_of : (n p : ℕ) → p < 320 → ((n * 320 + p) % 320 ≡ p) × ((n * 320 + p) / 320 ≡ n)
place_of n p l = (omega (arith, l), omega (arith, l))

-- each step of the oldest frame is done ----------------------------------------------------------

pub step_done : (blocks : List Block) (budget : ℕ) (w : Window) (f : Frame) (fs : List Frame) → w.frames ≡ f ∷ fs
    → (e : Event) → Stepping (committed w.state) f e → can_now blocks budget e w ≡ Done
step_done blocks budget w f fs e x (Delivers p l z d) =
    let at' = place_of f.number p l in
    ap (λ y. can_now blocks budget y w) z
    ∙ ap₂ (λ k n. on_frame (NotNow NoToken) (can_deliver k) (committed w.state) w.frames n) at'.0 at'.1
    ∙ oldest (NotNow NoToken) (can_deliver p) w f fs e d
step_done blocks budget w f fs e x (Fires s z d) =
    ap (λ y. can_now blocks budget y w) z ∙ oldest (NotNow NoFrame) (can_fire s) w f fs e d
step_done blocks budget w f fs e x (Reads r z d) =
    ap (λ y. can_now blocks budget y w) z ∙ oldest (NotNow NoFrame) (can_read r) w f fs e d
step_done blocks budget w f fs e x (Stores n z d k) =
    ap (λ y. can_now blocks budget y w) z ∙ oldest (NotNow NoFrame) (can_store n) w f fs e d
step_done blocks budget w f fs e x (Loads n z d k) =
    ap (λ y. can_now blocks budget y w) z ∙ oldest (NotNow NoFrame) (can_load n) w f fs e d
step_done blocks budget w f fs e x (Exits z d) =
    ap (λ y. can_now blocks budget y w) z ∙ oldest (NotNow NoFrame) can_exit w f fs e d

-- it is of the frame, and no guess
pub step_kind : (o : Older) (f : Frame) (e : Event) → Stepping o f e
    → (is_step_of f.number e ≡ true) × (is_guess f e ≡ false)
step_kind o f e (Delivers p l z d) = (
  ap (is_step_of f.number) z ∙ ap (λ n. n == f.number) (place_of f.number p l).1 ∙ same f.number,
  ap (is_guess f) z,
)
step_kind o f e (Fires s z d) = (ap (is_step_of f.number) z ∙ same f.number, ap (is_guess f) z)
step_kind o f e (Reads r z d) = (ap (is_step_of f.number) z ∙ same f.number, ap (is_guess f) z)
step_kind o f e (Stores n z d k) = (ap (is_step_of f.number) z ∙ same f.number, ap (is_guess f) z)
step_kind o f e (Loads n z d k) = (ap (is_step_of f.number) z ∙ same f.number, ap (is_guess f) z ∙ ap not k)
step_kind o f e (Exits z d) = (ap (is_step_of f.number) z ∙ same f.number, ap (is_guess f) z)

-- what the next event is -------------------------------------------------------------------------

-- which event is the next of a window, case by case
pub data Next (w : Window) (e : Event) : Type 0 where
  Fetches : w.frames ≡ [] → e ≡ event.Fetch w.state.next → Next w e
  Commits : (f : Frame) (fs : List Frame) → w.frames ≡ f ∷ fs → f.sealed ≡ true → e ≡ event.Commit → Next w e
  Seals : (f : Frame) (fs : List Frame) → w.frames ≡ f ∷ fs → f.sealed ≡ false → complete f ≡ true
      → e ≡ event.Seal f.number → Next w e
  Takes : (f : Frame) (fs : List Frame) → w.frames ≡ f ∷ fs → Stepping (committed w.state) f e → Next w e

frame_next : (w : Window) (f : Frame) (fs : List Frame) → w.frames ≡ f ∷ fs → (e : Event)
    → next_of_frame (committed w.state) f ≡ Some e → Next w e
frame_next w f fs i e h = go f.sealed refl (complete f) refl h
  where
    go : (b : Bool) → f.sealed ≡ b → (c : Bool) → complete f ≡ c
        → cond b (Some event.Commit) (cond c (Some (event.Seal f.number)) (next_step (committed w.state) f)) ≡ Some e
        → Next w e
    go true s c z k = Commits f fs i s (let it : event.Commit ≡ e = cc in sym it)
    go false s true z k = Seals f fs i s z (let it : event.Seal f.number ≡ e = cc in sym it)
    go false s false z k = Takes f fs i (step_is (committed w.state) f e k)

pub next_is : (w : Window) (e : Event) → next_in w.frames w.state ≡ Some e → Next w e
next_is w e h = go w.frames refl h
  where
    go : (l : List Frame) → w.frames ≡ l → next_in l w.state ≡ Some e → Next w e
    go [] i k = Fetches i (let it : event.Fetch w.state.next ≡ e = cc in sym it)
    go (f ∷ fs) i k = frame_next w f fs i e k

-- the run goes on where there is a next event
pub going : (o : Stepped) (spent : Bool) (t : Option Event) (e : Event) → while_going o spent t ≡ Some e
    → (o ≡ Went) × (spent ≡ false) × (t ≡ Some e)
going Went false t e h = (refl, refl, h)
going Went true t e h = absurd (cc)
going Ended spent t e h = absurd (cc)
going StackFull spent t e h = absurd (cc)
going (Trap c) spent t e h = absurd (cc)

false_le : (a b : ℕ) → nat_le a b ≡ false → b < a
false_le a b e = grind (arith, nat_tests)

le_false : (a b : ℕ) → b < a → nat_le a b ≡ false
le_false a b l = go (nat_le a b) refl
  where
    go : (c : Bool) → nat_le a b ≡ c → c ≡ false
    go false i = refl
    go true i = let le : a ≤ b = true_le a b i in absurd (omega (arith, le, l))

-- a next event comes of a run that goes on, within its budget
pub parts : (budget : ℕ) (w : Window) (e : Event) → next_event budget w ≡ Some e
    → (w.over ≡ Went) × (length w.state.trace < budget) × Next w e
parts budget w e h =
    let k = going w.over (nat_le budget (length w.state.trace)) (next_in w.frames w.state) e h in
    (k.0, false_le budget (length w.state.trace) k.1, next_is w e k.2)

-- the event that is next is one that the frames and the state call for
pub which : (budget : ℕ) (e : Event) (w : Window) → next_event budget w ≡ Some e → IsNextIn w.frames w.state e
which budget e w h = by (parts budget w e h).2
  where
    by : Next w e → IsNextIn w.frames w.state e
    by (Fetches i z) = subst (λ l. IsNextIn l w.state e) (sym i) z
    by (Commits f fs i s z) = subst (λ l. IsNextIn l w.state e) (sym i) (inl (s, z))
    by (Seals f fs i s c z) = subst (λ l. IsNextIn l w.state e) (sym i) (inr (inl (c, z)))
    by (Takes f fs i t) = subst (λ l. IsNextIn l w.state e) (sym i) (inr (inr (step_kind (committed w.state) f e t)))

-- it is done -------------------------------------------------------------------------------------

not_last : (a l : ℕ) → a < l → (a == l) ≡ false
not_last a l h = go (a == l) refl
  where
    go : (b : Bool) → (a == l) ≡ b → b ≡ false
    go false i = refl
    go true i = let it : a ≡ l = grind arith in absurd (omega (arith, it, h))

got : (blocks : List Block) (k : ℕ) → k < length blocks → is_none (slice_get blocks k) ≡ false
got [] k l = absurd (omega (arith, l))
got (b ∷ bs) zero l = refl
got (b ∷ bs) (suc k) l = got bs k (omega (arith, l))

pub fetch_done : (blocks : List Block) (w : Window) → w.state.next < length blocks → MayFill w → w.frames ≡ []
    → can_fetch blocks w.state.next w ≡ Done
fetch_done blocks w l fill i =
    ap (λ fs. can_fetch blocks w.state.next (record w { frames = fs })) i
    ∙ clear (is_none (slice_get blocks w.state.next)) NoBlock _ (got blocks w.state.next l)
    (clear (slice_index w.generations 0 == 2 ^ 64 - 1) Worn _ (not_last _ _ fill)
    (clear (not (w.state.next == w.state.next)) Wrong _ (ap not (same w.state.next)) refl))

pub now_done : (blocks : List Block) (budget : ℕ) (w : Window) → WindowOk blocks budget w → MayFill w
    → length w.state.trace < budget → (e : Event) → Next w e → can_now blocks budget e w ≡ Done
now_done blocks budget w ok fill room e (Fetches i z) =
    ap (λ y. can_now blocks budget y w) z ∙ fetch_done blocks w ok.next fill i
now_done blocks budget w ok fill room e (Commits f fs i s z) =
    ap (λ y. can_now blocks budget y w) z
    ∙ clear (not (is_sealed w.frames)) Unsealed _ (ap (λ l. not (is_sealed l)) i ∙ ap not s)
    (clear (nat_le budget (length w.state.trace)) Spent _ (le_false budget (length w.state.trace) room) refl)
now_done blocks budget w ok fill room e (Seals f fs i s c z) =
    ap (λ y. can_now blocks budget y w) z
    ∙ oldest (NotNow NoFrame) can_seal w f fs i
    (clear f.sealed NoFrame _ s (clear (not (complete f)) Missing _ (ap not c) refl))
now_done blocks budget w ok fill room e (Takes f fs i t) = step_done blocks budget w f fs i e t

-- a next event is done
pub next_done : (blocks : List Block) (budget : ℕ) (e : Event) (w : Window) → WindowOk blocks budget w → MayFill w
    → next_event budget w ≡ Some e → can blocks budget e w ≡ Done
next_done blocks budget e w ok fill h =
    let k = parts budget w e h in
    ap (λ o. unless_over o (can_now blocks budget e w)) k.0 ∙ now_done blocks budget w ok fill k.1 e k.2

-- there is one -----------------------------------------------------------------------------------

pub some_look : (s : State) (r : ℕ) → (committed s).look r ≢ None
some_look s r = λ z. cc

-- a running frame without all its outputs takes a step
pub a_step : (blocks : List Block) → AllGood blocks → (budget : ℕ) (w : Window) → WindowOk blocks budget w
    → (f : Frame) (fs : List Frame) → w.frames ≡ f ∷ fs → f.sealed ≡ false → complete f ≡ false
    → next_step (committed w.state) f ≢ None
a_step blocks good budget w ok f fs i s c none =
    let all : FramesOk blocks (committed w.state) (f ∷ fs) =
    subst (FramesOk blocks (committed w.state)) i ok.frames in
    let kept : AllKept (f ∷ fs) = subst AllKept i ok.kept in
    true≢false (sym (quiet_is_complete blocks good (committed w.state) f all.2 (kept.0 s)
    (quiet_of blocks good (committed w.state) f all.2 s (some_look w.state) none)) ∙ c)

-- an oldest frame that lacks an output may take a step that is no guess
pub never_stuck : (blocks : List Block) (budget : ℕ) (w : Window) (f : Frame) (fs : List Frame) → AllGood blocks
    → WindowOk blocks budget w → w.over ≡ Went → w.frames ≡ f ∷ fs → f.sealed ≡ false → complete f ≡ false
    → (e : Event) × (is_step_of f.number e ≡ true) × (is_guess f e ≡ false) × (can blocks budget e w ≡ Done)
never_stuck blocks budget w f fs good ok over i s c = go (next_step (committed w.state) f) refl
  where
    go : (t : Option Event) → next_step (committed w.state) f ≡ t → (e : Event) × (is_step_of f.number e ≡ true)
        × (is_guess f e ≡ false) × (can blocks budget e w ≡ Done)
    go None z = absurd (a_step blocks good budget w ok f fs i s c z)
    go (Some e) z =
        let t = step_is (committed w.state) f e z in
        let k = step_kind (committed w.state) f e t in (
          e,
          k.0,
          k.1,
          ap (λ o. unless_over o (can_now blocks budget e w)) over
              ∙ step_done blocks budget w f fs i e t,
        )

some_next : (blocks : List Block) → AllGood blocks → (budget : ℕ) (w : Window) → WindowOk blocks budget w
    → next_in w.frames w.state ≢ None
some_next blocks good budget w ok h = go w.frames refl h
  where
    go : (l : List Frame) → w.frames ≡ l → next_in l w.state ≡ None → ⊥
    go [] i k = let bad : Some (event.Fetch w.state.next) ≡ None = k in cc
    go (f ∷ fs) i k = by f.sealed refl (complete f) refl k
      where
        by : (b : Bool) → f.sealed ≡ b → (c : Bool) → complete f ≡ c
            → cond b (Some event.Commit) (cond c (Some (event.Seal f.number)) (next_step (committed w.state) f))
            ≡ None
            → ⊥
        by true s c z k = let bad : Some event.Commit ≡ None = k in cc
        by false s true z k = let bad : Some (event.Seal f.number) ≡ None = k in cc
        by false s false z k = a_step blocks good budget w ok f fs i s z k

ended : (o : Stepped) (spent : Bool) (t : Option Event) → o ≢ Went → while_going o spent t ≡ None
ended Went spent t n = absurd (n refl)
ended Ended spent t n = refl
ended StackFull spent t n = refl
ended (Trap c) spent t n = refl

-- a run that has ended has no next event
pub none_after : (budget : ℕ) (w : Window) → w.over ≢ Went → next_event budget w ≡ None
none_after budget w n = ended w.over _ _ n

all_spent : (o : Stepped) (t : Option Event) → while_going o true t ≡ None
all_spent Went t = refl
all_spent Ended t = refl
all_spent StackFull t = refl
all_spent (Trap c) t = refl

pub stopped : (o : Stepped) (spent : Bool) (t : Option Event) → t ≢ None → while_going o spent t ≡ None
    → (o ≢ Went) ⊎ (spent ≡ true)
stopped Went true t n h = inr refl
stopped Went false t n h = absurd (n h)
stopped Ended spent t n h = inl (λ z. cc)
stopped StackFull spent t n h = inl (λ z. cc)
stopped (Trap c) spent t n h = inl (λ z. cc)

-- there is no next event only where the run has ended or the budget is spent
pub why_none : (blocks : List Block) → AllGood blocks → (budget : ℕ) (w : Window) → WindowOk blocks budget w
    → next_event budget w ≡ None → (w.over ≢ Went) ⊎ (budget ≤ length w.state.trace)
why_none blocks good budget w ok h =
    elim (stopped w.over (nat_le budget (length w.state.trace)) (next_in w.frames w.state)
    (some_next blocks good budget w ok) h) [
      | inl z ↦ inl z
      | inr z ↦ inr (true_le budget (length w.state.trace) z)
    ]

pub none_spent : (budget : ℕ) (w : Window) → budget ≤ length w.state.trace → next_event budget w ≡ None
none_spent budget w l =
    ap (λ b. while_going w.over b (next_in w.frames w.state)) (le_true budget (length w.state.trace) l)
    ∙ all_spent w.over (next_in w.frames w.state)

-- there is no next event exactly where the run has ended or the budget is spent
pub exactly_none : (blocks : List Block) (budget : ℕ) (w : Window) → AllGood blocks → WindowOk blocks budget w
    → (next_event budget w ≡ None) ↔ ((w.over ≢ Went) ⊎ (budget ≤ length w.state.trace))
exactly_none blocks budget w good ok = (
  why_none blocks good budget w ok,
  λ h. elim h [ inl z ↦ none_after budget w z | inr z ↦ none_spent budget w z ],
)
