-- Part (1): the oldest frame stays as it is where it lacks an output; else its block is committed, or the run traps.
use Rattle.std.proofs.Common.{◌≡◌, ℕ, suc, ◌<◌, ◌==◌, ◌&&◌, inl, inr, Bool, true, false, cond, not, nat_le}
use Rattle.std.proofs.Common.{List, [], ◌∷◌, length, refl, sym, ap, ap₂, ◌∙◌, subst, arith}
use Rattle.std.proofs.lemmas.Bool.{cond_both, cond-true, cond-false, both_ways, and_right, false_from_ne_true}
use Rattle.std.proofs.lemmas.Bool.{lt-leb}
use Rattle.trips_isa.specs.declared.block.Block.{Block}
use Rattle.trips_isa.specs.declared.run.Traced.{Traced}
use Rattle.trips_isa.specs.declared.run.Stepped.{Stepped}
use Rattle.trips_isa.specs.declared.run.Stepped.TheVariants as stepped
use Rattle.trips_isa.specs.Outcomes.{Outcome, Comes, Faults, unless}
use Rattle.trips_isa.specs.Machine.{State}
use Rattle.operand_net.specs.declared.parcel.Stand.TheVariants.{Nowhere}
use Rattle.commit_flush_spec.specs.Causes.{NoFrame, Missing, Unsealed, Spent, Happened, Done, NotNow, judged}
use Rattle.commit_flush_spec.specs.Frames.{Frame}
use Rattle.commit_flush_spec.specs.Older.{Older, committed}
use Rattle.commit_flush_spec.specs.Ends.{complete, seal, can_seal, outputs, cause_held}
use Rattle.commit_flush_spec.specs.InFlight.{commit_to}
use Rattle.commit_flush_spec.specs.Window.{Window, alone, change, on_frame, can_now, unless_over, can, done, happens}
use Rattle.commit_flush_spec.specs.Window.{is_sealed, commit}
use Rattle.commit_flush_spec.specs.Window as window
use Rattle.commit_flush_spec.specs.inside.Invariant.{FramesOk, FrameOk}
use Rattle.commit_flush_spec.specs.inside.Laws.{WindowOk}
use Rattle.commit_flush_spec.proofs.Events.{taken}
use Rattle.commit_flush_spec.proofs.FramesSeen.{change_oldest}
use Rattle.commit_flush_spec.proofs.Next.{at_oldest}
use Rattle.grid_cycle_spec.specs.Grid.{Grid, numbers_of, forget}
use Rattle.grid_cycle_spec.specs.Acting.{is_done, may}
use Rattle.grid_cycle_spec.specs.Ends.{seal_one, seal_each, committed_as, commit_in, commit_oldest, ends}
use Rattle.grid_cycle_spec.proofs.Events.{committed_window}
use Rattle.grid_bound.proofs.Programs.{applied_trace, length_more}
use Rattle.grid_bound.specs.inside.Behind.{Apart, Behind}
use Rattle.grid_bound.specs.inside.Shows.{Commits}
use Rattle.grid_bound.proofs.Ahead.{younger_apart, event_leads}
use Rattle.grid_bound.proofs.Others.{behind_at, behind_same, windowed}

-- tests --------------------------------------------------------------------------------------------

seal_causes : (a c : Bool) → is_done (judged ((a, NoFrame) ∷ (not c, Missing) ∷ [])) ≡ (not a && c)
seal_causes true c = refl
seal_causes false true = refl
seal_causes false false = refl

unsealed_first : (o : Stepped) (a b : Bool) → a ≡ false
    → is_done (unless_over o (judged ((not a, Unsealed) ∷ (b, Spent) ∷ []))) ≡ false
unsealed_first stepped.Went true b e = absurd (cc)
unsealed_first stepped.Went false b e = refl
unsealed_first stepped.Ended a b e = refl
unsealed_first stepped.StackFull a b e = refl
unsealed_first (stepped.Trap c) a b e = refl

-- what the oldest frame may do is asked of it ------------------------------------------------------

-- asked by its number, the oldest frame answers for itself
pub asks_oldest : (blocks : List Block) (budget : ℕ) (w : Window) (f : Frame) (fs : List Frame)
    → w.frames ≡ f ∷ fs → (none : Happened) (asks : Older → Frame → Happened)
    → on_frame none asks (committed w.state) w.frames f.number ≡ asks (committed w.state) f
asks_oldest blocks budget w f fs i none asks =
    ap (λ l. on_frame none asks (committed w.state) l f.number) i ∙ at_oldest none asks (committed w.state) f fs

-- the oldest frame is right
pub oldest_ok : (blocks : List Block) (budget : ℕ) (w : Window) (f : Frame) (fs : List Frame)
    → WindowOk blocks budget w → w.frames ≡ f ∷ fs → FrameOk blocks (committed w.state) f
oldest_ok blocks budget w f fs ok i = (subst (FramesOk blocks (committed w.state)) i ok.frames).2

-- other frames are sealed --------------------------------------------------------------------------

module _ {W : Type 0} (blocks : List Block) (budget : ℕ) (f : Frame) (g : Grid W) where
  forgotten : (m : Grid W) (goes : ℕ → Bool) → goes f.number ≡ false → Behind f g m → Behind f g (forget goes m)
  forgotten m goes e = behind_same f g m (forget goes m) refl (ap (λ t p. cond t Nowhere (m.parcels f.number p)) e)
      (ap (λ t k. cond t false (m.asked f.number k)) e) (ap (λ t s. cond t false (m.works f.number s)) e) refl

  sealed_other : (k : ℕ) → (f.number == k) ≡ false → (m : Grid W) → Behind f g m
      → Behind f g (seal_one blocks budget k m)
  sealed_other k e m b =
      let v : Window = happens blocks budget (window.Seal k) m.window in
      cond_both (may blocks budget (window.Seal k) m) (forget (λ j. j == k) (record m { window = v })) m (Behind f g)
      (λ h. forgotten (record m { window = v }) (λ j. j == k) e
      (windowed f g m v b (event_leads blocks budget m.window f b.younger b.frames (window.Seal k) e)))
      (λ h. b)

  seals_other : (fs : List Frame) → Apart f.number fs → (m : Grid W) → Behind f g m
      → Behind f g (seal_each blocks budget (numbers_of fs) m)
  seals_other [] a m b = b
  seals_other (x ∷ fs) a m b = seals_other fs a.1 (seal_one blocks budget x.number m) (sealed_other x.number a.0 m b)

-- a commit -----------------------------------------------------------------------------------------

module _ {W : Type 0} (f : Frame) where
  committed_to : (g : Grid W) (m : Grid W) (o : Outcome) (fs : List Frame) (w : Window)
      → length w.state.trace ≡ length g.window.state.trace → m.window ≡ commit_to o f fs w → Commits g m
  committed_to g m (Comes o) fs w e i = inr (
      let t : Traced = record { block = w.state.next; exit = o.exit } in
      ap (λ (w : Window). length w.state.trace) i ∙ ap length (applied_trace f.code.writes.items o w.state)
      ∙ length_more w.state.trace t ∙ ap suc e)
  committed_to g m (Faults c) fs w e i = inl (c, ap (λ (w : Window). w.over) i)

module _ {W : Type 0} (blocks : List Block) (budget : ℕ) (g : Grid W) (f : Frame) (fs : List Frame)
    (i : g.window.frames ≡ f ∷ fs) (ok : WindowOk blocks budget g.window) (went : g.window.over ≡ stepped.Went) where
  seal_answer : can blocks budget (window.Seal f.number) g.window ≡ can_seal (committed g.window.state) f
  seal_answer = ap (λ o. unless_over o (can_now blocks budget (window.Seal f.number) g.window)) went
      ∙ asks_oldest blocks budget g.window f fs i (NotNow NoFrame) can_seal

  may_seal : may blocks budget (window.Seal f.number) g ≡ (not f.sealed && complete f)
  may_seal = ap is_done seal_answer ∙ seal_causes f.sealed (complete f)

  numbers_are : numbers_of g.window.frames ≡ f.number ∷ numbers_of fs
  numbers_are = ap numbers_of i

  -- an output is lacking ---------------------------------------------------------------------------

  module _ (open' : complete f ≡ false) where
    -- a frame that lacks an output is not sealed
    pub unsealed : f.sealed ≡ false
    unsealed = false_from_ne_true f.sealed
        (λ s. both_ways (complete f) open' ((oldest_ok blocks budget g.window f fs ok i).whole s))

    not_sealed : seal_one blocks budget f.number g ≡ g
    not_sealed = cond-false (may blocks budget (window.Seal f.number) g) _ _
        (may_seal ∙ and_right (not f.sealed) (complete f) open')

    seals_stay : Behind f g (seal_each blocks budget (numbers_of g.window.frames) g)
    seals_stay = subst (λ l. Behind f g (seal_each blocks budget l g)) (sym numbers_are)
        (subst (λ m. Behind f g (seal_each blocks budget (numbers_of fs) m)) (sym not_sealed)
        (seals_other blocks budget f g fs (younger_apart blocks budget g.window f fs ok i) g
        (behind_at f g fs i)))

    no_commit : (m : Grid W) → Behind f g m → commit_oldest blocks budget m ≡ m
    no_commit m b = cond-false (may blocks budget window.Commit m) _ _
        (unsealed_first m.window.over (is_sealed m.window.frames) (nat_le budget (length m.window.state.trace))
        (ap is_sealed b.frames ∙ unsealed))

    -- frames are sealed and none is committed
    pub ends_seal : ends blocks budget g ≡ seal_each blocks budget (numbers_of g.window.frames) g
    ends_seal = no_commit (seal_each blocks budget (numbers_of g.window.frames) g) seals_stay

    -- the oldest frame is as it was
    pub ends_open : Behind f g (ends blocks budget g)
    ends_open = subst (Behind f g) (sym ends_seal) seals_stay

  -- all outputs have come --------------------------------------------------------------------------

  -- the oldest frame is sealed
  record Sealed (m : Grid W) : Type 0 where
    head : Frame
    frames : m.window.frames ≡ head ∷ fs
    sealed : head.sealed ≡ true
    number : head.number ≡ f.number
    state : m.window.state ≡ g.window.state
    over : m.window.over ≡ g.window.over

  module _ (all : complete f ≡ true) (room : length g.window.state.trace < budget) where
    seal_head : Sealed (seal_one blocks budget f.number g)
    seal_head = go f.sealed refl
      where
        go : (b : Bool) → f.sealed ≡ b → Sealed (seal_one blocks budget f.number g)
        go true s = subst Sealed (sym (cond-false (may blocks budget (window.Seal f.number) g) _ _
            (may_seal ∙ ap (λ b. not b && complete f) s)))
            (record { head = f; frames = i; sealed = s; number = refl; state = refl; over = refl })
        go false s =
            let it : can blocks budget (window.Seal f.number) g.window ≡ Done =
            seal_answer ∙ ap₂ (λ a c. judged ((a, NoFrame) ∷ (not c, Missing) ∷ [])) s all in
            let now : happens blocks budget (window.Seal f.number) g.window
            ≡ done blocks (window.Seal f.number) g.window =
            taken blocks budget (window.Seal f.number) g.window it in
            subst Sealed (sym (cond-true (may blocks budget (window.Seal f.number) g) _ _ (ap is_done it)))
            (record {
              head = seal (committed g.window.state) f;
              frames = ap (λ (w : Window). w.frames) now
                  ∙ ap (λ l. change (alone seal) (committed g.window.state) l f.number) i
                  ∙ change_oldest (alone seal) (committed g.window.state) f fs;
              sealed = refl;
              number = refl;
              state = ap (λ (w : Window). w.state) now;
              over = ap (λ (w : Window). w.over) now;
            })

    commits : (h : Frame) (n : Grid W) → h.sealed ≡ true → n.window.state ≡ g.window.state
        → n.window.over ≡ g.window.over → (m : Grid W) → Behind h n m → Commits g (commit_oldest blocks budget m)
    commits h n s state over m b =
        let same : m.window.state ≡ g.window.state = b.state ∙ state in
        let shut : is_sealed m.window.frames ≡ true = ap is_sealed b.frames ∙ s in
        let some : nat_le budget (length m.window.state.trace) ≡ false =
        lt-leb budget (length m.window.state.trace)
        (let e : length m.window.state.trace ≡ length g.window.state.trace =
        ap (λ (s : State). length s.trace) same in omega (arith, room, e)) in
        let it : can blocks budget window.Commit m.window ≡ Done =
        ap (λ o. unless_over o (can_now blocks budget window.Commit m.window)) (b.over ∙ over ∙ went)
        ∙ ap₂ (λ a c. judged ((not a, Unsealed) ∷ (c, Spent) ∷ [])) shut some in
        let now : happens blocks budget window.Commit m.window
        ≡ commit_to (unless (cause_held h) (outputs h)) h b.younger m.window =
        taken blocks budget window.Commit m.window it ∙ ap (λ l. commit l m.window) b.frames in
        subst (Commits g) (sym (cond-true (may blocks budget window.Commit m) _ _ (ap is_done it)
        ∙ ap (λ l. commit_in blocks budget l m) b.frames))
        (committed_to h g (committed_as (happens blocks budget window.Commit m.window).over h b.younger
        (record m { window = happens blocks budget window.Commit m.window }))
        (unless (cause_held h) (outputs h)) b.younger m.window
        (ap (λ (s : State). length s.trace) same)
        (committed_window (happens blocks budget window.Commit m.window).over h b.younger
        (record m { window = happens blocks budget window.Commit m.window }) ∙ now))

    -- the block of the oldest frame is committed
    pub ends_complete : Commits g (ends blocks budget g)
    ends_complete =
        let q : Sealed (seal_one blocks budget f.number g) = seal_head in
        let m : Grid W = seal_one blocks budget f.number g in
        let apart : Apart q.head.number fs =
        subst (λ n. Apart n fs) (sym q.number) (younger_apart blocks budget g.window f fs ok i) in
        subst (λ l. Commits g (commit_oldest blocks budget (seal_each blocks budget l g))) (sym numbers_are)
        (commits q.head m q.sealed q.state q.over (seal_each blocks budget (numbers_of fs) m)
        (seals_other blocks budget q.head m fs apart m (behind_at q.head m fs q.frames)))
