-- Driving is running: the window comes to where the machine comes to within the budget.
use Rattle.std.proofs.Common.{◌≡◌, ◌≢◌, ℕ, zero, suc, ◌+◌, ◌-◌, ◌<◌, ◌≤◌, true, ◌⊎◌, inl, inr, List}
use Rattle.std.proofs.Common.{◌∷◌, Option, Some, None, length, refl, sym, ap, ◌∙◌, subst, arith}
use Rattle.std.proofs.lemmas.Bool.Decides.{nat_tests}
use Rattle.trips_isa.specs.declared.block.Block.{Block}
use Rattle.trips_isa.specs.declared.run.Stepped.{Stepped}
use Rattle.trips_isa.specs.declared.run.Stepped.TheVariants.{Went, Ended, StackFull, Trap}
use Rattle.trips_isa.specs.Outcomes.{Outcome, Comes, Faults, unless}
use Rattle.trips_isa.specs.Machine.{State, step_of, goes_on, runs}
use Rattle.commit_flush_spec.specs.Frames.{Frame}
use Rattle.commit_flush_spec.specs.Older.{committed, follows}
use Rattle.commit_flush_spec.specs.Causes.{Done}
use Rattle.commit_flush_spec.specs.Ends.{outputs, cause_held}
use Rattle.commit_flush_spec.specs.InFlight.{commit_to}
use Rattle.commit_flush_spec.specs.Window.{Window, Event, commit, can, done, happens}
use Rattle.commit_flush_spec.specs.Window as event
use Rattle.commit_flush_spec.specs.inside.Invariant.{FramesOk, AllGood}
use Rattle.commit_flush_spec.specs.inside.Laws.{WindowOk}
use Rattle.commit_flush_spec.proofs.Events.{taken, commit_applies}
use Rattle.commit_flush_spec.proofs.Committing.{commits}
use Rattle.commit_flush_spec.proofs.Applying.{apply_trace}
use Rattle.commit_flush_spec.specs.inside.NextEvent.{next_event}
use Rattle.commit_flush_spec.specs.inside.Work.{work}
use Rattle.commit_flush_spec.specs.inside.Driving.{given, drives, driven}
use Rattle.commit_flush_spec.specs.inside.DrivingLaws.{HasGenerations}
use Rattle.commit_flush_spec.proofs.Next.{Next, Fetches, Commits, Seals, Takes}
use Rattle.commit_flush_spec.proofs.Next.{parts, next_done, none_after, why_none}
use Rattle.commit_flush_spec.proofs.FramesSeen.{Lowers, step_lowers, seal_lowers}
use Rattle.commit_flush_spec.proofs.Lowered.{fetch_lowers, may_fill, has_work}
use Rattle.commit_flush_spec.proofs.DrivingEnds.{Onward, onward, rests}

-- runs of the machine ----------------------------------------------------------------------------

none_made : (blocks : List Block) (s : State) → runs blocks s 0 ≡ (s, Went)
unfolding runs
none_made blocks s = refl

one_more : (blocks : List Block) (s : State) (n : ℕ)
    → runs blocks s (suc n) ≡ goes_on blocks (runs blocks s n).0 (runs blocks s n).1
unfolding runs
one_more blocks s n = refl

-- the first step of a run, and the others
after_one : (blocks : List Block) (s t : State) (n : ℕ) → step_of blocks s ≡ (t, Went)
    → runs blocks s (suc n) ≡ runs blocks t n
after_one blocks s t zero e = one_more blocks s 0
    ∙ ap (λ (p : State × Stepped). goes_on blocks p.0 p.1) (none_made blocks s) ∙ e ∙ sym (none_made blocks t)
after_one blocks s t (suc n) e = one_more blocks s (suc n)
    ∙ ap (λ (p : State × Stepped). goes_on blocks p.0 p.1) (after_one blocks s t n e) ∙ sym (one_more blocks t n)

stays : (blocks : List Block) (t : State) (o : Stepped) → o ≢ Went → goes_on blocks t o ≡ (t, o)
stays blocks t Went n = absurd (n refl)
stays blocks t Ended n = refl
stays blocks t StackFull n = refl
stays blocks t (Trap c) n = refl

-- a step that does not go on is the whole run
only_one : (blocks : List Block) (s t : State) (o : Stepped) (n : ℕ) → step_of blocks s ≡ (t, o) → o ≢ Went
    → runs blocks s (suc n) ≡ (t, o)
only_one blocks s t o zero e h = one_more blocks s 0
    ∙ ap (λ (p : State × Stepped). goes_on blocks p.0 p.1) (none_made blocks s) ∙ e
only_one blocks s t o (suc n) e h = one_more blocks s (suc n)
    ∙ ap (λ (p : State × Stepped). goes_on blocks p.0 p.1) (only_one blocks s t o n e h) ∙ stays blocks t o h

-- commits ----------------------------------------------------------------------------------------

is_next : (n k : ℕ) → follows (Some n) k ≡ true → n ≡ k
is_next n k e = grind (arith, nat_tests)

-- a commit is the step of the machine
step_made : (blocks : List Block) → AllGood blocks → (budget : ℕ) (w : Window) → WindowOk blocks budget w
    → (f : Frame) (fs : List Frame) → w.frames ≡ f ∷ fs → f.sealed ≡ true → can blocks budget event.Commit w ≡ Done
    → ((happens blocks budget event.Commit w).state, (happens blocks budget event.Commit w).over)
    ≡ step_of blocks w.state
step_made blocks good budget w ok f fs i s c =
    let all : FramesOk blocks (committed w.state) (f ∷ fs) =
    subst (FramesOk blocks (committed w.state)) i ok.frames in
    commit_applies blocks budget w f fs i c
    ∙ commits blocks good w.state f all.2 s (is_next _ _ all.1)

-- a commit after which the run goes on adds one to the trace
pub trace_grows : (blocks : List Block) (budget : ℕ) (w : Window) (f : Frame) (fs : List Frame) → w.frames ≡ f ∷ fs
    → can blocks budget event.Commit w ≡ Done → (happens blocks budget event.Commit w).over ≡ Went
    → length (happens blocks budget event.Commit w).state.trace ≡ length w.state.trace + 1
trace_grows blocks budget w f fs i c o =
    ap (λ (v : Window). length v.state.trace) is ∙ by (unless (cause_held f) (outputs f))
    (sym (ap (λ (v : Window). v.over) is) ∙ o)
  where
    is : happens blocks budget event.Commit w ≡ commit_to (unless (cause_held f) (outputs f)) f fs w
    is = taken blocks budget event.Commit w c ∙ ap (λ l. commit l w) i

    by : (x : Outcome) → (commit_to x f fs w).over ≡ Went
        → length (commit_to x f fs w).state.trace ≡ length w.state.trace + 1
    by (Comes y) h = apply_trace f.code.writes.items y w.state
    by (Faults y) h = absurd (cc)

-- driving ----------------------------------------------------------------------------------------

-- a run has gone on, or it has not
pub went_or : (o : Stepped) → (o ≡ Went) ⊎ (o ≢ Went)
went_or Went = inl refl
went_or Ended = inr (λ z. cc)
went_or StackFull = inr (λ z. cc)
went_or (Trap c) = inr (λ z. cc)

-- where the machine comes to within what is left of the budget
abbrev pub Within : List Block → ℕ → Window → State × Stepped
Within blocks budget w = runs blocks w.state (budget - length w.state.trace)

-- what a window tells of its run
abbrev pub told : Window → State × Stepped
told w = (w.state, w.over)

-- at rest nothing is left of the budget
at_rest : (blocks : List Block) → AllGood blocks → (budget : ℕ) (w : Window) → WindowOk blocks budget w
    → w.over ≡ Went
    → next_event budget w ≡ None → told w ≡ Within blocks budget w
at_rest blocks good budget w ok o h = elim (why_none blocks good budget w ok h) [
  | inl z ↦ absurd (z o)
  | inr z ↦
      let none : budget - length w.state.trace ≡ 0 = omega (arith, z) in
      ap (λ p. (w.state, p)) o ∙ sym (none_made blocks w.state) ∙ sym (ap (runs blocks w.state) none)
]

module _ (blocks : List Block) (good : AllGood blocks) (budget : ℕ) (w : Window) (ok : WindowOk blocks budget w)
    (room : HasGenerations budget w) (o : w.over ≡ Went) (e : Event) (h : next_event budget w ≡ Some e) (x : Window)
    (going : (happens blocks budget e w).over ≡ Went → told x ≡ Within blocks budget (happens blocks budget e w))
    (resting : (happens blocks budget e w).over ≢ Went → x ≡ happens blocks budget e w) where
  k : (w.over ≡ Went) × (length w.state.trace < budget) × Next w e
  k = parts budget w e h

  can_e : can blocks budget e w ≡ Done
  can_e = next_done blocks budget e w ok (may_fill budget w room (has_work budget w e h)) h

  -- an event that changes frames alone
  lowered : Lowers blocks w e → told x ≡ Within blocks budget w
  lowered l =
      let is : happens blocks budget e w ≡ done blocks e w = taken blocks budget e w (can_e) in
      let state : (happens blocks budget e w).state ≡ w.state = ap (λ (v : Window). v.state) is ∙ l.state in
      let over : (happens blocks budget e w).over ≡ w.over = ap (λ (v : Window). v.over) is ∙ l.over in
      going (over ∙ o) ∙ ap (λ (s : State). runs blocks s (budget - length s.trace)) state

  -- a commit
  abbrev v : Window
  v = happens blocks budget event.Commit w

  committing : (f : Frame) (fs : List Frame) → w.frames ≡ f ∷ fs → f.sealed ≡ true → e ≡ event.Commit
      → told x ≡ Within blocks budget w
  committing f fs i s z =
      let it : happens blocks budget e w ≡ v = ap (λ y. happens blocks budget y w) z in
      let c : can blocks budget event.Commit w ≡ Done = sym (ap (λ y. can blocks budget y w) z) ∙ (can_e) in
      let step : (v.state, v.over) ≡ step_of blocks w.state = step_made blocks good budget w ok f fs i s c in
      let left : length w.state.trace < budget = (k).1 in
      elim (went_or v.over) [
        | inl p ↦
            let grown : length v.state.trace ≡ length w.state.trace + 1 = trace_grows blocks budget w f fs i c p in
            let n : suc (budget - length v.state.trace) ≡ budget - length w.state.trace =
            omega (arith, grown, left) in
            going (ap (λ (y : Window). y.over) it ∙ p) ∙ ap (Within blocks budget) it
            ∙ sym (after_one blocks w.state v.state (budget - length v.state.trace)
            (sym step ∙ ap (λ q. (v.state, q)) p))
            ∙ ap (runs blocks w.state) n
        | inr p ↦
            let n : suc (budget - length w.state.trace - 1) ≡ budget - length w.state.trace = omega (arith, left) in
            ap told (resting (λ q. p (sym (ap (λ (y : Window). y.over) it) ∙ q)) ∙ it)
            ∙ sym (only_one blocks w.state v.state v.over (budget - length w.state.trace - 1) (sym step) p)
            ∙ ap (runs blocks w.state) n
      ]

  pub goes_to : told x ≡ Within blocks budget w
  goes_to = by (k).2
    where
      by : Next w e → told x ≡ Within blocks budget w
      by (Fetches i z) = lowered (fetch_lowers blocks w ok.next i e z)
      by (Commits f fs i s z) = committing f fs i s z
      by (Seals f fs i s c z) = lowered (seal_lowers blocks w f fs i s e z)
      by (Takes f fs i t) =
          lowered (step_lowers blocks good w f fs i (subst (FramesOk blocks (committed w.state)) i ok.frames).2 e t)

pub drives_run : (blocks : List Block) → AllGood blocks → (budget n : ℕ) (w : Window) → WindowOk blocks budget w
    → HasGenerations budget w → work budget w ≤ n → w.over ≡ Went
    → told (drives blocks budget n w) ≡ Within blocks budget w
drives_run blocks good budget zero w ok room l o = go (next_event budget w) refl
  where
    go : (t : Option Event) → next_event budget w ≡ t → told w ≡ Within blocks budget w
    go None h = at_rest blocks good budget w ok o h
    go (Some e) h = absurd (let p = has_work budget w e h in omega (arith, p, l))
drives_run blocks good budget (suc n) w ok room l o =
    go (next_event budget w) refl (λ v p q r s. drives_run blocks good budget n v p q r s)
  where
    go : (t : Option Event) → next_event budget w ≡ t → ((v : Window) → WindowOk blocks budget v
        → HasGenerations budget v → work budget v ≤ n → v.over ≡ Went
        → told (drives blocks budget n v) ≡ Within blocks budget v)
        → told (drives blocks budget n (given blocks budget (next_event budget w) w)) ≡ Within blocks budget w
    go None h rest = ap (λ t. told (drives blocks budget n (given blocks budget t w))) h
        ∙ ap told (rests blocks budget n w h) ∙ at_rest blocks good budget w ok o h
    go (Some e) h rest =
        let v : Onward blocks budget w (happens blocks budget e w) = onward blocks good budget w ok room e h in
        ap (λ t. told (drives blocks budget n (given blocks budget t w))) h
        ∙ goes_to blocks good budget w ok room o e h (drives blocks budget n (happens blocks budget e w))
        (λ p. rest (happens blocks budget e w) v.ok v.room (let f = v.less in omega (arith, f, l)) p)
        (λ p. rests blocks budget n (happens blocks budget e w) (none_after budget (happens blocks budget e w) p))

-- a window that is driven comes to where the machine comes to within what is left of the budget
pub driven_runs : (blocks : List Block) (budget : ℕ) (w : Window) → AllGood blocks → WindowOk blocks budget w
    → HasGenerations budget w → w.over ≡ Went
    → ((driven blocks budget w).state, (driven blocks budget w).over)
    ≡ runs blocks w.state (budget - length w.state.trace)
driven_runs blocks budget w good ok room o = drives_run blocks good budget (work budget w) w ok room (omega arith) o
