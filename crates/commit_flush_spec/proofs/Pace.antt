-- Each block takes a bounded number of events.
use Rattle.std.proofs.Common.{◌≡◌, ◌≢◌, ℕ, zero, suc, ◌+◌, ◌-◌, ◌*◌, ◌<◌, ◌≤◌, List, ◌∷◌, Option, Some, None, length}
use Rattle.std.proofs.Common.{inl, inr, refl, sym, ap, ◌∙◌, subst, arith}
use Rattle.trips_isa.specs.declared.block.Block.{Block}
use Rattle.trips_isa.specs.declared.run.Stepped.TheVariants.{Went}
use Rattle.trips_isa.specs.Machine.{State}
use Rattle.commit_flush_spec.specs.Frames.{Frame}
use Rattle.commit_flush_spec.specs.Older.{committed}
use Rattle.commit_flush_spec.specs.Causes.{Done}
use Rattle.commit_flush_spec.specs.Window.{Window, Event, can, done, happens}
use Rattle.commit_flush_spec.specs.Window as event
use Rattle.commit_flush_spec.specs.inside.Invariant.{FramesOk, AllGood}
use Rattle.commit_flush_spec.specs.inside.Laws.{WindowOk}
use Rattle.commit_flush_spec.proofs.Events.{taken}
use Rattle.commit_flush_spec.specs.inside.NextEvent.{next_event}
use Rattle.commit_flush_spec.specs.inside.Work.{oldest_left}
use Rattle.commit_flush_spec.specs.inside.Driving.{given, drives}
use Rattle.commit_flush_spec.specs.inside.DrivingLaws.{HasGenerations}
use Rattle.commit_flush_spec.proofs.Next.{Next, Fetches, Commits, Seals, Takes, parts, next_done, none_after}
use Rattle.commit_flush_spec.proofs.FramesSeen.{Lowers, step_lowers, seal_lowers, most_of}
use Rattle.commit_flush_spec.proofs.Lowered.{fetch_lowers, may_fill, has_work}
use Rattle.commit_flush_spec.proofs.DrivingEnds.{Onward, onward, rests}
use Rattle.commit_flush_spec.proofs.Runs.{went_or, trace_grows}

-- n events lead from w to v: each is a Commit, at 1,638, or lowers what is left of the oldest frame
abbrev pub Paced : ℕ → Window → Window → Type 0
Paced n w v = n + oldest_left v.frames + 1638 * length w.state.trace
    ≤ oldest_left w.frames + 1638 * length v.state.trace

then_paced : (n : ℕ) (w v x : Window) → Paced 1 w v → Paced n v x → Paced (suc n) w x
then_paced n w v x a b = omega (arith, a, b)

module _ (blocks : List Block) (good : AllGood blocks) (budget : ℕ) (w : Window) (ok : WindowOk blocks budget w)
    (room : HasGenerations budget w) (e : Event) (h : next_event budget w ≡ Some e)
    (goes : (happens blocks budget e w).over ≡ Went) where
  v : Onward blocks budget w (happens blocks budget e w)
  v = onward blocks good budget w ok room e h

  can_e : can blocks budget e w ≡ Done
  can_e = next_done blocks budget e w ok (may_fill budget w room (has_work budget w e h)) h

  lowered : Lowers blocks w e → Paced 1 w (happens blocks budget e w)
  lowered l =
      let is : happens blocks budget e w ≡ done blocks e w = taken blocks budget e w (can_e) in
      let less : oldest_left (happens blocks budget e w).frames < oldest_left w.frames =
      subst (λ (x : Window). oldest_left x.frames < oldest_left w.frames) (sym is) l.less in
      let same : length (happens blocks budget e w).state.trace ≡ length w.state.trace =
      ap (λ (x : Window). length x.state.trace) is ∙ ap (λ (s : State). length s.trace) l.state in
      omega (arith, less, same)

  committed' : (f : Frame) (fs : List Frame) → w.frames ≡ f ∷ fs → e ≡ event.Commit
      → Paced 1 w (happens blocks budget e w)
  committed' f fs i z =
      let it : happens blocks budget e w ≡ happens blocks budget event.Commit w =
      ap (λ y. happens blocks budget y w) z in
      let c : can blocks budget event.Commit w ≡ Done = sym (ap (λ y. can blocks budget y w) z) ∙ (can_e) in
      let grown : length (happens blocks budget e w).state.trace ≡ length w.state.trace + 1 =
      ap (λ (x : Window). length x.state.trace) it
      ∙ trace_grows blocks budget w f fs i c (sym (ap (λ (x : Window). x.over) it) ∙ goes) in
      let most : oldest_left (happens blocks budget e w).frames ≤ 1637 =
      most_of blocks (happens blocks budget e w).frames (committed (happens blocks budget e w).state) (v).ok.frames in
      omega (arith, grown, most)

  pub one_paced : Paced 1 w (happens blocks budget e w)
  one_paced = by (parts budget w e h).2
    where
      by : Next w e → Paced 1 w (happens blocks budget e w)
      by (Fetches i z) = lowered (fetch_lowers blocks w ok.next i e z)
      by (Commits f fs i s z) = committed' f fs i z
      by (Seals f fs i s c z) = lowered (seal_lowers blocks w f fs i s e z)
      by (Takes f fs i t) =
          lowered (step_lowers blocks good w f fs i (subst (FramesOk blocks (committed w.state)) i ok.frames).2 e t)

pub drives_paced : (blocks : List Block) → AllGood blocks → (budget n : ℕ) (w : Window) → WindowOk blocks budget w
    → HasGenerations budget w → next_event budget (drives blocks budget n w) ≢ None
    → Paced n w (drives blocks budget n w)
drives_paced blocks good budget zero w ok room m = omega arith
drives_paced blocks good budget (suc n) w ok room m =
    go (next_event budget w) refl (λ v p q r. drives_paced blocks good budget n v p q r)
  where
    go : (t : Option Event) → next_event budget w ≡ t → ((v : Window) → WindowOk blocks budget v
        → HasGenerations budget v → next_event budget (drives blocks budget n v) ≢ None
        → Paced n v (drives blocks budget n v))
        → Paced (suc n) w (drives blocks budget n (given blocks budget (next_event budget w) w))
    go None h rest = absurd (m (ap (λ t. next_event budget (drives blocks budget n (given blocks budget t w))) h
        ∙ ap (next_event budget) (rests blocks budget n w h) ∙ h))
    go (Some e) h rest = subst (λ t. Paced (suc n) w (drives blocks budget n (given blocks budget t w))) (sym h)
        (elim (went_or (happens blocks budget e w).over) [
          | inl p ↦
              let v : Onward blocks budget w (happens blocks budget e w) = onward blocks good budget w ok room e h in
              then_paced n w (happens blocks budget e w) (drives blocks budget n (happens blocks budget e w))
              (one_paced blocks good budget w ok room e h p)
              (rest (happens blocks budget e w) v.ok v.room
              (λ z. m (ap (λ t. next_event budget (drives blocks budget n (given blocks budget t w))) h ∙ z)))
          | inr p ↦
              let none : next_event budget (happens blocks budget e w) ≡ None =
              none_after budget (happens blocks budget e w) p in
              absurd (m (ap (λ t. next_event budget (drives blocks budget n (given blocks budget t w))) h
              ∙ ap (next_event budget) (rests blocks budget n (happens blocks budget e w) none) ∙ none))
        ])

-- a window that is driven makes at most 1,638 events for each block that joins the trace, and for one more
pub few_events : (blocks : List Block) (budget n : ℕ) (w : Window) → AllGood blocks → WindowOk blocks budget w
    → HasGenerations budget w → next_event budget (drives blocks budget n w) ≢ None
    → n ≤ (length (drives blocks budget n w).state.trace - length w.state.trace + 1) * 1638
few_events blocks budget n w good ok room m =
    let a = drives_paced blocks good budget n w ok room m in
    let most = most_of blocks w.frames (committed w.state) ok.frames in
    omega (arith, a, most)
