-- A run traps only while fewer blocks have been committed than the budget has.
use Rattle.std.proofs.Common.{◌≡◌, ℕ, ◌<◌, not, nat_le, List, [], ◌∷◌, length}
use Rattle.std.proofs.Common.{◌⊎◌, inl, inr, refl, sym, subst}
use Rattle.std.proofs.lemmas.Bool.{leb-false}
use Rattle.trips_isa.specs.declared.block.Block.{Block}
use Rattle.trips_isa.specs.declared.run.Stepped.{Stepped}
use Rattle.trips_isa.specs.declared.run.Stepped.TheVariants.{Went, Ended, StackFull, Trap}
use Rattle.trips_isa.specs.Outcomes.{Outcome, Comes, Faults, unless}
use Rattle.trips_isa.specs.Machine.{State, apply}
use Rattle.block_cases.specs.inside.Plain.{IsTrap}
use Rattle.block_cases.proofs.Traps.{applied_goes}
use Rattle.commit_flush_spec.specs.Frames.{Frame}
use Rattle.commit_flush_spec.specs.Causes.{Happened, Done, NotNow, Spent, Unsealed}
use Rattle.commit_flush_spec.specs.Ends.{outputs, cause_held}
use Rattle.commit_flush_spec.specs.InFlight.{can_commit, commit, commit_to, is_sealed}
use Rattle.commit_flush_spec.specs.Window.{Window, Event, can, done, happens, if_done, plays, unless_over}
use Rattle.commit_flush_spec.specs.Window as event
use Rattle.commit_flush_spec.proofs.Events.{state_stays}
use Rattle.commit_flush_spec.proofs.Frames.{not_now}
use Rattle.grid_cycle_spec.proofs.Events.{over_stays}

-- where the run has trapped, fewer blocks have been committed than the budget has
abbrev pub HasRoom : Stepped → ℕ → ℕ → Type 0
HasRoom (Trap c) committed budget = committed < budget
HasRoom o committed budget = Unit {0}

-- so of a window
abbrev pub TrapFits : ℕ → Window → Type 0
TrapFits budget w = HasRoom w.over (length w.state.trace) budget

which : (e : Event) → (e ≡ event.Commit) ⊎ (e ≡ event.Commit → ⊥)
which (event.Fetch k) = inr (λ z. cc)
which (event.Read a b) = inr (λ z. cc)
which (event.Fire a b) = inr (λ z. cc)
which (event.Deliver a) = inr (λ z. cc)
which (event.Load a b) = inr (λ z. cc)
which (event.Store a b) = inr (λ z. cc)
which (event.Exit a) = inr (λ z. cc)
which (event.Seal a) = inr (λ z. cc)
which (event.Flush a) = inr (λ z. cc)
which event.Commit = inl refl

no_trap : (o : Stepped) (committed budget : ℕ) → (IsTrap o → ⊥) → HasRoom o committed budget
no_trap Went committed budget ne = tt
no_trap Ended committed budget ne = tt
no_trap StackFull committed budget ne = tt
no_trap (Trap c) committed budget ne = absurd (ne tt)

went_on : (o : Stepped) (h : Happened) → unless_over o h ≡ Done → h ≡ Done
went_on Went h e = e
went_on Ended h e = absurd (cc)
went_on StackFull h e = absurd (cc)
went_on (Trap c) h e = absurd (cc)

module _ (blocks : List Block) (budget : ℕ) where
  other_fits : (e : Event) → (e ≡ event.Commit → ⊥) → (w : Window) → TrapFits budget w
      → TrapFits budget (happens blocks budget e w)
  other_fits e o w fits =
      let v : Window = happens blocks budget e w in
      subst (λ x. HasRoom x (length v.state.trace) budget) (sym (over_stays blocks budget e w o))
      (subst (λ (s : State). HasRoom w.over (length s.trace) budget) (sym (state_stays blocks budget e w o)) fits)

  -- a commit that is Done leaves room for a trap
  has_room : (w : Window) → can blocks budget event.Commit w ≡ Done → length w.state.trace < budget
  has_room w e =
      let a = not_now (not (is_sealed w.frames)) Unsealed _ (went_on w.over (can_commit budget w) e) in
      let b = not_now (nat_le budget (length w.state.trace)) Spent _ a.1 in
      leb-false budget (length w.state.trace) b.0

  outcome_fits : (x : Outcome) (f : Frame) (fs : List Frame) (w : Window) → length w.state.trace < budget
      → TrapFits budget (commit_to x f fs w)
  outcome_fits (Comes o) f fs w room =
      let p : State × Stepped = apply f.code.writes.items o w.state in
      no_trap p.1 (length (p.0).trace) budget (applied_goes f.code.writes.items o w.state)
  outcome_fits (Faults c) f fs w room = room

  commit_fits : (fs : List Frame) (w : Window) → TrapFits budget w → length w.state.trace < budget
      → TrapFits budget (commit fs w)
  commit_fits [] w fits room = fits
  commit_fits (f ∷ fs) w fits room = outcome_fits (unless (cause_held f) (outputs f)) f fs w room

  committed_fits : (w : Window) → TrapFits budget w → TrapFits budget (happens blocks budget event.Commit w)
  committed_fits w fits = by (can blocks budget event.Commit w) refl
    where
      by : (h : Happened) → can blocks budget event.Commit w ≡ h
          → TrapFits budget (if_done h (done blocks event.Commit w) w)
      by Done e = commit_fits w.frames w fits (has_room w e)
      by (NotNow c) e = fits

  event_fits : (e : Event) (w : Window) → TrapFits budget w → TrapFits budget (happens blocks budget e w)
  event_fits e w fits = elim (which e) [
    | inl z ↦ subst (λ x. TrapFits budget (happens blocks budget x w)) (sym z) (committed_fits w fits)
    | inr o ↦ other_fits e o w fits
  ]

  -- events keep that a run has trapped only while fewer blocks were committed than the budget has
  pub plays_fit : (es : List Event) (w : Window) → TrapFits budget w → TrapFits budget (plays blocks budget es w)
  plays_fit [] w fits = fits
  plays_fit (e ∷ es) w fits = plays_fit es (happens blocks budget e w) (event_fits e w fits)

-- a run that has not ended has not trapped
pub going_fits : (budget : ℕ) (w : Window) → w.over ≡ Went → TrapFits budget w
going_fits budget w o = subst (λ x. HasRoom x (length w.state.trace) budget) (sym o) tt
