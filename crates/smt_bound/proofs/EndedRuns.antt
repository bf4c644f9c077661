-- A run that has ended stays as it is, and one that has trapped has not spent its budget.
use Rattle.std.proofs.Common.{◌≡◌, ℕ, ◌<◌, ◌==◌, ◌%◌, Bool, true, false, not, cond, nat_le, nat_lt, List, []}
use Rattle.std.proofs.Common.{◌∷◌, ◌++◌, length, slice_index, refl}
use Rattle.std.proofs.Common.{sym, ap, ◌∙◌, subst, true≢false}
use Rattle.std.proofs.lemmas.Bool.{leb-false}
use Rattle.trips_isa.specs.declared.block.Block.{Block}
use Rattle.trips_isa.specs.declared.causes.TrapCause.{TrapCause}
use Rattle.trips_isa.specs.declared.run.Stepped.{Stepped}
use Rattle.trips_isa.specs.declared.run.Stepped.TheVariants as stepped
use Rattle.trips_isa.specs.Machine.{State, then_system, changed, with_input}
use Rattle.trips_isa.specs.Outcomes.{Outcome, Comes, Faults, unless}
use Rattle.commit_flush_spec.specs.Causes.{Happened, Done, NotNow, Unsealed, Spent}
use Rattle.commit_flush_spec.specs.Ends.{outputs, cause_held}
use Rattle.commit_flush_spec.specs.InFlight.{can_commit, commit_to, is_sealed}
use Rattle.commit_flush_spec.specs.Frames.{Frame}
use Rattle.commit_flush_spec.specs.Window.{Window, Event, can, can_now, commit, done, happens, if_done, plays}
use Rattle.commit_flush_spec.specs.Window.{unless_over}
use Rattle.commit_flush_spec.specs.Window as window
use Rattle.commit_flush_spec.proofs.Frames.{not_now}
use Rattle.commit_flush_spec.proofs.Events.{state_stays}
use Rattle.grid_cycle_spec.specs.inside.Laws.{ByEvents}
use Rattle.grid_cycle_spec.proofs.Events.{over_stays}
use Rattle.smt_spec.specs.Cycles.{has_gone, goes_on}

module _ (blocks : List Block) (budget : ℕ) where
  stuck : (e : Event) (w : Window) (s : Stepped) → w.over ≡ s → has_gone s ≡ false → happens blocks budget e w ≡ w
  stuck e w stepped.Went i n = absurd (true≢false n)
  stuck e w stepped.Ended i n = ap (λ o. if_done (unless_over o (can_now blocks budget e w)) (done blocks e w) w) i
  stuck e w stepped.StackFull i n = ap (λ o. if_done (unless_over o (can_now blocks budget e w)) (done blocks e w)
      w) i
  stuck e w (stepped.Trap c) i n = ap (λ o. if_done (unless_over o (can_now blocks budget e w)) (done blocks e w) w) i

  -- no event changes a window whose run has ended
  pub all_stuck : (es : List Event) (w : Window) → has_gone w.over ≡ false → plays blocks budget es w ≡ w
  all_stuck [] w n = refl
  all_stuck (e ∷ es) w n = ap (plays blocks budget es) (stuck e w w.over refl n) ∙ all_stuck es w n

  -- who has gone behind some events has gone before them
  pub gone_before : (v w : Window) → ByEvents blocks budget v w → has_gone w.over ≡ true → has_gone v.over ≡ true
  gone_before v w b e = by (has_gone v.over) refl
    where
      by : (x : Bool) → has_gone v.over ≡ x → has_gone v.over ≡ true
      by true i = i
      by false i = absurd (true≢false (sym e ∙ ap (λ (u : Window). has_gone u.over)
          (b.played ∙ all_stuck b.events v i) ∙ i))

-- a run that goes on has not ended
pub goes_gone : (budget : ℕ) (w : Window) → goes_on budget w ≡ true → has_gone w.over ≡ true
goes_gone budget w e = by (has_gone w.over) e
  where
    by : (b : Bool) → cond b (nat_lt (length w.state.trace) budget) false ≡ true → b ≡ true
    by true z = refl
    by false z = absurd (true≢false (sym z))

-- what has gone has the step's answer that says so
pub has_went : (s : Stepped) → has_gone s ≡ true → s ≡ stepped.Went
has_went stepped.Went e = refl
has_went stepped.Ended e = absurd (true≢false (sym e))
has_went stepped.StackFull e = absurd (true≢false (sym e))
has_went (stepped.Trap c) e = absurd (true≢false (sym e))

-- traps -------------------------------------------------------------------------------------------

-- whether an answer is a trap
abbrev is_trap : Stepped → Bool
is_trap (stepped.Trap c) = true
is_trap _ = false

-- a run that has trapped has not spent its budget
abbrev pub TrapRoom : ℕ → Window → Type 0
TrapRoom budget w = (c : TrapCause) → w.over ≡ stepped.Trap c → length w.state.trace < budget

-- a system call, by which of the four it is
abbrev called : Bool → Bool → Bool → Bool → State → State → State → State × Stepped
called a b c d s x y = cond a (x, stepped.Went) (cond b (y, stepped.Went) (cond c (s, stepped.Ended)
    (cond d (s, stepped.StackFull) (s, stepped.Went))))

-- effects never trap
no_trap : (a b c d : Bool) (s x y : State) → is_trap (called a b c d s x y).1 ≡ false
no_trap true b c d s x y = refl
no_trap false true c d s x y = refl
no_trap false false true d s x y = refl
no_trap false false false true s x y = refl
no_trap false false false false s x y = refl

system_goes : (b : Bool) (s : State) → is_trap (then_system b s).1 ≡ false
system_goes false s = refl
system_goes true s = no_trap (slice_index s.registers 0 == 1) (slice_index s.registers 0 == 2)
    (slice_index s.registers 0 == 3) (slice_index s.registers 0 == 4) s
    (record s { output = s.output ++ (slice_index s.registers 3 % 256) ∷ [] }) (with_input s s.rest)

module _ (blocks : List Block) (budget : ℕ) where
  commit_room : (fs : List Frame) (w : Window) → length w.state.trace < budget → TrapRoom budget w
      → TrapRoom budget (commit fs w)
  commit_room [] w l r = r
  commit_room (f ∷ fs) w l r = by (unless (cause_held f) (outputs f))
    where
      by : (o : Outcome) → TrapRoom budget (commit_to o f fs w)
      by (Comes o) = λ c e. absurd (true≢false (sym (ap is_trap e)
          ∙ system_goes o.system (changed f.code.writes.items o w.state)))
      by (Faults k) = λ c e. l

  -- a commit that happens finds room in the budget
  can_room : (s : Stepped) (w : Window) → unless_over s (can_commit budget w) ≡ Done → length w.state.trace < budget
  can_room stepped.Went w e =
      let a = not_now (not (is_sealed w.frames)) Unsealed _ e in
      let b = not_now (nat_le budget (length w.state.trace)) Spent _ a.1 in
      leb-false budget (length w.state.trace) b.0
  can_room stepped.Ended w e = absurd (cc)
  can_room stepped.StackFull w e = absurd (cc)
  can_room (stepped.Trap c) w e = absurd (cc)

  other_room : (e : Event) → (e ≡ window.Commit → ⊥) → (w : Window) → TrapRoom budget w
      → TrapRoom budget (happens blocks budget e w)
  other_room e n w r = λ c i. subst (λ (s : State). length s.trace < budget) (sym (state_stays blocks budget e w n))
      (r c (sym (over_stays blocks budget e w n) ∙ i))

  happens_room : (e : Event) (w : Window) → TrapRoom budget w → TrapRoom budget (happens blocks budget e w)
  happens_room window.Commit w r = go (can blocks budget window.Commit w) refl
    where
      go : (h : Happened) → can blocks budget window.Commit w ≡ h
          → TrapRoom budget (if_done h (done blocks window.Commit w) w)
      go Done i = commit_room w.frames w (can_room w.over w i) r
      go (NotNow c) i = r
  happens_room (window.Fetch k) w r = other_room (window.Fetch k) (λ z. cc) w r
  happens_room (window.Read n k) w r = other_room (window.Read n k) (λ z. cc) w r
  happens_room (window.Fire n k) w r = other_room (window.Fire n k) (λ z. cc) w r
  happens_room (window.Deliver k) w r = other_room (window.Deliver k) (λ z. cc) w r
  happens_room (window.Load n k) w r = other_room (window.Load n k) (λ z. cc) w r
  happens_room (window.Store n k) w r = other_room (window.Store n k) (λ z. cc) w r
  happens_room (window.Exit n) w r = other_room (window.Exit n) (λ z. cc) w r
  happens_room (window.Seal n) w r = other_room (window.Seal n) (λ z. cc) w r
  happens_room (window.Flush n) w r = other_room (window.Flush n) (λ z. cc) w r

  plays_room : (es : List Event) (w : Window) → TrapRoom budget w → TrapRoom budget (plays blocks budget es w)
  plays_room [] w r = r
  plays_room (e ∷ es) w r = plays_room es (happens blocks budget e w) (happens_room e w r)

  -- events keep what is known of a run that has trapped
  pub events_room : (v w : Window) → ByEvents blocks budget v w → TrapRoom budget v → TrapRoom budget w
  events_room v w b r = subst (TrapRoom budget) (sym b.played) (plays_room b.events v r)
