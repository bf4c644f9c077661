-- Runs of a machine: where all four are over, and what each has then come to.
use Rattle.std.proofs.Common.{◌≡◌, ◌≢◌, ℕ, zero, suc, ◌+◌, ◌-◌, ◌*◌, ◌^◌, ◌<◌, ◌≤◌, ◌==◌, Bool, true, false, List, []}
use Rattle.std.proofs.Common.{◌∷◌}
use Rattle.std.proofs.Common.{Option, Some, None, length, nat_lt, cond, slice_get, refl, sym, ap, ◌∙◌, subst, arith}
use Rattle.std.proofs.Common.{true≢false}
use Rattle.std.proofs.lemmas.Bool.{eqb-true, false_from_ne_true, ltb-false}
use Rattle.trips_isa.specs.declared.causes.TrapCause.{TrapCause}
use Rattle.trips_isa.specs.declared.run.Ending.{Ending}
use Rattle.trips_isa.specs.declared.run.Stepped.{Stepped}
use Rattle.trips_isa.specs.declared.run.Stepped.TheVariants.{Went, Ended, StackFull, Trap}
use Rattle.trips_isa.specs.Machine.{State, runs}
use Rattle.commit_flush_spec.specs.InFlight.{opened}
use Rattle.commit_flush_spec.specs.Laws.{TakesSteps}
use Rattle.commit_flush_spec.specs.Window.{Window}
use Rattle.commit_flush_spec.specs.inside.Laws.{WindowOk}
use Rattle.grid_cycle_spec.specs.Costs.{greatest_cost}
use Rattle.grid_machine.specs.Endings.{ending_of}
use Rattle.grid_machine.proofs.MachineRuns.{came_to}
use Rattle.grid_machine.proofs.TrapRooms.{HasRoom}
use Rattle.smt_spec.specs.Programs.{Four}
use Rattle.smt_spec.specs.Parts.{Images}
use Rattle.smt_spec.specs.Turns.{all_four}
use Rattle.smt_spec.specs.Cycles.{Eager4, begun, goes_on, going, has_gone}
use Rattle.smt_spec.specs.inside.Among.{Has}
use Rattle.smt_spec.specs.inside.Cycles.{AfterFours}
use Rattle.smt_spec.proofs.OverStays.{those_have}
use Rattle.smt_spec.proofs.OwnRuns.{of_four, runs_alone}
use Rattle.smt_bound.proofs.SharedKept.{cycle_far}
use Rattle.smt_mode.specs.declared.four.Started.{Started}
use Rattle.smt_mode.specs.Fours.{EndsAlone, Fours, HasRan, IsOver}
use Rattle.smt_mode.specs.Starts as starts
use Rattle.smt_mode.specs.inside.Histories.{HasCome}
use Rattle.smt_mode.proofs.Histories.{few_cycles}

-- whether all are over is told by how many are not
pub over_told : {W : Type 0} (b : Bool) (v : Fours W) (xs : List ℕ) → b ≡ (length xs == 0)
    → xs ≡ going v.budget v.four → IsOver b v
over_told true v [] e is = sym is
over_told true v (x ∷ xs) e is =
    let n : suc (length xs) ≡ 0 = eqb-true (length (x ∷ xs)) 0 (sym e) in absurd (omega (arith, n))
over_told false v [] e is = absurd (true≢false (sym e))
over_told false v (x ∷ xs) e is = λ z.
    let n : suc (length xs) ≡ 0 = ap length (is ∙ z) in absurd (omega (arith, n))

-- as many as none are none, and as many as some are some
pub none_told : (xs ys : List ℕ) → true ≡ (length xs == 0) → xs ≡ ys → ys ≡ []
none_told [] ys e is = sym is
none_told (x ∷ xs) ys e is =
    let n : suc (length xs) ≡ 0 = eqb-true (length (x ∷ xs)) 0 (sym e) in absurd (omega (arith, n))

pub some_told : (xs ys : List ℕ) → false ≡ (length xs == 0) → xs ≡ ys → ys ≢ []
some_told [] ys e is = absurd (true≢false (sym e))
some_told (x ∷ xs) ys e is = λ z. let n : suc (length xs) ≡ 0 = ap length (is ∙ z) in omega (arith, n)

module _ {W : Type 0} (next : W → ℕ) (follows : W → W → Type 0) (images : Images) (budget : ℕ) where
  -- cycles behind cycles
  pub ran_then : (g k h : Four W) → HasRan next follows images budget g k → (n : ℕ)
      → AfterFours next follows images budget n k h → HasRan next follows images budget g h
  ran_then g k h r zero e = subst (HasRan next follows images budget g) (sym e) r
  ran_then g k h r (suc n) a =
      let s : HasRan next follows images budget g a.between = ran_then g k a.between r n a.before in
      let c = s.counted in
      let l : h.cycles ≡ (a.between).cycles + 1 =
      (cycle_far images budget 16 (omega arith) next follows a.between h a.after).1 in
      record {
        made = suc s.made;
        run = record { between = a.between; before = s.run; on = a.on; after = a.after };
        counted = omega (arith, c, l);
      }

  pub ran_to : (g k h : Four W) → HasRan next follows images budget g k → HasRan next follows images budget k h
      → HasRan next follows images budget g h
  ran_to g k h r s = ran_then g k h r s.made s.run

  -- none
  pub ran_none : (g : Four W) → HasRan next follows images budget g g
  ran_none g = record { made = 0; run = refl; counted = omega arith }

  -- one
  pub ran_one : (g h : Four W) → going budget g ≢ [] → Eager4 next follows images budget g h
      → HasRan next follows images budget g h
  ran_one g h on e = record {
    made = 1;
    run = record { between = g; before = refl; on = on; after = e };
    counted = (cycle_far images budget 16 (omega arith) next follows g h e).1;
  }

  -- a program of a machine of which all are over does not go on
  pub none_goes : (g : Four W) → going budget g ≡ [] → (p : ℕ) → p < 4 → goes_on budget (g.own p).window ≡ false
  none_goes g over p l = false_from_ne_true (goes_on budget (g.own p).window) (λ on.
      subst (Has p) over (those_have (goes_on budget) g p all_four (of_four p l) on))

  -- a machine of which all are not over has made fewer cycles than a run makes
  pub over_at_most : ((w : W) → next w ≤ 3) → (g : Four W) → HasCome next follows images budget g
      → g.cycles < 2 ^ 64 - 1 → 4 * (greatest_cost * budget) ≤ g.cycles → going budget g ≡ []
  over_at_most bound g come few most = by (going budget g) refl
    where
      by : (xs : List ℕ) → going budget g ≡ xs → going budget g ≡ []
      by [] e = e
      by (x ∷ xs) e =
          let l = few_cycles next follows bound images budget g come few (λ z.
          let n : suc (length xs) ≡ 0 = ap length (sym e ∙ z) in omega (arith, n)) in
          absurd (omega (arith, l, most))

-- a run that has not ended has made all its commits
spent : (o : Stepped) (n budget : ℕ) → cond (has_gone o) (nat_lt n budget) false ≡ false → o ≡ Went → budget ≤ n
spent Went n budget e z = ltb-false n budget e
spent Ended n budget e z = absurd (cc)
spent StackFull n budget e z = absurd (cc)
spent (Trap c) n budget e z = absurd (cc)

-- a trap fits the budget
fits : (o : Stepped) (n budget : ℕ) → ((c : TrapCause) → o ≡ Trap c → n < budget) → HasRoom o n budget
fits Went n budget f = tt
fits Ended n budget f = tt
fits StackFull n budget f = tt
fits (Trap c) n budget f = f c refl

-- a start has an empty trace
fresh : (o : Option Started) → length (starts.state_in o).trace ≡ 0
fresh None = refl
fresh (Some s) = refl

module _ {W : Type 0} (next : W → ℕ) (follows : W → W → Type 0) (images : Images) (budget : ℕ) (g h : Four W)
    (programs : List Started) (weather : W) (begins : g ≡ starts.begun_at programs weather)
    (come : HasCome next follows images budget g) (ran : HasRan next follows images budget g h)
    (later : HasCome next follows images budget h) (over : going budget h ≡ []) (p : ℕ) (l : p < 4) where
  -- the state from which the program began
  abbrev at_start : State
  at_start = starts.states_at programs p

  begun_is : g ≡ begun come.states come.predictors come.weather
  begun_is =
      let none : g.cycles ≡ 0 = ap (λ (k : Four W). k.cycles) begins in
      subst (λ n. AfterFours next follows images budget n (begun come.states come.predictors come.weather) g) none
      come.run

  opens : WindowOk (images p) budget (opened (at_start))
  opens = subst (WindowOk (images p) budget)
      (sym (ap (λ (k : Four W). (k.own p).window) (begun_is)) ∙ ap (λ (k : Four W). (k.own p).window) begins)
      (come.opens p l)

  steps : TakesSteps (images p) (at_start) (h.own p).window
  steps = runs_alone images budget p (of_four p l) next follows (come.good p l) (starts.states_at programs)
      (λ q. starts.predictor_in (slice_get programs q)) weather (opens) ran.made h
      (subst (λ k. AfterFours next follows images budget ran.made k h) begins ran.run)

  made : length (h.own p).window.state.trace ≡ (steps).steps
  made =
      let a = (steps).grown in
      let b = fresh (slice_get programs p) in
      omega (arith, a, b)

  comes : ((h.own p).window.state, (h.own p).window.over) ≡ runs (images p) (at_start) budget
  comes =
      let w : Window = (h.own p).window in
      let m = made in
      let few = ((later.rule).budgets p l).spent in
      came_to (images p) (at_start) w.state w.over (steps).steps budget (omega (arith, m, few))
      (λ z. let all =
      spent w.over (length w.state.trace) budget (none_goes next follows images budget h over p l) z in
      omega (arith, m, all))
      (fits w.over (steps).steps budget
      (λ c z. let t = ((later.rule).budgets p l).trapped c z in omega (arith, m, t)))
      (steps).reached

  -- it has come to where its own machine comes to within the budget
  pub ends_alone : (e : Ending) → e ≡ ending_of (h.own p).window.over (h.own p).window.state.next
      → EndsAlone (record { images = images; budget = budget; four = h }) programs p e
  ends_alone e told = record {
    state = ap (λ (q : State × Stepped). q.0) (comes);
    over = ap (λ (q : State × Stepped). q.1) (comes);
    ending = told;
    rests = later.rests p l (none_goes next follows images budget h over p l);
  }
