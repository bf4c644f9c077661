-- Law each as alone: in a run of four programs the committed state of each takes steps of its own machine.
use Rattle.std.proofs.Common.{◌≡◌, ℕ, zero, suc, inl, inr, ◌<◌, Bool, true, false, cond, nat_lt, List, length}
use Rattle.std.proofs.Common.{None, refl, sym, ap, ap₂, ◌∙◌, subst, arith, true≢false}
use Rattle.trips_isa.specs.Machine.{State}
use Rattle.block_predict.specs.Predicts.{Holding}
use Rattle.commit_flush_spec.specs.InFlight.{opened}
use Rattle.commit_flush_spec.specs.Window.{Window}
use Rattle.commit_flush_spec.specs.inside.Invariant.{AllGood}
use Rattle.commit_flush_spec.specs.Laws.{TakesSteps}
use Rattle.commit_flush_spec.specs.inside.Laws.{WindowOk}
use Rattle.grid_cycle_spec.specs.Grid.{Grid}
use Rattle.grid_cycle_spec.specs.inside.Laws.{ByEvents}
use Rattle.grid_cycle_spec.proofs.Agreeing.{takes_steps}
use Rattle.smt_spec.specs.Programs.{Own, Four, alone}
use Rattle.smt_spec.specs.Turns.{all_four}
use Rattle.smt_spec.specs.inside.Among.{Has}
use Rattle.smt_spec.specs.Parts.{Images}
use Rattle.smt_spec.specs.Cycles.{has_gone, goes_on, Eager4, begun}
use Rattle.smt_spec.specs.inside.Cycles.{AfterFours}
use Rattle.smt_spec.proofs.OwnEvents.{Same, no_event, and_then, last_own, same_last, same_steps}
use Rattle.smt_spec.proofs.OverStays.{over_stays, retired, retires_on, retires_off}

-- the four programs are those below four
pub of_four : (q : ℕ) → q < 4 → Has q all_four
of_four zero l = inl refl
of_four (suc zero) l = inr (inl refl)
of_four (suc (suc zero)) l = inr (inr (inl refl))
of_four (suc (suc (suc zero))) l = inr (inr (inr (inl refl)))
of_four (suc (suc (suc (suc q)))) l = absurd (omega (arith, l))

-- what has the same state and ending goes on as long
pub same_goes : (budget : ℕ) (v w : Window) → Same v w → goes_on budget w ≡ goes_on budget v
same_goes budget v w s = ap₂ (λ (t : State) o. cond (has_gone o) (nat_lt (length t.trace) budget) false) s.state
    s.over

-- who goes on behind a cycle has gone on behind part (6)
module _ {W : Type 0} (images : Images) (budget q : ℕ) (next : W → ℕ) (follows : W → W → Type 0) (g h : Four W)
    (cycle : Eager4 next follows images budget g h) where
  -- so far it is the same whether it goes on
  pub on_last : goes_on budget ((cycle.last).own q).window ≡ goes_on budget (h.own q).window
  on_last = sym (same_goes budget ((cycle.last).own q).window (h.own q).window
      (same_last images budget q next follows g h cycle))

-- a program with a fetch goes on
abbrev pub Fetchless : ℕ → Own → Type 0
Fetchless budget o = goes_on budget o.window ≡ false → o.fetching ≡ None

module _ {W : Type 0} (images : Images) (budget q : ℕ) (there : Has q all_four) (next : W → ℕ)
    (follows : W → W → Type 0) where
  -- a cycle leaves no fetch to a program that is over
  pub cycle_fetchless : (g h : Four W) → Eager4 next follows images budget g h → Fetchless budget (g.own q)
      → Fetchless budget (h.own q)
  cycle_fetchless g h cycle f e = by (goes_on budget (g.own q).window) refl
    where
      by : (b : Bool) → goes_on budget (g.own q).window ≡ b → (h.own q).fetching ≡ None
      by false i = (over_stays images budget q there next follows g h cycle i (f i)).1 ∙ f i
      by true i = ap (λ (k : Grid W). k.fetching) (retired images budget q there next follows g h cycle i)
          ∙ retires_off images budget (alone q cycle.last) (on_last images budget q next follows g h cycle ∙ e)

  module _ (good : AllGood (images q)) (states : ℕ → State) (predictors : ℕ → Holding) (weather : W)
      (opens : WindowOk (images q) budget (opened (states q))) where
    -- what is known of the program after some cycles
    record Stands (h : Four W) : Type 0 where
      steps : TakesSteps (images q) (states q) (h.own q).window
      -- while it goes on its window has changed by events
      events : goes_on budget (h.own q).window ≡ true → ByEvents (images q) budget (opened (states q)) (h.own
          q).window
      fetchless : Fetchless budget (h.own q)

    begin : Stands (begun states predictors weather)
    begin =
        let e : ByEvents (images q) budget (opened (states q)) (opened (states q)) =
        no_event (images q) budget (opened (states q)) (opened (states q)) refl in
        record {
          steps = takes_steps (images q) good budget (opened (states q)) (opened (states q)) opens refl e;
          events = λ z. e;
          fetchless = λ z. refl;
        }

    step : (g h : Four W) → Eager4 next follows images budget g h → Stands g → Stands h
    step g h cycle s = by (goes_on budget (g.own q).window) refl
      where
        by : (b : Bool) → goes_on budget (g.own q).window ≡ b → Stands h
        by false i =
            let z = over_stays images budget q there next follows g h cycle i (s.fetchless i) in
            record {
              steps = subst (λ w. TakesSteps (images q) (states q) w) (sym z.0) s.steps;
              events = λ e. absurd (true≢false (sym e ∙ ap (goes_on budget) z.0 ∙ i));
              fetchless = cycle_fetchless g h cycle s.fetchless;
            }
        by true i =
            let e : ByEvents (images q) budget (opened (states q)) ((cycle.last).own q).window =
            and_then (images q) budget (opened (states q)) (g.own q).window ((cycle.last).own q).window (s.events i)
            (last_own images budget q next follows g h cycle) in
            record {
              steps = same_steps (images q) (states q) ((cycle.last).own q).window (h.own q).window
                  (same_last images budget q next follows g h cycle)
                  (takes_steps (images q) good budget (opened (states q)) ((cycle.last).own q).window opens refl e);
              events = λ on. subst (λ (k : Grid W). ByEvents (images q) budget (opened (states q)) k.window)
                  (sym (retired images budget q there next follows g h cycle i
                  ∙ retires_on images budget (alone q cycle.last)
                  (on_last images budget q next follows g h cycle ∙ on))) e;
              fetchless = cycle_fetchless g h cycle s.fetchless;
            }

    stand : (n : ℕ) (h : Four W) → AfterFours next follows images budget n (begun states predictors weather) h
        → Stands h
    stand zero h e = subst Stands (sym e) begin
    stand (suc n) h a = step a.between h a.after (stand n a.between a.before)

    -- after any number of cycles the program's committed state is that of its own machine, and its run has ended as
    -- that machine's
    pub runs_alone : (n : ℕ) (h : Four W)
        → AfterFours next follows images budget n (begun states predictors weather) h
        → TakesSteps (images q) (states q) (h.own q).window
    runs_alone n h a = (stand n h a).steps
