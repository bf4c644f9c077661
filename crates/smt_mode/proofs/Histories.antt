-- A machine that has come from a stated start goes on, ends within its cost, and each program as alone.
use Rattle.std.proofs.Common.{◌≡◌, ◌≢◌, ℕ, suc, ◌-◌, ◌*◌, ◌^◌, ◌<◌, ◌≤◌, Bool, true, false, cond, List, [], None}
use Rattle.std.proofs.Common.{inl, inr, length, refl, sym, ap, ◌∙◌, subst, arith}
use Rattle.std.proofs.lemmas.Bool.{cases_lt}
use Rattle.std.proofs.lemmas.Option.{slice_get_past}
use Rattle.commit_flush_spec.specs.Laws.{TakesSteps}
use Rattle.commit_flush_spec.specs.Window.{Window}
use Rattle.grid_cycle_spec.specs.Grid.{Grid}
use Rattle.grid_cycle_spec.specs.Cycles.{closed}
use Rattle.grid_cycle_spec.specs.Costs.{greatest_cost}
use Rattle.grid_machine.proofs.RunFacts.{closed_window}
use Rattle.smt_spec.specs.Programs.{Four, alone}
use Rattle.smt_spec.specs.Parts.{Images}
use Rattle.smt_spec.specs.Cycles.{Eager4, begun, goes_on, going}
use Rattle.smt_spec.specs.inside.Cycles.{AfterFours}
use Rattle.smt_spec.proofs.OverStays.{over_stays, retired}
use Rattle.smt_spec.proofs.OwnRuns.{of_four, on_last, runs_alone}
use Rattle.smt_bound.specs.Costs.{spent_by_all}
use Rattle.smt_bound.specs.inside.FourRule.{FourRule, TwoFrames}
use Rattle.smt_bound.proofs.CycleKeepsRule.{rules_kept}
use Rattle.smt_bound.proofs.Runs as bounds
use Rattle.smt_bound.proofs.SharedKept.{cycle_far}
use Rattle.smt_mode.specs.Machines.{Program, four_by, own_in}
use Rattle.smt_mode.specs.inside.Histories.{HasCome}

module _ {W : Type 0} (next : W → ℕ) (follows : W → W → Type 0) (bound : (w : W) → next w ≤ 3) (images : Images)
    (budget : ℕ) where
  -- a cycle ----------------------------------------------------------------------------------------

  module _ (g h : Four W) (come : HasCome next follows images budget g)
      (cycle : Eager4 next follows images budget g h)
    where
      -- a program that is over behind the cycle has no frame in flight
      rests_on : (p : ℕ) → p < 4 → goes_on budget (h.own p).window ≡ false → (h.own p).window.frames ≡ []
      rests_on p l off = by (goes_on budget (g.own p).window) refl
        where
          by : (b : Bool) → goes_on budget (g.own p).window ≡ b → (h.own p).window.frames ≡ []
          by false i =
              let s = over_stays images budget p (of_four p l) next follows g h cycle i (come.rule.fetchless p l i) in
              ap (λ (w : Window). w.frames) s.0 ∙ come.rests p l i
          by true i =
              let last : goes_on budget ((cycle.last).own p).window ≡ false =
              on_last images budget p next follows g h cycle ∙ off in
              ap (λ (k : Grid W). k.window.frames) (retired images budget p (of_four p l) next follows g h cycle i
              ∙ ap (λ b. cond b (alone p cycle.last) (record (closed (alone p cycle.last)) {
                fetching = None;
              })) last)
              ∙ ap (λ (w : Window). w.frames) (closed_window (alone p cycle.last))

      -- it has come there by one cycle more
      pub come_on : going budget g ≢ [] → HasCome next follows images budget h
      come_on on = record {
        states = come.states;
        predictors = come.predictors;
        weather = come.weather;
        good = come.good;
        opens = come.opens;
        run =
            let e : h.cycles ≡ suc g.cycles =
            (cycle_far images budget 16 (omega arith) next follows g h cycle).1 ∙ omega arith in
            subst (λ n. AfterFours next follows images budget n (begun come.states come.predictors come.weather) h)
            (sym e) (record { between = g; before = come.run; on = on; after = cycle });
        rule = rules_kept images budget next follows bound g h cycle come.good come.rule;
        rests = rests_on;
      }

  -- the end ----------------------------------------------------------------------------------------

  module _ (g : Four W) (come : HasCome next follows images budget g) (few : g.cycles < 2 ^ 64 - 1) where
    -- a machine of which some program is not over has made few cycles
    pub few_cycles : going budget g ≢ [] → g.cycles < 4 * (greatest_cost * budget)
    few_cycles on = bounds.bounded images budget next follows bound come.good come.states come.predictors come.weather
        come.opens g.cycles g come.run few on

    -- one of which all are over has made no more than they have cost
    pub within_cost : going budget g ≡ [] → g.cycles ≤ spent_by_all images g
    within_cost over =
        let e = bounds.ends images budget next follows bound come.good come.states come.predictors come.weather
        come.opens g.cycles g come.run few over in
        omega (arith, e)

  -- each program's committed state is that of its own machine
  pub as_alone : (g : Four W) (come : HasCome next follows images budget g) (p : ℕ) → p < 4
      → TakesSteps (images p) (come.states p) (g.own p).window
  as_alone g come p l = runs_alone images budget p (of_four p l) next follows (come.good p l) come.states
      come.predictors come.weather (come.opens p l) g.cycles g come.run

-- a number that no program has has no frame either
pub two_frames : {W : Type 0} (images : Images) (budget : ℕ) (programs : List Program) (units : List ℕ) (weather : W)
    (cycles : ℕ) → length programs ≡ 4 → FourRule images budget (four_by programs units weather cycles) → (p : ℕ)
    → TwoFrames ((four_by programs units weather cycles).own p)
two_frames images budget programs units weather cycles four rule p = elim (cases_lt p 4) [
  | inl l ↦ rule.frames p l
  | inr l ↦ subst TwoFrames (sym (ap own_in (slice_get_past programs p (omega (arith, four, l)))))
      (record { numbers = tt; room = λ n. absurd (n refl) })
]
