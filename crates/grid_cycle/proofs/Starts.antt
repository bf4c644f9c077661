-- The start of a run under conditions, and whole runs from it.
use Rattle.std.proofs.Common.{◌≡◌, ℕ, ◌-◌, ◌≤◌, ◌<◌, true, nat_lt, List, [], length, Option}
use Rattle.std.proofs.Common.{sym, ap, ◌∙◌, subst, arith}
use Rattle.trips_isa.specs.declared.block.Block.{Block}
use Rattle.trips_isa.specs.declared.run.Ending.{Ending}
use Rattle.trips_isa.specs.declared.run.Traced.{Traced}
use Rattle.trips_isa.specs.Machine.{State}
use Rattle.block_predict.specs.Predicts.{Holding}
use Rattle.grid_cycle_spec.specs.Grid.{Grid}
use Rattle.grid_parts.specs.inside.Changes.{begun_with}
use Rattle.grid_machine.specs.Answered.{HasCome}
use Rattle.grid_machine.specs.Endings.{is_going}
use Rattle.grid_machine.specs.Tallies.{CountsCommits}
use Rattle.grid_machine.specs.WholeRuns.{IsRun, most_cycles}
use Rattle.grid_cycle.specs.declared.conditions.Conditions.{Conditions}
use Rattle.grid_cycle.specs.declared.weather.AnyWeather.{AnyWeather}
use Rattle.grid_cycle.specs.Conditions.{IsAfter, IsRanFrom, next_hold, predictor_of, started_on, weather_of}

-- the predictor and the weather of conditions make their start
pub conditions_start : (s : State) (c : Conditions) (p : Holding) (w : AnyWeather) (g : Grid AnyWeather)
    → g ≡ begun_with s p w → p ≡ predictor_of c → w ≡ weather_of c → g ≡ started_on s c
conditions_start s c p w g e predictor weather =
    e ∙ ap (λ q. begun_with s q w) predictor ∙ ap (λ x. begun_with s (predictor_of c) x) weather

-- with a budget a run goes on at its start
pub started_going : (s : State) (c : Conditions) (budget : ℕ) (g : Grid AnyWeather) → s.trace ≡ [] → 0 < budget
    → g ≡ started_on s c → is_going budget g.window ≡ true
started_going s c budget g fresh some e =
    ap (λ (x : Grid AnyWeather). is_going budget x.window) e
    ∙ ap (λ (t : List Traced). nat_lt (length t) budget) fresh ∙ positive budget some
  where
    positive : (n : ℕ) → 0 < n → nat_lt 0 n ≡ true
    positive n l = grind (arith, l)

-- no cycle has been made at a start
pub started_cycles : (s : State) (c : Conditions) (g : Grid AnyWeather) → g ≡ started_on s c → g.counts.cycles ≡ 0
started_cycles s c g e = ap (λ (x : Grid AnyWeather). x.counts.cycles) e

module _ (blocks : List Block) (s : State) (budget : ℕ) (conditions : Conditions) (answer : Option Ending)
    (h : Grid AnyWeather) (fresh : s.trace ≡ []) where
  from_start : IsRun next_hold IsAfter blocks budget (h.counts.cycles - 0) (started_on s conditions) h
      → (0 ≤ most_cycles budget → h.counts.cycles ≤ most_cycles budget)
      → CountsCommits (started_on s conditions) h
      → HasCome blocks s (budget - length s.trace) budget (most_cycles budget) answer h
      → IsRanFrom blocks s budget conditions answer h
  from_start run few commits comes =
      let made : h.counts.cycles - 0 ≡ h.counts.cycles = omega arith in
      let none : length s.trace ≡ 0 = ap (λ (t : List Traced). length t) fresh in
      let all : budget - length s.trace ≡ budget = omega (arith, none) in
      record {
        fresh = fresh;
        run = subst (λ n. IsRun next_hold IsAfter blocks budget n (started_on s conditions) h) made run;
        few = few (omega arith);
        committed = omega (arith, commits, none);
        comes = subst (λ n. HasCome blocks s n budget (most_cycles budget) answer h) all comes;
      }

  -- a run of the started grid that was answered so is a run under the conditions
  pub is_ran : (g : Grid AnyWeather) → g ≡ started_on s conditions
      → IsRun next_hold IsAfter blocks budget (h.counts.cycles - g.counts.cycles) g h
      → (g.counts.cycles ≤ most_cycles budget → h.counts.cycles ≤ most_cycles budget)
      → CountsCommits g h
      → HasCome blocks g.window.state (budget - length g.window.state.trace) budget (most_cycles budget) answer h
      → IsRanFrom blocks s budget conditions answer h
  is_ran g e = subst (λ (x : Grid AnyWeather). IsRun next_hold IsAfter blocks budget
      (h.counts.cycles - x.counts.cycles) x h → (x.counts.cycles ≤ most_cycles budget
      → h.counts.cycles ≤ most_cycles budget) → CountsCommits x h → HasCome blocks x.window.state
      (budget - length x.window.state.trace) budget (most_cycles budget) answer h
      → IsRanFrom blocks s budget conditions answer h) (sym e) (from_start)
