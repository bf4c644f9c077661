-- The start of a run, and whole runs of a seed.
use Rattle.std.proofs.Common.{◌≡◌, ℕ, ◌+◌, ◌-◌, ◌*◌, ◌≤◌, ◌<◌, Bool, true, false, cond, nat_lt}
use Rattle.std.proofs.Common.{List, [], length, Option}
use Rattle.std.proofs.Common.{refl, sym, ap, ◌∙◌, subst, arith}
use Rattle.std.proofs.lemmas.Bool.{ltb-true}
use Rattle.trips_isa.specs.declared.block.Block.{Block}
use Rattle.trips_isa.specs.declared.run.Ending.{Ending}
use Rattle.trips_isa.specs.declared.run.Traced.{Traced}
use Rattle.trips_isa.specs.declared.run.Stepped.{Stepped}
use Rattle.trips_isa.specs.declared.run.Stepped.TheVariants as stepped
use Rattle.trips_isa.specs.Machine.{State}
use Rattle.operand_net.specs.Seeded as holds
use Rattle.operand_net.specs.declared.weather.PcgWeather.{PcgWeather}
use Rattle.block_predict.specs.Predicts.{Holding, holding}
use Rattle.block_predict.specs.Seeded as exits
use Rattle.commit_flush_spec.specs.Window.{Window, opened}
use Rattle.grid_machine.specs.Going.{goes}
use Rattle.commit_flush_spec.specs.inside.Invariant.{AllGood}
use Rattle.commit_flush_spec.specs.inside.Laws.{WindowOk}
use Rattle.grid_cycle_spec.specs.Costs.{greatest, greatest_cost}
use Rattle.grid_cycle_spec.specs.Grid.{Grid}
use Rattle.grid_cycle_spec.specs.Laws.{AddsUp}
use Rattle.grid_parts.specs.inside.Changes.{begun_with}
use Rattle.grid_machine.specs.Answered.{HasCome}
use Rattle.grid_machine.specs.Endings.{ended, is_going}
use Rattle.grid_machine.specs.Tallies.{CountsCommits}
use Rattle.grid_machine.specs.WholeRuns.{IsRun, most_cycles}
use Rattle.grid_machine.specs.inside.WholeRuns.{IsKept}
use Rattle.grid_machine.proofs.RunFacts.{has_come}
use Rattle.grid_machine.specs.Seeds.{IsAfter, IsRanFrom, next_hold, started_on}

-- at the start the counts have room
begun_kept : {W : Type 0} (budget : ℕ) (s : State) (p : Holding) (w : W) → IsKept budget (begun_with s p w)
begun_kept budget s p w = record {
  counted = record { adds = refl; fetched = omega arith };
  rests = λ z. refl;
}

pub kept_of : {W : Type 0} (budget : ℕ) (s : State) (p : Holding) (w : W) (g : Grid W) → g ≡ begun_with s p w
    → IsKept budget g
kept_of budget s p w g e = subst (IsKept budget) (sym e) (begun_kept budget s p w)

-- a window that is opened on a state has that state
pub opened_of : (w : Window) (s : State) → w ≡ opened s → w ≡ opened w.state
opened_of w s e = e ∙ ap opened (sym (ap (λ (v : Window). v.state) e))

-- a grid over a window that is opened on a state
pub begun_of : {W : Type 0} (w : Window) (s : State) (p : Holding) (x : W) (g : Grid W)
    → g ≡ begun_with w.state p x → w ≡ opened s → g ≡ begun_with s p x
begun_of w s p x g e o = e ∙ ap (λ t. begun_with t p x) (ap (λ (v : Window). v.state) o)

-- seeds ------------------------------------------------------------------------------------------

-- the predictor and the weather of a seed make the start of the seed
pub seed_start : (s : State) (seed : ℕ) (p : Holding) (w : PcgWeather) (g : Grid PcgWeather)
    → g ≡ begun_with s p w → p ≡ holding (exits.entries_of seed) 0 []
    → w.generator ≡ holds.generator seed → g ≡ started_on s seed
seed_start s seed p w g e predictor weather =
    e
    ∙ ap (λ q. begun_with s q w) predictor
    ∙ ap (λ x. (let v : PcgWeather = record { generator = x } in
    begun_with s (holding (exits.entries_of seed) 0 []) v)) weather

-- with a budget a run goes on at its start
pub started_going : (s : State) (seed budget : ℕ) (g : Grid PcgWeather) → s.trace ≡ [] → 0 < budget
    → g ≡ started_on s seed → is_going budget g.window ≡ true
started_going s seed budget g fresh some e =
    ap (λ (x : Grid PcgWeather). is_going budget x.window) e
    ∙ ap (λ (t : List Traced). nat_lt (length t) budget) fresh ∙ positive budget some
  where
    positive : (n : ℕ) → 0 < n → nat_lt 0 n ≡ true
    positive n l = grind (arith, l)

-- no cycle has been made at a start
pub started_cycles : (s : State) (seed : ℕ) (g : Grid PcgWeather) → g ≡ started_on s seed → g.counts.cycles ≡ 0
started_cycles s seed g e = ap (λ (x : Grid PcgWeather). x.counts.cycles) e

-- a run that goes on has not ended
pub went_of : (budget : ℕ) (w : Window) → is_going budget w ≡ true → w.over ≡ stepped.Went
went_of budget w e = go w.over (nat_lt (length w.state.trace) budget) e
  where
    go : (o : Stepped) (b : Bool) → cond (goes o) b false ≡ true → o ≡ stepped.Went
    go stepped.Went b e = refl
    go stepped.Ended b e = absurd (cc)
    go stepped.StackFull b e = absurd (cc)
    go (stepped.Trap c) b e = absurd (cc)

module _ (blocks : List Block) (s : State) (budget seed : ℕ) (answer : Option Ending) (h : Grid PcgWeather)
    (fresh : s.trace ≡ []) where
  from_start : IsRun next_hold IsAfter blocks budget (h.counts.cycles - 0) (started_on s seed) h
      → (0 ≤ most_cycles budget → h.counts.cycles ≤ most_cycles budget)
      → CountsCommits (started_on s seed) h
      → HasCome blocks s (budget - length s.trace) budget (most_cycles budget) answer h
      → IsRanFrom blocks s budget seed answer h
  from_start run few commits comes =
      let made : h.counts.cycles - 0 ≡ h.counts.cycles = omega arith in
      let none : length s.trace ≡ 0 = ap (λ (t : List Traced). length t) fresh in
      let all : budget - length s.trace ≡ budget = omega (arith, none) in
      record {
        fresh = fresh;
        run = subst (λ n. IsRun next_hold IsAfter blocks budget n (started_on s seed) h) made run;
        few = few (omega arith);
        committed = omega (arith, commits, none);
        comes = subst (λ n. HasCome blocks s n budget (most_cycles budget) answer h) all comes;
      }

  -- a run of the started grid of a seed that was answered so is a run of the seed
  pub is_ran : (g : Grid PcgWeather) → g ≡ started_on s seed
      → IsRun next_hold IsAfter blocks budget (h.counts.cycles - g.counts.cycles) g h
      → (g.counts.cycles ≤ most_cycles budget → h.counts.cycles ≤ most_cycles budget)
      → CountsCommits g h
      → HasCome blocks g.window.state (budget - length g.window.state.trace) budget (most_cycles budget) answer h
      → IsRanFrom blocks s budget seed answer h
  is_ran g e = subst (λ (x : Grid PcgWeather). IsRun next_hold IsAfter blocks budget
      (h.counts.cycles - x.counts.cycles) x h → (x.counts.cycles ≤ most_cycles budget
      → h.counts.cycles ≤ most_cycles budget) → CountsCommits x h → HasCome blocks x.window.state
      (budget - length x.window.state.trace) budget (most_cycles budget) answer h
      → IsRanFrom blocks s budget seed answer h) (sym e) (from_start)

-- a run, within a budget and up to a number of cycles that are those of the window
pub run_has_come : {W : Type 0} (next : W → ℕ) (follows : W → W → Type 0) (blocks : List Block) (b budget most n : ℕ)
    (g h : Grid W) → b ≡ budget → most ≡ most_cycles b → AllGood blocks → WindowOk blocks budget g.window
    → is_going budget g.window ≡ true → AddsUp g → IsRun next follows blocks b n g h
    → (is_going b h.window ≡ true → most ≤ h.counts.cycles) → (answer : Option Ending)
    → answer ≡ ended b h.window
    → HasCome blocks g.window.state (budget - length g.window.state.trace) budget (most_cycles budget) answer h
run_has_come next follows blocks b budget most n g h e m good ok on adds run full answer tells =
    has_come blocks budget (most_cycles budget) next follows good n g h ok (went_of budget g.window on) adds
    (subst (λ x. IsRun next follows blocks x n g h) e run)
    (λ o. subst (λ k. k ≤ h.counts.cycles) (m ∙ ap most_cycles e)
    (full (subst (λ x. is_going x h.window ≡ true) (sym e) o)))
    answer (tells ∙ ap (λ x. ended x h.window) e)

-- the greatest number of cycles of a budget
pub most_is : (budget : ℕ) → greatest_cost * budget ≡ most_cycles budget
unfolding most_cycles greatest
most_is budget = refl
