-- Runs that go on by a cycle, and the grids that they lead to.
use Rattle.std.proofs.Common.{◌≡◌, ℕ, zero, suc, ◌+◌, true, cond, List, [], ◌∷◌, ◌++◌}
use Rattle.std.proofs.Common.{length, refl, ap, sym, ◌∙◌, subst}
use Rattle.std.proofs.Common.{add-one, arith}
use Rattle.trips_isa.specs.declared.block.Block.{Block}
use Rattle.operand_net.specs.declared.weather.PcgWeather.{PcgWeather}
use Rattle.grid_cycle_spec.specs.Cycles.{Eager}
use Rattle.grid_cycle_spec.specs.Grid.{Grid}
use Rattle.grid_machine.specs.Endings.{is_going}
use Rattle.grid_machine.specs.Seeds.{IsAfter, next_hold, started}
use Rattle.grid_machine.specs.WholeRuns.{GoesFor, IsRun, going_cycles}
use Rattle.grid_machine.proofs.CallFacts.{on_before}
use Rattle.grid_machine.proofs.RunFacts.{end_going}
use Rattle.grid_record.specs.Records.{AreReached, IsReached}

-- no cycle leads to the start of a run that goes on
pub none_made : (blocks : List Block) (bytes input : List ℕ) (budget seed : ℕ) (g : Grid PcgWeather)
    → g ≡ started bytes input seed → is_going budget g.window ≡ true → IsReached blocks bytes input budget seed 0 g
none_made blocks bytes input budget seed g e on =
    record { last = g; cycles = e; ends = sym (end_going budget g on) }

-- a run that goes on, and a cycle more
pub cycle_more : {W : Type 0} (next : W → ℕ) (follows : W → W → Type 0) (blocks : List Block) (budget n : ℕ)
    (f g h : Grid W) → is_going budget g.window ≡ true → IsRun next follows blocks budget n f g
    → IsRun next follows blocks budget (going_cycles budget g.window) g h
    → IsRun next follows blocks budget (n + 1) f h
cycle_more {W} next follows blocks budget n f g h on before one =
    let same : g ≡ before.last =
    before.ends ∙ end_going budget before.last (on_before budget before.last g before.ends on) in
    let c : GoesFor next follows blocks budget (suc zero) g one.last =
    subst (λ k. GoesFor next follows blocks budget k g one.last) (ap (λ b. cond b 1 0) on) one.cycles in
    let eager : Eager next follows blocks budget g one.last =
    subst (λ m. Eager next follows blocks budget m one.last) (c.before).0 c.after in
    record {
      last = one.last;
      cycles = subst (λ k. GoesFor next follows blocks budget k f one.last) (sym (add-one n)) (record {
        between = g;
        before = (subst (λ (x : Grid W). GoesFor next follows blocks budget n f x) (sym same) before.cycles, on);
        after = eager;
      });
      ends = one.ends;
    }

-- the same, over an image and a budget that are these
pub cycle_on : (bs blocks : List Block) (b budget n m : ℕ) (f g h : Grid PcgWeather) → bs ≡ blocks → b ≡ budget
    → m ≡ n + 1 → true ≡ is_going b g.window → IsRun next_hold IsAfter blocks budget n f g
    → IsRun next_hold IsAfter bs b (going_cycles b g.window) g h → IsRun next_hold IsAfter blocks budget m f h
cycle_on bs blocks b budget n m f g h x y sum on before one =
    subst (λ k. IsRun next_hold IsAfter blocks budget k f h) (sym sum)
    (cycle_more next_hold IsAfter blocks budget n f g h (ap (λ k. is_going k g.window) (sym y) ∙ sym on) before
    (subst (λ k. IsRun next_hold IsAfter blocks k (going_cycles k g.window) g h) y
    (subst (λ k. IsRun next_hold IsAfter k b (going_cycles b g.window) g h) x one)))

-- one grid more behind others
pub reached_more : (blocks : List Block) (bytes input : List ℕ) (budget seed n : ℕ) (gs : List (Grid PcgWeather))
    (g : Grid PcgWeather) → AreReached blocks bytes input budget seed n gs
    → IsReached blocks bytes input budget seed (n + length gs) g
    → AreReached blocks bytes input budget seed n (gs ++ g ∷ [])
reached_more blocks bytes input budget seed n [] g before last =
    (subst (λ k. IsReached blocks bytes input budget seed k g) (let e : n + 0 ≡ n = omega arith in e) last, tt)
reached_more blocks bytes input budget seed n (f ∷ fs) g before last = (
  before.0,
  reached_more blocks bytes input budget seed (suc n) fs g before.1
      (subst (λ k. IsReached blocks bytes input budget seed k g)
      (let e : n + suc (length fs) ≡ suc n + length fs = omega arith in e) last),
)
