-- Law four within cost: the cycles of a run are within what its programs have spent.
use Rattle.std.proofs.Common.{◌≡◌, ℕ, zero, suc, ◌+◌, ◌*◌, ◌-◌, ◌^◌, ◌<◌, ◌≤◌, List, [], ◌∷◌, slice_get, refl}
use Rattle.std.proofs.Common.{sym}
use Rattle.std.proofs.Common.{ap, subst, arith}
use Rattle.trips_isa.specs.Machine.{State}
use Rattle.block_predict.specs.Predicts.{Holding}
use Rattle.commit_flush_spec.specs.InFlight.{opened}
use Rattle.commit_flush_spec.specs.inside.Invariant.{AllGood}
use Rattle.commit_flush_spec.specs.inside.Laws.{WindowOk}
use Rattle.grid_cycle_spec.specs.Costs.{cost_in, cost_of, fetch_latency, greatest_cost}
use Rattle.grid_bound.specs.inside.Lanes.{lane_in}
use Rattle.grid_bound.proofs.Held.{held_some}
use Rattle.smt_spec.specs.Programs.{Four, alone}
use Rattle.smt_spec.specs.Turns.{all_four}
use Rattle.smt_spec.specs.Parts.{Images}
use Rattle.smt_spec.specs.Cycles.{goes_on, going, Eager4, begun}
use Rattle.smt_spec.specs.inside.Cycles.{AfterFours}
use Rattle.smt_spec.proofs.OverStays.{on_parts}
use Rattle.smt_bound.specs.Costs.{of_all, spent, spent_by_all}
use Rattle.smt_bound.specs.inside.FourRule.{FourRule}
use Rattle.smt_bound.specs.inside.Holding.{HeldFor}
use Rattle.smt_bound.specs.inside.LeftOfFirst.{next_size, left_of_first, cost_of_first, spent_soon, OneCycle}
use Rattle.smt_bound.proofs.CycleKeepsRule.{rules_kept, begun_rules}
use Rattle.smt_bound.proofs.FirstCycle.{below_four, those_head}
use Rattle.smt_bound.proofs.OneCycle.{first_most, one_cycle, sum_more}
use Rattle.smt_bound.proofs.SharedKept.{cycle_far}
use Rattle.smt_bound.proofs.SpentGrows.{spent_most, soon_most}

-- sums of plain numbers
begun_sum : (x y s t : ℕ) → x ≤ y → t ≡ s → 0 + x + s ≤ t + y
begun_sum x y s t l e = omega (arith, l, e)

next_sum : (n x y s b c : ℕ) → n + x + s ≤ b → suc y + b ≤ x + c → suc n + y + s ≤ c
next_sum n x y s b c l m = omega (arith, l, m)

ends_sum : (n x s t y : ℕ) → n + x + s ≤ t + y → y ≡ 0 → n + s ≤ t
ends_sum n x s t y l e = omega (arith, l, e)

moment_sum : (n x s t y : ℕ) → n + x + s ≤ t + y → 1 ≤ x → n + s < t + y
moment_sum n x s t y l m = omega (arith, l, m)

bound_sum : (n s t b : ℕ) → n + s < t → t ≤ b + b + (b + b) → n < 4 * b
bound_sum n s t b l m = omega (arith, l, m)

no_traps : (a b c d : ℕ) → a + 0 + (b + 0) + (c + 0 + (d + 0)) ≡ a + b + (c + d)
no_traps a b c d = omega arith

module _ {W : Type 0} (images : Images) (budget : ℕ) (next : W → ℕ) (follows : W → W → Type 0)
    (bound : (w : W) → next w ≤ 3) (goods : (q : ℕ) → q < 4 → AllGood (images q)) (states : ℕ → State)
    (predictors : ℕ → Holding) (weather : W)
    (opens : (q : ℕ) → q < 4 → WindowOk (images q) budget (opened (states q))) where
  abbrev After : ℕ → Four W → Type 0
  After n h = AfterFours next follows images budget n (begun states predictors weather) h

  -- what the traces of the start cost
  abbrev start : ℕ
  start = of_all (λ q. cost_of (images q) (states q).trace)

  -- the machine after n cycles
  record Standing (n : ℕ) (h : Four W) : Type 0 where
    rules : FourRule images budget h
    cycles : h.cycles ≡ n
    -- for how long the fetch unit works for whichever program
    holds : ℕ
    few : holds < fetch_latency
    held : HeldFor holds h
    within : n + left_of_first images holds (going budget h) h + start ≤ spent_soon images budget h

  at_start : (begun states predictors weather).cycles < 2 ^ 64 - 1 → Standing 0 (begun states predictors weather)
  at_start least =
      let r : FourRule images budget (begun states predictors weather) =
      begun_rules images budget states predictors weather opens in
      let a = first_most images budget next follows bound goods (begun states predictors weather) r least 0
      (omega arith) in
      record {
        rules = r;
        cycles = refl;
        holds = 0;
        few = omega arith;
        held = λ q l. omega arith;
        within = begun_sum (left_of_first images 0 (going budget (begun states predictors weather))
            (begun states predictors weather))
            (cost_of_first images (going budget (begun states predictors weather)) (begun states predictors weather))
            start
            (spent_by_all images (begun states predictors weather)) a
            (no_traps (cost_of (images 0) (states 0).trace) (cost_of (images 1) (states 1).trace)
            (cost_of (images 2) (states 2).trace) (cost_of (images 3) (states 3).trace));
      }

  step : (n : ℕ) (g h : Four W) → (going budget g ≡ [] → ⊥) → Eager4 next follows images budget g h
      → h.cycles < 2 ^ 64 - 1 → Standing n g → Standing (suc n) h
  step n g h some cycle few s =
      let one : OneCycle images budget s.holds g h =
      one_cycle images budget next follows bound goods g h s.rules few cycle some s.holds s.few s.held in
      let a : n + left_of_first images s.holds (going budget g) g + start ≤ spent_soon images budget g = s.within in
      let b = one.falls in
      let c : h.cycles ≡ g.cycles + 1 = (cycle_far images budget 16 (omega arith) next follows g h cycle).1 in
      let d : g.cycles ≡ n = s.cycles in
      record {
        rules = rules_kept images budget next follows bound g h cycle goods s.rules;
        cycles = omega (arith, c, d);
        holds = one.later;
        few = one.few;
        held = one.held;
        within = next_sum n (left_of_first images s.holds (going budget g) g)
            (left_of_first images one.later (going budget h) h) start (spent_soon images budget g)
            (spent_soon images budget h) a b;
      }

  stand : (n : ℕ) (h : Four W) → After n h → h.cycles < 2 ^ 64 - 1 → Standing n h
  stand zero h e few = subst (Standing 0) (sym e) (at_start (subst (λ (k : Four W). k.cycles < 2 ^ 64 - 1) e few))
  stand (suc n) h a few =
      let c : h.cycles ≡ (a.between).cycles + 1 =
      (cycle_far images budget 16 (omega arith) next follows a.between h a.after).1 in
      step n a.between h a.on a.after few (stand n a.between a.before (omega (arith, c, few)))

  module _ (n : ℕ) (h : Four W) (a : After n h) (few : h.cycles < 2 ^ 64 - 1) where
    stands : Standing n h
    stands = stand n h a few

    -- where all are over, the cycles are within what all have spent
    pub ends : going budget h ≡ [] → n + start ≤ spent_by_all images h
    ends e = ends_sum n (left_of_first images stands.holds (going budget h) h) start (spent_by_all images h)
        (cost_of_first images (going budget h) h) stands.within (ap (λ l. cost_of_first images l h) e)

    -- before that, with the cost of the prime program's next block
    pub moment : (p : ℕ) (ps : List ℕ) → going budget h ≡ p ∷ ps
        → n + start < spent_by_all images h + cost_in (slice_get (images p) (h.own p).window.state.next)
    moment p ps e =
        let some : 1 ≤ left_of_first images stands.holds (p ∷ ps) h =
        held_some (λ n. next_size images p h) (lane_in (alone p h)) stands.holds in
        subst (λ l. n + start < spent_by_all images h + cost_of_first images l h) e
        (moment_sum n (left_of_first images stands.holds (going budget h) h) start (spent_by_all images h)
        (cost_of_first images (going budget h) h) stands.within
        (subst (λ l. 1 ≤ left_of_first images stands.holds l h) (sym e) some))

    -- so a run ends within the greatest cost for each block of its budgets
    pub bounded : (going budget h ≡ [] → ⊥) → n < 4 * (greatest_cost * budget)
    bounded some = by (going budget h) refl
      where
        by : (l : List ℕ) → going budget h ≡ l → n < 4 * (greatest_cost * budget)
        by [] e = absurd (some e)
        by (p ∷ ps) e =
            let head = those_head (goes_on budget) h p ps all_four e in
            let low : p < 4 = below_four p head.1 in
            let on = on_parts budget (h.own p).window head.0 in
            let m = moment p ps e in
            let r : FourRule images budget h = stands.rules in
            let t = sum_more (λ q. spent (images q) (h.own q).window) (λ q. greatest_cost * budget)
            (λ q l. spent_most (images q) (goods q l) budget (h.own q).window (r.budgets q l)) p
            (cost_in (slice_get (images p) (h.own p).window.state.next)) low
            (soon_most (images p) (goods p low) budget (h.own p).window (r.budgets p low) on.0 on.1) in
            bound_sum n start
            (spent_by_all images h + cost_in (slice_get (images p) (h.own p).window.state.next)) (greatest_cost *
            budget)
            m t
