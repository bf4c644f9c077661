-- The bound of a run by the cost of its trace.
use Rattle.std.proofs.Common.{◌≡◌, ℕ, suc, ◌+◌, ◌*◌, ◌-◌, ◌^◌, ◌<◌, ◌≤◌, ◌⊎◌, inl, inr, List}
use Rattle.std.proofs.Common.{[], length, Option, Some, None}
use Rattle.std.proofs.Common.{zero, slice_get, refl, sym, ap, ◌∙◌, arith}
use Rattle.std.proofs.lemmas.Bool.{cases_lt}
use Rattle.trips_isa.specs.declared.block.Block.{Block}
use Rattle.trips_isa.specs.Machine.{State, runs}
use Rattle.trips_isa.specs.Limits.{most_nodes}
use Rattle.block_predict.specs.Predicts.{Holding}
use Rattle.commit_flush_spec.specs.InFlight.{opened}
use Rattle.commit_flush_spec.specs.inside.Invariant.{AllGood}
use Rattle.commit_flush_spec.specs.Laws.{TakesSteps}
use Rattle.commit_flush_spec.specs.inside.Laws.{WindowOk}
use Rattle.grid_cycle_spec.specs.Costs.{size, cost, cost_in, cost_of, greatest, greatest_cost}
use Rattle.grid_cycle_spec.specs.Grid.{Grid}
use Rattle.grid_cycle_spec.specs.Cycles.{Eager, begun_at}
use Rattle.grid_cycle_spec.specs.inside.Cycles.{AfterCycles}
use Rattle.grid_cycle_spec.proofs.Routes.{cost_most}
use Rattle.grid_cycle_spec.proofs.Agreeing.{takes_steps}
use Rattle.grid_cycle_spec.proofs.Events.{cycles_steps}
use Rattle.grid_bound.specs.inside.Left.{left, price, total}
use Rattle.grid_bound.specs.inside.Programs.{size_in, sizes_from}
use Rattle.grid_bound.proofs.Programs.{trace_costs}
use Rattle.grid_bound.proofs.Served.{left_some}
use Rattle.grid_bound.specs.inside.Lanes.{lane_in}
use Rattle.grid_bound.specs.inside.Runs.{Stands, AfterStanding}
use Rattle.grid_bound.proofs.Bounded as bounded
use Rattle.grid_bound.specs.inside.GoesOn.{GoesOn}
use Rattle.grid_bound.proofs.CycleGrows.{steps}
use Rattle.grid_bound.proofs.GridsOfRuns.{reached_state, all_stand, stands}

size_most : (b : Block) → cost b ≤ greatest → size b ≤ most_nodes
unfolding cost greatest
size_most b l = omega (arith, l)

-- what a block may cost is the price of its size
pub cost_is : (b : Block) → cost b ≡ price (size b)
unfolding cost
cost_is b = refl

size_in_most : (blocks : List Block) → AllGood blocks → (k : ℕ) → size_in (slice_get blocks k) ≤ most_nodes
size_in_most blocks good k = by (slice_get blocks k) refl
  where
    by : (o : Option Block) → slice_get blocks k ≡ o → size_in o ≤ most_nodes
    by None e = omega arith
    by (Some b) e = size_most b (cost_most b (good k b e).fits)

-- prices only add up
total_later : (sizes : ℕ → ℕ) (m n : ℕ) → m ≤ n → total sizes m ≤ total sizes n
total_later sizes m zero l = let e : m ≡ 0 = omega (arith, l) in let t = ap (total sizes) e in omega (arith, t)
total_later sizes m (suc n) l = by (cases_lt m (suc n)) (total_later sizes m n)
  where
    by : (m < suc n) ⊎ (suc n ≤ m) → (m ≤ n → total sizes m ≤ total sizes n) → total sizes m ≤ total sizes (suc n)
    by (inl k) below = let h : total sizes m ≤ total sizes n = below (omega (arith, k)) in omega (arith, h)
    by (inr k) below = let e : m ≡ suc n = omega (arith, k, l) in let t = ap (total sizes) e in omega (arith, t)

module _ {W : Type 0} (blocks : List Block) (good : AllGood blocks) (budget : ℕ) (next : W → ℕ)
    (follows : W → W → Type 0) (bound : (w : W) → next w ≤ 3) (s : State) (predictor : Holding) (weather : W)
    (opens : WindowOk blocks budget (opened s)) where
  abbrev g : Grid W
  g = record (begun_at s [] weather) { predictor = predictor }

  abbrev sizes : ℕ → ℕ
  sizes = sizes_from blocks s

  small : (k : ℕ) → sizes k ≤ most_nodes
  small k = size_in_most blocks good (runs blocks s (k - length s.trace)).0.next

  -- the prices of the blocks committed are the cost of the trace
  priced : (n : ℕ) (h : Grid W) → AfterCycles next follows blocks budget n g h
      → cost_of blocks h.window.state.trace + total sizes (length s.trace)
      ≡ total sizes (length h.window.state.trace) + cost_of blocks s.trace
  priced n h a =
      let ran : TakesSteps blocks s h.window =
      takes_steps blocks good budget g.window h.window opens refl (cycles_steps blocks budget next follows n g h a) in
      let at : h.window.state ≡ (runs blocks s ran.steps).0 =
      reached_state blocks s h.window.state ran.steps h.window.over ran.reached in
      let long : length (runs blocks s ran.steps).0.trace ≡ length s.trace + ran.steps =
      ap (λ (t : State). length t.trace) (sym at) ∙ ran.grown in
      let sum : cost_of blocks (runs blocks s ran.steps).0.trace + total sizes (length s.trace)
      ≡ total sizes (length s.trace + ran.steps) + cost_of blocks s.trace = trace_costs blocks s ran.steps long in
      ap (λ (t : State). cost_of blocks t.trace + total sizes (length s.trace)) at ∙ sum
      ∙ ap (λ k. total sizes k + cost_of blocks s.trace) (sym ran.grown)

  module _ (n : ℕ) (m : Grid W) (a : AfterCycles next follows blocks budget n g m) (on : GoesOn budget m)
      (few : m.counts.cycles < 2 ^ 64 - 1) where
    run : AfterStanding next follows blocks budget sizes n g m
    run = all_stand blocks good budget next follows bound s predictor weather opens n m a on few

    last : Stands blocks budget sizes m
    last = stands blocks good budget next follows bound s predictor weather opens n m a on few

    -- the cycles so far, with the cost of the first trace, are below the cost of the trace now and the greatest
    -- cost of a block
    pub moment : n + cost_of blocks s.trace < cost_of blocks m.window.state.trace + greatest_cost
    moment =
        let b : n + left sizes (lane_in m) + total sizes (length s.trace)
        ≤ total sizes (length m.window.state.trace) + price (sizes (length m.window.state.trace)) =
        bounded.moment blocks good budget next follows bound sizes g n m run last in
        let c : 1 ≤ left sizes (lane_in m) = left_some sizes (lane_in m) in
        let d : sizes (length m.window.state.trace) ≤ most_nodes = small (length m.window.state.trace) in
        let e : cost_of blocks m.window.state.trace + total sizes (length s.trace)
        ≡ total sizes (length m.window.state.trace) + cost_of blocks s.trace = priced n m a in
        omega (arith, b, c, d, e)

    -- the same by the cost of the block that commits next
    pub soon : n + cost_of blocks s.trace
        < cost_of blocks m.window.state.trace + cost_in (slice_get blocks m.window.state.next)
    soon =
        let b : n + left sizes (lane_in m) + total sizes (length s.trace)
        ≤ total sizes (length m.window.state.trace) + price (sizes (length m.window.state.trace)) =
        bounded.moment blocks good budget next follows bound sizes g n m run last in
        let c : 1 ≤ left sizes (lane_in m) = left_some sizes (lane_in m) in
        let d : cost_in (slice_get blocks m.window.state.next) ≡ price (sizes (length m.window.state.trace)) =
        ap cost_in last.is_next ∙ cost_is last.block ∙ ap price last.is_size in
        let e : cost_of blocks m.window.state.trace + total sizes (length s.trace)
        ≡ total sizes (length m.window.state.trace) + cost_of blocks s.trace = priced n m a in
        omega (arith, b, c, d, e)

    -- where a cycle commits, all cycles with that one are within the cost of the trace
    pub commit : (h : Grid W) → Eager next follows blocks budget m h
        → length h.window.state.trace ≡ suc (length m.window.state.trace)
        → suc n + cost_of blocks s.trace ≤ cost_of blocks h.window.state.trace
    commit h cycle e =
        let b : suc n + total sizes (length s.trace) ≤ total sizes (length h.window.state.trace) =
        bounded.commit blocks good budget next follows bound sizes g n m run last h e in
        let p : cost_of blocks h.window.state.trace + total sizes (length s.trace)
        ≡ total sizes (length h.window.state.trace) + cost_of blocks s.trace =
        priced (suc n) h (record { between = m; before = a; after = cycle }) in
        omega (arith, b, p)

    -- whatever the next cycle does
    pub any_cycle : (h : Grid W) → Eager next follows blocks budget m h
        → suc n + cost_of blocks s.trace ≤ cost_of blocks h.window.state.trace + greatest_cost
    any_cycle h cycle =
        let one : TakesSteps blocks m.window.state h.window = takes_steps blocks good budget m.window h.window last.ok
        on.went (steps blocks budget next follows m h cycle) in
        let grown : length h.window.state.trace ≡ length m.window.state.trace + one.steps = one.grown in
        let more : total sizes (length m.window.state.trace) ≤ total sizes (length h.window.state.trace) =
        total_later sizes (length m.window.state.trace) (length h.window.state.trace) (omega (arith, grown)) in
        let b : n + cost_of blocks s.trace < cost_of blocks m.window.state.trace + greatest_cost = moment in
        let p : cost_of blocks m.window.state.trace + total sizes (length s.trace)
        ≡ total sizes (length m.window.state.trace) + cost_of blocks s.trace = priced n m a in
        let q : cost_of blocks h.window.state.trace + total sizes (length s.trace)
        ≡ total sizes (length h.window.state.trace) + cost_of blocks s.trace =
        priced (suc n) h (record { between = m; before = a; after = cycle }) in
        omega (arith, b, more, p, q)

    -- a run that goes on has made fewer cycles than the greatest cost for each block of its budget
    pub spends : n < greatest_cost * budget
    spends = bounded.spends blocks good budget next follows bound sizes g n m run last small
