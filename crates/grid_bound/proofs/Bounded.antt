-- The bound over runs of cycles that find what they ask.
use Rattle.std.proofs.Common.{◌≡◌, ℕ, zero, suc, ◌+◌, ◌*◌, ◌<◌, ◌≤◌, ◌⊎◌, inl, inr, List, length, ap, sym, ◌∙◌, subst}
use Rattle.std.proofs.Common.{arith}
use Rattle.trips_isa.specs.declared.block.Block.{Block}
use Rattle.trips_isa.specs.declared.run.Stepped.TheVariants as stepped
use Rattle.trips_isa.specs.Limits.{most_nodes}
use Rattle.commit_flush_spec.specs.inside.Invariant.{AllGood}
use Rattle.grid_cycle_spec.specs.Grid.{Grid}
use Rattle.grid_cycle_spec.specs.Cycles.{Eager}
use Rattle.grid_cycle_spec.specs.Costs.{greatest_cost}
use Rattle.grid_bound.specs.inside.Left.{left, price, total}
use Rattle.grid_bound.specs.inside.Laws.{LaneRule, AfterServed}
use Rattle.grid_bound.specs.inside.Serving.{Served}
use Rattle.grid_bound.proofs.Served.{left_some}
use Rattle.grid_bound.proofs.Bounds.{after_served, at_a_commit}
use Rattle.grid_bound.specs.inside.Lanes.{lane_in}
use Rattle.grid_bound.specs.inside.Runs.{Stands, AfterStanding}
use Rattle.grid_bound.specs.inside.Shows.{Traps}
use Rattle.grid_bound.proofs.EagerFirst as eager

-- blocks of at most `most_nodes` tasks
total_most : (sizes : ℕ → ℕ) → ((k : ℕ) → sizes k ≤ most_nodes) → (n : ℕ) → total sizes n ≤ greatest_cost * n
total_most sizes small zero = omega arith
total_most sizes small (suc n) =
    let h : total sizes n ≤ greatest_cost * n = total_most sizes small n in
    let l : sizes n ≤ most_nodes = small n in omega (arith, h, l)

module _ {W : Type 0} (blocks : List Block) (good : AllGood blocks) (budget : ℕ) (next : W → ℕ)
    (follows : W → W → Type 0) (bound : (w : W) → next w ≤ 3) (sizes : ℕ → ℕ) (g : Grid W) where
  served : (m h : Grid W) → Stands blocks budget sizes m → Eager next follows blocks budget m h
      → Stands blocks budget sizes h → Served sizes (lane_in m) (lane_in h)
  served m h s c e = by (eager.serve blocks good budget next follows bound m h s.ok s.went s.room s.parts s.none
      (e.lane).units s.block s.is_next sizes s.is_size s.due c)
    where
      by : Traps h ⊎ Served sizes (lane_in m) (lane_in h)
          → Served sizes (lane_in m) (lane_in h)
      by (inl z) = absurd (let bad : stepped.Trap z.0 ≡ stepped.Went = sym z.1 ∙ e.went in cc)
      by (inr s) = s

  lane_first : (n : ℕ) (h : Grid W) → AfterStanding next follows blocks budget sizes n g h
      → Stands blocks budget sizes h → LaneRule sizes (lane_in g)
  lane_first zero h e s = subst (λ k. LaneRule sizes (lane_in k)) e s.lane
  lane_first (suc n) h a s = lane_first n a.between a.before a.stands

  lanes : (n : ℕ) (h : Grid W) → AfterStanding next follows blocks budget sizes n g h → Stands blocks budget sizes h
      → AfterServed sizes n (lane_in g) (lane_in h)
  lanes zero h e s = ap lane_in e
  lanes (suc n) h a s = record {
    between = lane_in a.between;
    before = lanes n a.between a.before a.stands;
    served = served a.between h a.stands a.cycle s;
    rule = s.lane;
  }

  module _ (n : ℕ) (m : Grid W) (a : AfterStanding next follows blocks budget sizes n g m)
      (s : Stands blocks budget sizes m) where
    -- the cycles so far, with what is left, are at most the prices of the blocks committed meanwhile and of the
    -- next one
    pub moment : n + left sizes (lane_in m) + total sizes (length g.window.state.trace)
        ≤ total sizes (length m.window.state.trace) + price (sizes (length m.window.state.trace))
    moment = (after_served sizes (lane_in g) (lane_first n m a s) n (lane_in m) (lanes n m a s)).1

    -- at a commit the cycles so far are at most the prices of the blocks committed meanwhile
    pub commit : (h : Grid W) → length h.window.state.trace ≡ suc (length m.window.state.trace)
        → suc n + total sizes (length g.window.state.trace) ≤ total sizes (length h.window.state.trace)
    commit h e = at_a_commit sizes (lane_in g) (lane_first n m a s) n (lane_in m) (lane_in h) (lanes n m a s) e

    -- a run from the start has not made that many cycles
    pub spends : ((k : ℕ) → sizes k ≤ most_nodes) → n < greatest_cost * budget
    spends small =
        let b : n + left sizes (lane_in m) + total sizes (length g.window.state.trace)
        ≤ total sizes (length m.window.state.trace) + price (sizes (length m.window.state.trace)) = moment in
        let c : 1 ≤ left sizes (lane_in m) = left_some sizes (lane_in m) in
        let d : total sizes (length m.window.state.trace) ≤ greatest_cost * length m.window.state.trace =
        total_most sizes small (length m.window.state.trace) in
        let e : sizes (length m.window.state.trace) ≤ most_nodes = small (length m.window.state.trace) in
        let r : length m.window.state.trace < budget = s.room in
        omega (arith, b, c, d, e, r)
