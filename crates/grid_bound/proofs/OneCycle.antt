-- One eager cycle of a grid that has its rule commits, traps, or lowers what is left.
use Rattle.std.proofs.Common.{◌≡◌, ℕ, ◌+◌, ◌-◌, ◌^◌, ◌<◌, ◌≤◌, ◌⊎◌, inl, inr, List}
use Rattle.std.proofs.Common.{[], length, slice_get, refl, sym}
use Rattle.std.proofs.Common.{ap, ◌∙◌, subst, arith}
use Rattle.trips_isa.specs.declared.block.Block.{Block}
use Rattle.trips_isa.specs.Machine.{State, runs}
use Rattle.block_predict.specs.Predicts.{holding}
use Rattle.commit_flush_spec.specs.InFlight.{opened}
use Rattle.commit_flush_spec.specs.inside.Invariant.{AllGood}
use Rattle.commit_flush_spec.specs.Laws.{TakesSteps}
use Rattle.commit_flush_spec.specs.inside.Laws.{WindowOk}
use Rattle.grid_cycle_spec.specs.Costs.{cost_in}
use Rattle.grid_cycle_spec.specs.Grid.{Grid}
use Rattle.grid_cycle_spec.specs.Cycles.{Eager, begun_at}
use Rattle.grid_cycle_spec.specs.inside.Cycles.{AfterCycles}
use Rattle.grid_cycle_spec.proofs.Agreeing.{takes_steps}
use Rattle.grid_bound.specs.inside.Left.{left, price}
use Rattle.grid_bound.specs.inside.Programs.{size_in}
use Rattle.grid_bound.specs.inside.Serving.{Served}
use Rattle.grid_bound.proofs.Served.{left_some, left_most, served_falls}
use Rattle.grid_bound.specs.inside.Lanes.{lane_in}
use Rattle.grid_bound.specs.inside.Runs.{Stands}
use Rattle.grid_bound.specs.inside.Shows.{Commits}
use Rattle.grid_bound.proofs.EagerFirst as eager
use Rattle.grid_bound.proofs.FarUnits.{far_cycle}
use Rattle.grid_bound.specs.inside.Rule.{GridRule}
use Rattle.grid_bound.proofs.CycleParts.{cycle_rule, cycles_window}
use Rattle.grid_bound.proofs.Generations.{cycles_count}
use Rattle.grid_bound.specs.inside.GoesOn.{GoesOn}
use Rattle.grid_bound.specs.inside.OneCycle.{HasRule, left_in, OneCycle}
use Rattle.grid_bound.proofs.CycleGrows.{steps}
use Rattle.grid_bound.proofs.StartPredictors.{begun_counted, begun_rule}
use Rattle.grid_bound.proofs.Costs.{cost_is}
use Rattle.grid_bound.proofs.GridsOfRuns.{reached_state, stands_here}

-- no step leaves the state
first_state : (blocks : List Block) (s : State) → (runs blocks s 0).0 ≡ s
unfolding runs
first_state blocks s = refl

-- from one of two cases
from_either : {A B C : Type 0} → A ⊎ B → (A → C) → (B → C) → C
from_either (inl a) f g = f a
from_either (inr b) f g = g b

-- the stated start has the rule
pub begun_has_rule : {W : Type 0} (blocks : List Block) (budget : ℕ) (s : State) (entries : List ℕ) (weather : W)
    → WindowOk blocks budget (opened s) → HasRule blocks budget (begun_at s entries weather)
begun_has_rule blocks budget s entries weather opens = record {
  window = opens;
  rule = begun_rule s (holding entries 0 []) weather;
  generations = begun_counted s (holding entries 0 []) weather;
  units = λ t l. refl;
}

module _ {W : Type 0} (blocks : List Block) (good : AllGood blocks) (budget : ℕ) (next : W → ℕ)
    (follows : W → W → Type 0) (bound : (w : W) → next w ≤ 3) (g h : Grid W) (has : HasRule blocks budget g)
    (on : GoesOn budget g) (few : g.counts.cycles < 2 ^ 64 - 1) (cycle : Eager next follows blocks budget g h) where
  -- how many tasks the block has that commits next
  abbrev sizes : ℕ → ℕ
  sizes n = size_in (slice_get blocks g.window.state.next)

  here : Stands blocks budget sizes g
  here = stands_here blocks good budget g has.window has.rule has.generations has.units on few sizes refl

  rule_h : GridRule h
  rule_h = cycle_rule blocks good budget next follows bound g h has.window has.rule cycle

  one : AfterCycles next follows blocks budget 1 g h
  one = record { between = g; before = refl; after = cycle }

  kept : HasRule blocks budget h
  kept = record {
    window = cycles_window blocks good budget next follows bound 1 g h has.window has.rule one;
    rule = rule_h;
    generations = cycles_count blocks budget next follows 1 g h has.generations one;
    units = λ t l. far_cycle blocks budget t l next follows g h cycle ∙ has.units t l;
  }

  most : left_in blocks g ≤ cost_in (slice_get blocks g.window.state.next)
  most =
      let a : left sizes (lane_in g) ≤ price (size_in (slice_get blocks g.window.state.next)) =
      left_most sizes (lane_in g) here.lane in
      let b : cost_in (slice_get blocks g.window.state.next)
      ≡ price (size_in (slice_get blocks g.window.state.next)) =
      ap cost_in here.is_next ∙ cost_is here.block ∙ ap price here.is_size in
      subst (λ n. left sizes (lane_in g) ≤ n) (sym b) a

  -- where no block is committed the state stays
  same_state : length h.window.state.trace ≡ length g.window.state.trace → h.window.state ≡ g.window.state
  same_state e =
      let t : TakesSteps blocks g.window.state h.window =
      takes_steps blocks good budget g.window h.window has.window on.went
      (steps blocks budget next follows g h cycle) in
      let grown : length h.window.state.trace ≡ length g.window.state.trace + t.steps = t.grown in
      let none : t.steps ≡ 0 = omega (arith, grown, e) in
      reached_state blocks g.window.state h.window.state t.steps h.window.over t.reached
      ∙ ap (λ n. (runs blocks g.window.state n).0) none ∙ first_state blocks g.window.state

  abbrev Comes : Type 0
  Comes = Commits g h ⊎ ((h.window.state ≡ g.window.state) × (left_in blocks h < left_in blocks g))

  lower : length h.window.state.trace ≡ length g.window.state.trace
      → left sizes (lane_in h) < left sizes (lane_in g) → Comes
  lower e less =
      let same : h.window.state ≡ g.window.state = same_state e in
      let l : left_in blocks h ≡ left sizes (lane_in h) =
      ap (λ (s : State). left (λ n. size_in (slice_get blocks s.next)) (lane_in h)) same in
      inr (same, subst (λ n. n < left sizes (lane_in g)) (sym l) less)

  served : Served sizes (lane_in g) (lane_in h) → Comes
  served s = from_either (served_falls sizes (lane_in g) (lane_in h) here.lane s) (λ e. inl (inr e))
      (λ f. lower f.0 f.2)

  -- an eager cycle of a grid that has its rule commits the next block, traps, or lowers what is left
  pub one_cycle : OneCycle blocks budget g h
  one_cycle = record {
    least = left_some sizes (lane_in g);
    most = most;
    falls = from_either (eager.serve blocks good budget next follows bound g h here.ok here.went here.room
        here.parts here.none (rule_h.units).most here.block here.is_next sizes here.is_size here.due cycle)
        (λ z. inl (inl z)) served;
    kept = kept;
  }
