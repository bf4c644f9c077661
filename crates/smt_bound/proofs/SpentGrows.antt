-- What programs have spent only grows: by the cost of its next block where one commits it or traps at it.
use Rattle.std.proofs.Common.{◌≡◌, ℕ, zero, suc, ◌+◌, ◌*◌, ◌-◌, ◌<◌, ◌≤◌, ◌⊎◌, inl, inr, List, [], ◌∷◌, length}
use Rattle.std.proofs.Common.{Option, Some}
use Rattle.std.proofs.Common.{None, slice_get, refl, sym, ap, ◌∙◌, subst, arith}
use Rattle.trips_isa.specs.declared.block.Block.{Block}
use Rattle.trips_isa.specs.declared.causes.TrapCause.{TrapCause}
use Rattle.trips_isa.specs.declared.run.Stepped.{Stepped}
use Rattle.trips_isa.specs.declared.run.Stepped.TheVariants as stepped
use Rattle.trips_isa.specs.declared.run.Traced.{Traced}
use Rattle.trips_isa.specs.Machine.{State, runs}
use Rattle.commit_flush_spec.specs.Window.{Window}
use Rattle.commit_flush_spec.specs.inside.Invariant.{AllGood}
use Rattle.commit_flush_spec.specs.Laws.{Reached, TakesSteps}
use Rattle.grid_cycle_spec.specs.Costs.{size, cost, cost_in, cost_of, greatest, greatest_cost}
use Rattle.grid_cycle_spec.proofs.Routes.{cost_most}
use Rattle.grid_bound.specs.inside.Left.{price, total}
use Rattle.grid_bound.specs.inside.Programs.{size_in, sizes_from}
use Rattle.grid_bound.proofs.Programs.{trace_costs}
use Rattle.grid_bound.proofs.GridsOfRuns.{reached_state}
use Rattle.smt_bound.specs.Costs.{trap_cost, spent}
use Rattle.smt_bound.specs.inside.FourRule.{WithinBudget}

-- a block's cost is the price of its size
pub cost_is : (b : Block) → cost b ≡ price (size b)
unfolding cost
cost_is b = refl

-- what is no block costs nothing
cost_price : (o : Option Block) → cost_in o ≤ price (size_in o)
cost_price None = omega arith
cost_price (Some b) = let e : cost b ≡ price (size b) = cost_is b in omega (arith, e)

-- no step leaves the state
first_state : (blocks : List Block) (s : State) → (runs blocks s 0).0 ≡ s
unfolding runs
first_state blocks s = refl

none_step : (blocks : List Block) (s : State) → (runs blocks s 0).1 ≡ stepped.Went
unfolding runs
none_step blocks s = refl

-- prices only add up
total_later : (sizes : ℕ → ℕ) (m n : ℕ) → total sizes m ≤ total sizes (m + n)
total_later sizes m zero = let e : m + 0 ≡ m = omega arith in let t = ap (total sizes) e in omega (arith, t)
total_later sizes m (suc n) =
    let h : total sizes m ≤ total sizes (m + n) = total_later sizes m n in
    let e : m + suc n ≡ suc (m + n) = omega arith in
    let t : total sizes (m + suc n) ≡ price (sizes (m + n)) + total sizes (m + n) = ap (total sizes) e in
    omega (arith, h, t)

module _ (blocks : List Block) (s : State) (w : Window) (t : TakesSteps blocks s w) where
  at : w.state ≡ (runs blocks s t.steps).0
  at = reached_state blocks s w.state t.steps w.over t.reached

  long : length (runs blocks s t.steps).0.trace ≡ length s.trace + t.steps
  long = ap (λ (x : State). length x.trace) (sym at) ∙ t.grown

  abbrev sizes : ℕ → ℕ
  sizes = sizes_from blocks s

  -- what is added to the trace costs the prices of the blocks of the steps
  adds : cost_of blocks w.state.trace + total sizes (length s.trace)
      ≡ total sizes (length s.trace + t.steps) + cost_of blocks s.trace
  adds = ap (λ (x : State). cost_of blocks x.trace + total sizes (length s.trace)) at
      ∙ trace_costs blocks s t.steps long

  trace_grows : cost_of blocks s.trace ≤ cost_of blocks w.state.trace
  trace_grows =
      let a = adds in
      let b : total sizes (length s.trace) ≤ total sizes (length s.trace + t.steps) =
      total_later sizes (length s.trace) t.steps in
      omega (arith, a, b)

  -- the first of them is the block that came next
  next_price : cost_in (slice_get blocks s.next) ≤ price (sizes (length s.trace))
  next_price =
      let n : length s.trace - length s.trace ≡ 0 = omega arith in
      let e : sizes (length s.trace) ≡ size_in (slice_get blocks s.next) =
      ap (λ k. size_in (slice_get blocks (runs blocks s k).0.next)) n
      ∙ ap (λ (x : State). size_in (slice_get blocks x.next)) (first_state blocks s) in
      subst (λ k. cost_in (slice_get blocks s.next) ≤ price k) (sym e) (cost_price (slice_get blocks s.next))

  trace_adds : (n : ℕ) → t.steps ≡ suc n
      → cost_of blocks s.trace + cost_in (slice_get blocks s.next) ≤ cost_of blocks w.state.trace
  trace_adds n e =
      let a = adds in
      let b = total_later sizes (suc (length s.trace)) n in
      let c : length s.trace + t.steps ≡ suc (length s.trace) + n = omega (arith, e) in
      let d : total sizes (length s.trace + t.steps) ≡ total sizes (suc (length s.trace) + n) = ap (total sizes) c in
      let f = next_price in
      let z : total sizes (suc (length s.trace)) ≡ price (sizes (length s.trace)) + total sizes (length s.trace) =
      refl in
      omega (arith, a, b, d, f, z)

  -- where no block was committed the state is as it was
  pub same_state : t.steps ≡ 0 → w.state ≡ s
  same_state e = at ∙ ap (λ n. (runs blocks s n).0) e ∙ first_state blocks s

  -- and the run has not ended but by a trap
  pub same_over : t.steps ≡ 0 → (w.over ≡ stepped.Went) ⊎ ((c : TrapCause) × (w.over ≡ stepped.Trap c))
  same_over e = by w.over refl t.reached
    where
      no_end : (o : Stepped) → (w.state, o) ≡ runs blocks s t.steps → o ≡ stepped.Went
      no_end o r = ap (λ (x : State × Stepped). x.1) r ∙ ap (λ n. (runs blocks s n).1) e ∙ none_step blocks s

      by : (o : Stepped) → w.over ≡ o → Reached blocks s t.steps w.state o
          → (w.over ≡ stepped.Went) ⊎ ((c : TrapCause) × (w.over ≡ stepped.Trap c))
      by stepped.Went i r = inl i
      by stepped.Ended i r = inl (i ∙ no_end stepped.Ended r)
      by stepped.StackFull i r = inl (i ∙ no_end stepped.StackFull r)
      by (stepped.Trap c) i r = inr (c, i)

  abbrev now : ℕ
  now = trap_cost blocks w.state.next w.over

  -- what a program has spent when it went on, it has spent later
  pub spent_grows : (v : Window) → v.state ≡ s → v.over ≡ stepped.Went → spent blocks v ≤ spent blocks w
  spent_grows v e o =
      let a : spent blocks v ≡ cost_of blocks s.trace + 0 =
      ap (λ (x : State). cost_of blocks x.trace + trap_cost blocks x.next v.over) e
      ∙ ap (λ y. cost_of blocks s.trace + trap_cost blocks s.next y) o in
      let b = trace_grows in
      let c : spent blocks w ≡ cost_of blocks w.state.trace + now = refl in
      omega (arith, a, b, c)

  -- and more by its next block, where that was committed or has trapped
  pub spent_adds : (v : Window) → v.state ≡ s → v.over ≡ stepped.Went
      → (1 ≤ t.steps) ⊎ ((c : TrapCause) × (w.over ≡ stepped.Trap c))
      → spent blocks v + cost_in (slice_get blocks s.next) ≤ spent blocks w
  spent_adds v e o more = by t.steps refl more
    where
      a : spent blocks v ≡ cost_of blocks s.trace + 0
      a = ap (λ (x : State). cost_of blocks x.trace + trap_cost blocks x.next v.over) e
          ∙ ap (λ y. cost_of blocks s.trace + trap_cost blocks s.next y) o

      by : (n : ℕ) → t.steps ≡ n → (1 ≤ t.steps) ⊎ ((c : TrapCause) × (w.over ≡ stepped.Trap c))
          → spent blocks v + cost_in (slice_get blocks s.next) ≤ spent blocks w
      by (suc n) i m =
          let b = trace_adds n i in
          let z = a in
          let c : spent blocks w ≡ cost_of blocks w.state.trace + now = refl in
          omega (arith, z, b, c)
      by zero i (inl m) = absurd (omega (arith, i, m))
      by zero i (inr z) =
          let x : spent blocks w ≡ cost_of blocks s.trace + cost_in (slice_get blocks s.next) =
          ap (λ (y : State). cost_of blocks y.trace + trap_cost blocks y.next w.over) (same_state i)
          ∙ ap (λ y. cost_of blocks s.trace + trap_cost blocks s.next y) z.1 in
          let k = a in omega (arith, x, k)

-- the most ----------------------------------------------------------------------------------------

greatest_is : greatest ≡ greatest_cost
unfolding greatest
greatest_is = refl

cost_in_most : (blocks : List Block) → AllGood blocks → (k : ℕ) → cost_in (slice_get blocks k) ≤ greatest_cost
cost_in_most blocks good k = by (slice_get blocks k) refl
  where
    by : (o : Option Block) → slice_get blocks k ≡ o → cost_in o ≤ greatest_cost
    by None e = omega arith
    by (Some b) e = subst (λ n. cost b ≤ n) greatest_is (cost_most b (good k b e).fits)

traces_most : (blocks : List Block) → AllGood blocks → (ts : List Traced)
    → cost_of blocks ts ≤ greatest_cost * length ts
traces_most blocks good [] = omega arith
traces_most blocks good (t ∷ ts) =
    let a : cost_of blocks ts ≤ greatest_cost * length ts = traces_most blocks good ts in
    let b : cost_in (slice_get blocks t.block) ≤ greatest_cost = cost_in_most blocks good t.block in
    omega (arith, a, b)

module _ (blocks : List Block) (good : AllGood blocks) (budget : ℕ) (w : Window) (within : WithinBudget budget w)
  where
    abbrev costs : ℕ
    costs = cost_of blocks w.state.trace

    costs_most : costs ≤ greatest_cost * length w.state.trace
    costs_most = traces_most blocks good w.state.trace

    -- no program spends more than the greatest cost for each block of its budget
    pub spent_most : spent blocks w ≤ greatest_cost * budget
    spent_most = by w.over refl
      where
        by : (o : Stepped) → w.over ≡ o → costs + trap_cost blocks w.state.next o ≤ greatest_cost * budget
        by stepped.Went e = let a = costs_most in let b = within.spent in omega (arith, a, b)
        by stepped.Ended e = let a = costs_most in let b = within.spent in omega (arith, a, b)
        by stepped.StackFull e = let a = costs_most in let b = within.spent in omega (arith, a, b)
        by (stepped.Trap c) e =
            let a = costs_most in let b = within.trapped c e in
            let d = cost_in_most blocks good w.state.next in omega (arith, a, b, d)

    -- nor does one that goes on, with its next block
    pub soon_most : w.over ≡ stepped.Went → length w.state.trace < budget
        → spent blocks w + cost_in (slice_get blocks w.state.next) ≤ greatest_cost * budget
    soon_most o l =
        let a = costs_most in
        let d = cost_in_most blocks good w.state.next in
        let e : trap_cost blocks w.state.next w.over ≡ 0 = ap (trap_cost blocks w.state.next) o in
        omega (arith, a, d, e, l)
