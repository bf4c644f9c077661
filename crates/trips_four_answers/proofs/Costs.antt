-- What a program may have cost is far below what a word of the machine holds.
use Rattle.std.proofs.Common.{◌≡◌, ℕ, ◌+◌, ◌*◌, ◌^◌, ◌<◌, ◌≤◌, List, [], ◌∷◌, Option, None, Some, length}
use Rattle.std.proofs.Common.{slice_get, refl, subst, arith}
use Rattle.trips_isa.specs.declared.block.Block.{Block}
use Rattle.trips_isa.specs.declared.run.Ending.{Ending}
use Rattle.trips_isa.specs.declared.run.Ending.TheVariants as ending
use Rattle.trips_isa.specs.declared.run.Traced.{Traced}
use Rattle.commit_flush_spec.specs.inside.Invariant.{AllGood}
use Rattle.grid_cycle_spec.specs.Costs.{cost, cost_in, cost_of, greatest, greatest_cost}
use Rattle.grid_cycle_spec.proofs.Routes.{cost_most}
use Rattle.trips_grid_answers.specs.Report.{trap_cost}

greatest_is : greatest ≡ greatest_cost
unfolding greatest
greatest_is = refl

cost_in_most : (blocks : List Block) → AllGood blocks → (k : ℕ) → cost_in (slice_get blocks k) ≤ greatest_cost
cost_in_most blocks good k = by (slice_get blocks k) refl
  where
    by : (o : Option Block) → slice_get blocks k ≡ o → cost_in o ≤ greatest_cost
    by None e = omega arith
    by (Some b) e = subst (λ n. cost b ≤ n) greatest_is (cost_most b (good k b e).fits)

traces_most : (blocks : List Block) → AllGood blocks → (ts : List Traced)
    → cost_of blocks ts ≤ greatest_cost * length ts
traces_most blocks good [] = omega arith
traces_most blocks good (t ∷ ts) =
    let a : cost_of blocks ts ≤ greatest_cost * length ts = traces_most blocks good ts in
    let b : cost_in (slice_get blocks t.block) ≤ greatest_cost = cost_in_most blocks good t.block in
    omega (arith, a, b)

trap_most : (blocks : List Block) → AllGood blocks → (e : Ending) → trap_cost blocks e ≤ greatest_cost
trap_most blocks good ending.Ended = omega arith
trap_most blocks good ending.StackFull = omega arith
trap_most blocks good ending.Budget = omega arith
trap_most blocks good (ending.Trap block cause) = cost_in_most blocks good block

-- of a trace that is no longer than a run's
pub spent_small : (blocks : List Block) → AllGood blocks → (ts : List Traced) (e : Ending) → length ts < 2 ^ 32
    → cost_of blocks ts + trap_cost blocks e < 2 ^ 60
spent_small blocks good ts e few =
    let a = traces_most blocks good ts in
    let b = trap_most blocks good e in omega (arith, a, b, few)

-- the same of two numbers that are these costs, where the budget is a word
pub sum_small : (blocks : List Block) → AllGood blocks → (ts : List Traced) (e : Ending) (budget committed trapped : ℕ)
    → length ts ≤ budget → budget < 2 ^ 32 → committed ≡ cost_of blocks ts → trapped ≡ trap_cost blocks e
    → committed + trapped < 2 ^ 60
sum_small blocks good ts e budget committed trapped spent word a b =
    let few = spent_small blocks good ts e (omega (arith, spent, word)) in omega (arith, few, a, b)
