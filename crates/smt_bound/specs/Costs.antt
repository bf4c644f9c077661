-- What four programs may cost in cycles (docs/FOUR.md, "Cost").
use Rattle.std.specs.Prelude.{ℕ, ◌+◌, List, slice_get}
use Rattle.trips_isa.specs.declared.block.Block.{Block}
use Rattle.trips_isa.specs.declared.run.Stepped.{Stepped}
use Rattle.trips_isa.specs.declared.run.Stepped.TheVariants.{Trap}
use Rattle.commit_flush_spec.specs.Window.{Window}
use Rattle.grid_cycle_spec.specs.Costs.{cost_in, cost_of}
use Rattle.smt_spec.specs.Programs.{Four}
use Rattle.smt_spec.specs.Parts.{Images}

-- what the block may have cost at which a run has trapped, which is in no trace
abbrev pub trap_cost : List Block → ℕ → Stepped → ℕ
trap_cost blocks next (Trap c) = cost_in (slice_get blocks next)
trap_cost blocks next _ = 0

-- what a program may have cost so far: the blocks of its trace, and the one at which it has trapped
abbrev pub spent : List Block → Window → ℕ
spent blocks w = cost_of blocks w.state.trace + trap_cost blocks w.state.next w.over

-- the sum over the four programs
abbrev pub of_all : (ℕ → ℕ) → ℕ
of_all f = f 0 + f 1 + (f 2 + f 3)

-- what all four may have cost so far
abbrev pub spent_by_all : {W : Type 0} → Images → Four W → ℕ
spent_by_all images g = of_all (λ q. spent (images q) (g.own q).window)
