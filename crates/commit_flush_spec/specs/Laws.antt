-- The invariant of the window, and the laws of its events.
use Rattle.std.specs.Prelude.{◌≡◌, ℕ, suc, ◌+◌, List, length}
use Rattle.trips_isa.specs.declared.block.Block.{Block}
use Rattle.trips_isa.specs.declared.run.Stepped.{Stepped}
use Rattle.trips_isa.specs.declared.run.Stepped.TheVariants.{Went, Trap}
use Rattle.trips_isa.specs.Machine.{State, runs}
use Rattle.commit_flush_spec.specs.Window.{Window}

-- state t and the answer o are those of the machine after n steps from state s; where the next block
-- traps, its trap has come too, and the state is as it was
abbrev pub Reached : List Block → State → ℕ → State → Stepped → Type 0
Reached blocks s n t (Trap c) = ((t, Went) ≡ runs blocks s n) × ((t, Trap c) ≡ runs blocks s (suc n))
Reached blocks s n t o = (t, o) ≡ runs blocks s n

-- law commits are steps: from state s the window took as many steps of the machine as its trace grew by
pub record TakesSteps (blocks : List Block) (s : State) (w : Window) : Type 0 where
  -- how many blocks were committed since state s
  pub steps : ℕ
  pub grown : length w.state.trace ≡ length s.trace + steps
  pub reached : Reached blocks s steps w.state w.over
