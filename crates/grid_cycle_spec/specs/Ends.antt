-- Part (1) of a cycle: what is complete is sealed, and the oldest frame commits (docs/GRID.md, "A cycle").
use Rattle.std.specs.Prelude.{ℕ, ◌+◌, ◌==◌, cond, List, [], ◌∷◌, Option, Some, None}
use Rattle.trips_isa.specs.declared.block.Block.{Block}
use Rattle.trips_isa.specs.declared.run.Counts.{Counts}
use Rattle.trips_isa.specs.declared.run.Stepped.{Stepped}
use Rattle.trips_isa.specs.declared.run.Stepped.TheVariants.{Trap}
use Rattle.block_predict.specs.Predicts.{learned}
use Rattle.commit_flush_spec.specs.Frames.{Frame, Exit}
use Rattle.commit_flush_spec.specs.Window.{Window, Seal, Commit, happens}
use Rattle.grid_cycle_spec.specs.Grid.{Grid, numbers_of, forget}
use Rattle.grid_cycle_spec.specs.Acting.{may, settled, flushed}

-- a frame with all outputs is sealed, and loses what is still under way
abbrev pub seal_one : {W : Type 0} → List Block → ℕ → ℕ → Grid W → Grid W
seal_one blocks budget n g = cond (may blocks budget (Seal n) g)
    (forget (λ m. m == n) (record g { window = happens blocks budget (Seal n) g.window })) g

-- so in each of some frames
abbrev pub seal_each : {W : Type 0} → List Block → ℕ → List ℕ → Grid W → Grid W
seal_each blocks budget [] g = g
seal_each blocks budget (n ∷ ns) g = seal_each blocks budget ns (seal_one blocks budget n g)

-- one block more has been committed
abbrev pub one_committed : Counts → Counts
one_committed c = record c { committed = c.committed + 1 }

-- the predictor learns the exit that a frame took, with the frame's block and history
abbrev pub learning : {W : Type 0} → Frame → Option Exit → Grid W → Grid W
learning f None g = g
learning f (Some e) g = record g { predictor = learned g.predictor f.block (g.histories f.number) e.exit }

-- the frame has been committed, or it has trapped, which flushes all frames
abbrev pub committed_as : {W : Type 0} → Stepped → Frame → List Frame → Grid W → Grid W
committed_as (Trap cause) f fs g = flushed (f ∷ fs) g
committed_as _ f fs g = settled (forget (λ m. m == f.number)
    (learning f f.exit (record g { counts = one_committed g.counts })))

-- the oldest frame of some, where there is one, commits
abbrev pub commit_in : {W : Type 0} → List Block → ℕ → List Frame → Grid W → Grid W
commit_in blocks budget [] g = g
commit_in blocks budget (f ∷ fs) g =
    let after : Window = happens blocks budget Commit g.window in
    committed_as after.over f fs (record g { window = after })

-- a sealed oldest frame is committed
abbrev pub commit_oldest : {W : Type 0} → List Block → ℕ → Grid W → Grid W
commit_oldest blocks budget g = cond (may blocks budget Commit g) (commit_in blocks budget g.window.frames g) g

-- part (1)
abbrev pub ends : {W : Type 0} → List Block → ℕ → Grid W → Grid W
ends blocks budget g = commit_oldest blocks budget (seal_each blocks budget (numbers_of g.window.frames) g)
