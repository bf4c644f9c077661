-- Four programs at the start of their runs.
use Rattle.std.specs.Prelude.{ℕ, List, [], Option, Some, None, slice_get}
use Rattle.trips_isa.specs.declared.block.Block.{Block}
use Rattle.trips_isa.specs.Machine.{State, start}
use Rattle.block_predict.specs.Predicts.{Holding, holding}
use Rattle.smt_spec.specs.Programs.{Four}
use Rattle.smt_spec.specs.Parts.{Images}
use Rattle.smt_spec.specs.Cycles.{begun}
use Rattle.smt_mode.specs.declared.four.Started.{Started}

-- the machine's state at the start of a program; that of no image where there is none
abbrev pub state_in : Option Started → State
state_in None = start [] []
state_in (Some s) = start s.image.bytes s.input.items

-- its predictor
abbrev pub predictor_in : Option Started → Holding
predictor_in None = holding [] 0 []
predictor_in (Some s) = s.predictor

-- the blocks of its image
abbrev pub blocks_in : Option Started → List Block
blocks_in None = []
blocks_in (Some s) = s.image.blocks

-- the blocks of the image of each
abbrev pub images_at : List Started → Images
images_at programs p = blocks_in (slice_get programs p)

-- each program's state at its start
abbrev pub states_at : List Started → ℕ → State
states_at programs p = state_in (slice_get programs p)

-- the machine at the stated start of all
abbrev pub begun_at : {W : Type 0} → List Started → W → Four W
begun_at programs weather = begun (states_at programs) (λ p. predictor_in (slice_get programs p)) weather
