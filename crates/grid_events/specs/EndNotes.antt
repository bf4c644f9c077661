-- The notes of part (1) of a cycle (docs/GRID.md, "A cycle").
use Rattle.std.specs.Prelude.{ℕ, ◌+◌, cond, List, [], ◌∷◌, ◌++◌}
use Rattle.trips_isa.specs.declared.block.Block.{Block}
use Rattle.trips_isa.specs.declared.run.Stepped.{Stepped}
use Rattle.trips_isa.specs.declared.run.Stepped.TheVariants.{Trap}
use Rattle.commit_flush_spec.specs.Frames.{Frame}
use Rattle.commit_flush_spec.specs.Window.{Window, happens}
use Rattle.commit_flush_spec.specs.Window as window
use Rattle.grid_cycle_spec.specs.Grid.{Grid, numbers_of}
use Rattle.grid_cycle_spec.specs.Acting.{may}
use Rattle.grid_cycle_spec.specs.Ends.{seal_one, seal_each, committed_as}
use Rattle.grid_events.specs.Notes.{End, Note, Seals, Commits, Traps}
use Rattle.grid_events.specs.Turns.{flushes, gives_up}

-- beside `seal_one`: a frame is sealed
abbrev pub seal_notes : {W : Type 0} → List Block → ℕ → ℕ → Grid W → List Note
seal_notes blocks budget n g = cond (may blocks budget (window.Seal n) g) (Seals n ∷ []) []

-- beside `seal_each`
abbrev pub seals_notes : {W : Type 0} → List Block → ℕ → List ℕ → Grid W → List Note
seals_notes blocks budget [] g = []
seals_notes blocks budget (n ∷ ns) g =
    seal_notes blocks budget n g ++ seals_notes blocks budget ns (seal_one blocks budget n g)

-- how a frame ends that commits: it may trap
abbrev pub ended_as : Stepped → Frame → Note
ended_as (Trap cause) f = Traps f.number f.block
ended_as _ f = Commits f.number f.block

-- a trap flushes all frames
abbrev pub trap_flushes : Stepped → List Frame → List Note
trap_flushes (Trap cause) fs = flushes End fs
trap_flushes _ fs = []

-- beside `committed_as`: a frame ends, a trap flushes all, and a fetch of another block is given up
abbrev pub committed_notes : {W : Type 0} → Stepped → Frame → List Frame → Grid W → List Note
committed_notes s f fs g =
    ended_as s f ∷ (trap_flushes s (f ∷ fs) ++ gives_up g.fetching (committed_as s f fs g).fetching)

-- beside `commit_in`: the oldest frame of some, where there is one, ends
abbrev pub commit_in_notes : {W : Type 0} → List Block → ℕ → List Frame → Grid W → List Note
commit_in_notes blocks budget [] g = []
commit_in_notes blocks budget (f ∷ fs) g =
    let after : Window = happens blocks budget window.Commit g.window in
    committed_notes after.over f fs (record g { window = after })

-- beside `commit_oldest`: where the oldest frame may commit
abbrev pub commit_notes : {W : Type 0} → List Block → ℕ → Grid W → List Note
commit_notes blocks budget g =
    cond (may blocks budget window.Commit g) (commit_in_notes blocks budget g.window.frames g) []

-- part (1): beside `ends`
abbrev pub ends_notes : {W : Type 0} → List Block → ℕ → Grid W → List Note
ends_notes blocks budget g = seals_notes blocks budget (numbers_of g.window.frames) g
    ++ commit_notes blocks budget (seal_each blocks budget (numbers_of g.window.frames) g)
