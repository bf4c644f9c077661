-- The notes of parts (3) and (4) of a cycle: banks and data tiles answer.
use Rattle.std.specs.Prelude.{ℕ, suc, ◌+◌, ◌*◌, Bool, false, cond, is_some, is_none, List, [], ◌∷◌, ◌++◌, Option}
use Rattle.std.specs.Prelude.{Some, None}
use Rattle.trips_isa.specs.declared.block.Inst.{Inst}
use Rattle.trips_isa.specs.declared.block.Block.{Block}
use Rattle.trips_isa.specs.declared.block.Stored.{Stored}
use Rattle.trips_isa.specs.Forms.{form_of, is_store}
use Rattle.commit_flush_spec.specs.Frames.{Frame, at, target, first_read_place, numbers}
use Rattle.commit_flush_spec.specs.Memory.{request}
use Rattle.commit_flush_spec.specs.Window.{Window, happens}
use Rattle.commit_flush_spec.specs.Window as window
use Rattle.grid_cycle_spec.specs.Stations.{bank_node, data_node, home, banks, data_tiles}
use Rattle.grid_cycle_spec.specs.Grid.{Grid}
use Rattle.grid_cycle_spec.specs.Choosing.{eldest, reads}
use Rattle.grid_cycle_spec.specs.Banks.{answers_read, bank_turn}
use Rattle.grid_cycle_spec.specs.DataTiles.{stored_by, unasked, answers_request, data_turn}
use Rattle.grid_events.specs.Notes.{Violation, Note, Reads, Loads, Stores, OnMesh, Enters}
use Rattle.grid_events.specs.Turns.{of_each, of_frame, acted}

-- beside `enters`: a parcel enters the mesh
abbrev pub enters_notes : ℕ → ℕ → ℕ → ℕ → List Note
enters_notes n place from to = OnMesh (Enters n place from to) ∷ []

-- beside `enters_if`: where the place of a frame has a token
abbrev pub enters_if_notes : ℕ → Frame → ℕ → List Note
enters_if_notes from f place =
    cond (is_some (at f.places place)) (enters_notes f.number place from (home f.code (target f.code place))) []

-- beside `enter_both`
abbrev pub both_notes : ℕ → Frame → ℕ → List Note
both_notes from f place = enters_if_notes from f place ++ enters_if_notes from f (suc place)

-- beside `read_chosen`: a bank answers a read, and its tokens enter the mesh
abbrev pub read_notes : {W : Type 0} → List Block → ℕ → ℕ → Option (ℕ × ℕ) → Grid W → List Note
read_notes blocks budget bank None g = []
read_notes blocks budget bank (Some q) g =
    let after : Window = happens blocks budget (window.Read q.0 q.1) g.window in
    Reads bank q.0 q.1 ∷ of_frame q.0 (λ f. both_notes (bank_node bank) f (first_read_place + 2 * q.1)) after.frames

-- beside `bank_turn`
abbrev pub bank_notes : {W : Type 0} → List Block → ℕ → ℕ → Grid W → List Note
bank_notes blocks budget bank g =
    read_notes blocks budget bank (eldest (answers_read blocks budget g bank) reads g.window.frames) g

-- part (3): beside `reads_answered`
abbrev pub reads_notes : {W : Type 0} → List Block → ℕ → Grid W → List Note
reads_notes blocks budget g = of_each (bank_turn blocks budget) (bank_notes blocks budget) banks g

-- beside `load_answered`: a data tile answers a load, and its token enters the mesh
abbrev pub load_notes : {W : Type 0} → List Block → ℕ → ℕ → ℕ → ℕ → ℕ → Grid W → List Note
load_notes blocks budget tile m n slot g =
    let after : Window = happens blocks budget (window.Load m n) g.window in
    Loads tile m n ∷ of_frame m (λ f. both_notes (data_node tile) f (2 * slot)) after.frames

-- whether a store is a null one
abbrev pub is_null : Option Stored → Bool
is_null None = false
is_null (Some s) = is_none s.value

-- beside `store_resolved`: a data tile resolves a store, which flushes what took other bytes too early
abbrev pub store_notes : {W : Type 0} → List Block → ℕ → ℕ → ℕ → ℕ → Frame → Grid W → List Note
store_notes blocks budget tile m n f g =
    acted (Stores tile m n (is_null (stored_by f (request f n)))) Violation blocks budget (window.Store m n)
    (unasked m n g)

-- beside `answered_by`
abbrev pub answered_notes : {W : Type 0} → List Block → ℕ → ℕ → ℕ → ℕ → Frame → Option (ℕ × Inst) → Grid W
    → List Note
answered_notes blocks budget tile m n f None g = []
answered_notes blocks budget tile m n f (Some q) g = cond (is_store (form_of (q.1).op))
    (store_notes blocks budget tile m n f g) (load_notes blocks budget tile m n q.0 g)

-- beside `answer_chosen`
abbrev pub answer_notes : {W : Type 0} → List Block → ℕ → ℕ → Option (ℕ × ℕ) → Grid W → List Note
answer_notes blocks budget tile None g = []
answer_notes blocks budget tile (Some c) g =
    of_frame c.0 (λ f. answered_notes blocks budget tile c.0 c.1 f (request f c.1) g) g.window.frames

-- beside `data_turn`
abbrev pub data_notes : {W : Type 0} → List Block → ℕ → ℕ → Grid W → List Note
data_notes blocks budget tile g =
    answer_notes blocks budget tile (eldest (answers_request g tile) numbers g.window.frames) g

-- part (4): beside `answers`
abbrev pub answers_notes : {W : Type 0} → List Block → ℕ → Grid W → List Note
answers_notes blocks budget g = of_each (data_turn blocks budget) (data_notes blocks budget) data_tiles g
