-- The notes of the parts of a cycle: one function beside each function of grid_cycle_spec, with its arguments and its
-- cases.
use Rattle.std.specs.Prelude.{ℕ, ◌+◌, List, ◌++◌}
use Rattle.trips_isa.specs.declared.block.Block.{Block}
use Rattle.grid_cycle_spec.specs.Grid.{Grid}
use Rattle.grid_cycle_spec.specs.Banks.{reads_answered}
use Rattle.grid_cycle_spec.specs.DataTiles.{answers}
use Rattle.grid_cycle_spec.specs.Fetches.{fetches}
use Rattle.grid_events.specs.Notes.{Note}
pub use Rattle.grid_events.specs.Turns.{of_each, of_frame, flushes, gives_up, acted}
pub use Rattle.grid_events.specs.EndNotes.{seal_notes, seals_notes, ended_as, trap_flushes, committed_notes}
pub use Rattle.grid_events.specs.EndNotes.{commit_in_notes, commit_notes, ends_notes}
pub use Rattle.grid_events.specs.FetchNotes.{fill_notes, on_notes, fetch_notes, predicted_notes, guess_notes}
pub use Rattle.grid_events.specs.FetchNotes.{behind_notes, after_notes, begin_notes, fetches_notes}
pub use Rattle.grid_events.specs.StationNotes.{enters_notes, enters_if_notes, both_notes, read_notes, bank_notes}
pub use Rattle.grid_events.specs.StationNotes.{reads_notes, load_notes, is_null, store_notes, answered_notes}
pub use Rattle.grid_events.specs.StationNotes.{answer_notes, data_notes, answers_notes}
pub use Rattle.grid_events.specs.UnitNotes.{result_notes, slot_notes, finished_notes, unit_notes, operation}
pub use Rattle.grid_events.specs.UnitNotes.{issue_notes, issues_notes, turn_notes, works_notes}
pub use Rattle.grid_events.specs.ArrivalNotes.{asks_notes, load_arrives_notes, names, slot_arrives_notes}
pub use Rattle.grid_events.specs.ArrivalNotes.{inst_arrives_notes, place_notes, come_notes, arrival_notes}
pub use Rattle.grid_events.specs.ArrivalNotes.{arrivals_notes}

-- parts (2) to (5)
abbrev pub acts_notes : {W : Type 0} → List Block → ℕ → Grid W → List Note
acts_notes {W = W} blocks budget g =
    let a : Grid W = fetches blocks budget g in
    let b : Grid W = reads_answered blocks budget a in
    let c : Grid W = answers blocks budget b in
    fetches_notes blocks budget g ++ (reads_notes blocks budget a
    ++ (answers_notes blocks budget b ++ works_notes blocks budget c))
