-- Marks of slots that may fire, for each of four programs.
use Rattle.std.specs.Prelude.{◌≡◌, ℕ, List, Some, slice_get, slice_index_or}
use Rattle.grid_parts.specs.inside.Marked.{SlotsMarked}
use Rattle.smt_mode.specs.declared.machine.Machine.{Machine}
use Rattle.smt_mode.specs.Machines.{Program, blocks_of}

-- the word of each program marks each slot that may fire
abbrev pub WordsMark : List Program → List ℕ → Type 0
WordsMark programs marks = (p : ℕ) (x : Program) → slice_get programs p ≡ Some x
    → SlotsMarked (blocks_of x) x.window.budget x.window.window (slice_index_or marks p 0)

-- the same of a machine
abbrev pub AreMarked : {W : Type 0} → Machine W → List ℕ → Type 0
AreMarked m marks = WordsMark m.programs.items marks
