-- Beside what is believed of Marks.antt: marks, pulled beside any fixed table of tokens, and the cause of a
-- block (docs/MACHINE.md, "Exceptions").
use Rattle.std.specs.Prelude.{◌≡◌, ℕ}
use Rattle.trips_isa.specs.declared.block.Block.{Block}
use Rattle.trips_isa.specs.Rule.{Answer}
use Rattle.trips_isa.specs.Marks.{mark_given}

-- m gives each node's mark
abbrev pub IsMarking : Block → (ℕ → Answer) → (ℕ → ℕ) → Type 0
IsMarking b g m = (x : ℕ) → m x ≡ mark_given b g m x
