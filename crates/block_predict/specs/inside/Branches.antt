-- Beside what is believed of Branches.antt: which branch of a block a prediction takes.
use Rattle.std.specs.Prelude.{Option, Some, None}
use Rattle.trips_isa.specs.declared.block.Inst.{Inst}

-- the lowest of branches found before, and of one more
abbrev pub lower : Option Inst → Inst → Option Inst
lower None i = Some i
lower (Some found) i = Some found
