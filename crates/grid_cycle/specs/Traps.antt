-- The endings that are traps.
use Rattle.std.specs.Prelude.{Bool, true, false}
use Rattle.trips_isa.specs.declared.run.Ending.{Ending}
use Rattle.trips_isa.specs.declared.run.Ending.TheVariants.{Trap}

-- whether a run ended in a trap
abbrev pub is_trap : Ending → Bool
is_trap (Trap block cause) = true
is_trap _ = false
