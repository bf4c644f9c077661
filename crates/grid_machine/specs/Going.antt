-- Whether a run goes on.
use Rattle.std.specs.Prelude.{Bool, true, false}
use Rattle.trips_isa.specs.declared.run.Stepped.{Stepped}
use Rattle.trips_isa.specs.declared.run.Stepped.TheVariants.{Went}

-- whether a run has not ended
abbrev pub goes : Stepped → Bool
goes Went = true
goes _ = false
