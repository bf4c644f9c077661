-- Beside what is believed of TraceAnswers.antt: why there is no image to work with.
use Rattle.std.specs.Prelude.{◌⊎◌, ℕ, List}
use Rattle.trips_tools.specs.inside.Tools as tools
use Rattle.trips_trace_answers.specs.declared.opening.Closed.{Closed}
use Rattle.trips_trace_answers.specs.declared.opening.Closed.TheVariants.{Refused, Memory}

-- the bytes are no image of good blocks, or memory was refused
abbrev pub IsClosed : List ℕ → Closed → Type 0
IsClosed bytes (Refused said) = tools.IsNoImage bytes said ⊎ tools.IsBadImage bytes said
IsClosed bytes Memory = Unit {0}
