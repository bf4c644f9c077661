use Rattle.std.proofs.Common.{◌≡◌, ◌++◌, length}
use Rattle.std.specs.Prelude.{string_bytes}
use Rattle.trips_eval_answers.specs.Stops.{calls_text}
use Rattle.trips_eval_answers.proofs.stops.calls_text.Given as goal

-- what is told, and what is left to be told, is what was to be told
abbrev pub invariant-loop-at : goal.invariant-loop-at
invariant-loop-at l = string_bytes l.told ++ calls_text l.text l.rest ≡ calls_text l.text l.fn.calls

abbrev pub decreases-loop-at : goal.decreases-loop-at
decreases-loop-at l = length l.rest
