use Rattle.std.proofs.Common.{◌≡◌, ◌++◌, false, length}
use Rattle.trips_json.specs.Lines.{is_value, lines_of}
use Rattle.trips_json.specs.Objects.{member}
use Rattle.trips_json.specs.inside.Items.{items}
use Rattle.trips_json.proofs.texts.put_values.Given as goal

-- what is written so far, and what is to be written of the rest
abbrev pub invariant-loop-rest : goal.invariant-loop-rest
invariant-loop-rest l = l.out.items ++ items is_value member l.later (lines_of l.rest)
    ≡ l.initial.out.items ++ items is_value member false (lines_of l.text)

abbrev pub decreases-loop-rest : goal.decreases-loop-rest
decreases-loop-rest l = length l.rest
