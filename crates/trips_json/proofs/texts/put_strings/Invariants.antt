use Rattle.std.proofs.Common.{◌≡◌, ◌++◌, false, length}
use Rattle.trips_json.specs.Lines.{lines_of}
use Rattle.trips_json.specs.Strings.{string_of}
use Rattle.trips_json.specs.inside.Items.{is_other, items}
use Rattle.trips_json.proofs.texts.put_strings.Given as goal

-- what is written so far, and what is to be written of the rest
abbrev pub invariant-loop-rest : goal.invariant-loop-rest
invariant-loop-rest l = l.out.items ++ items (is_other l.all) string_of l.later (lines_of l.rest)
    ≡ l.initial.out.items ++ items (is_other l.all) string_of false (lines_of l.text)

abbrev pub decreases-loop-rest : goal.decreases-loop-rest
decreases-loop-rest l = length l.rest
