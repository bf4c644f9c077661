use Rattle.std.proofs.Common.{◌≡◌, ◌++◌, take}
use Rattle.std.specs.List.{flat_map}
use Rattle.trips_explain_endings.specs.Endings.{call_told}
use Rattle.trips_explain_endings.proofs.calls.put_each.Given as goal

-- the calls so far are written
abbrev pub invariant-loop-call : goal.invariant-loop-call
invariant-loop-call l = l.out.items
    ≡ l.initial.out.items ++ flat_map (call_told l.file l.text l.definitions) (take l.call-index l.calls)
