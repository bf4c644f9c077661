use Rattle.std.proofs.Common.{◌≡◌, ◌++◌, take}
use Rattle.std.specs.List.{flat_map}
use Rattle.trips_json.specs.Strings.{escape}
use Rattle.trips_json.proofs.strings.put_bytes.Given as goal

-- those so far are written
abbrev pub invariant-loop-byte : goal.invariant-loop-byte
invariant-loop-byte l =
    l.out.items ≡ l.initial.out.items ++ flat_map escape (take l.byte-index l.bytes)
