-- What a frame hands to its commit where no exit has come.
use Rattle.std.specs.Prelude.{false, Option, Some, None}
use Rattle.commit_flush_spec.specs.Frames.{Exit}

-- an exit, or block 0 at exit 0 where none has come
abbrev pub exit_or_first : Option Exit → Exit
exit_or_first None = record { exit = 0; system = false; successor = 0 }
exit_or_first (Some e) = e
