use Rattle.std.proofs.Common.{◌≡◌, length}
use Rattle.commit_flush.specs.inside.Seen.{AreFresh}
use Rattle.commit_flush.proofs.window.empty_frames.Given as goal

abbrev pub invariant-loop-number : goal.invariant-loop-number
invariant-loop-number l = record { size : length l.frames.items ≡ l.number; fresh : AreFresh 0 l.frames.items }
