use Rattle.std.proofs.Common.{length}
use Rattle.predication.proofs.outputs.+note_writes.Given as goal

abbrev pub decreases-note_writes : goal.decreases-note_writes
decreases-note_writes l = length l.writes.now
