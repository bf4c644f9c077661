use Rattle.std.proofs.Common.{length}
use Rattle.predication.proofs.outputs.+note_sources.Given as goal

abbrev pub decreases-note_sources : goal.decreases-note_sources
decreases-note_sources l = length l.sources.now
