use Rattle.std.proofs.Common.{length}
use Rattle.predication.proofs.outputs.+note_nodes.Given as goal

abbrev pub decreases-note_nodes : goal.decreases-note_nodes
decreases-note_nodes l = length l.nodes.now
