use Rattle.std.proofs.Common.{refl}
use Rattle.smt_mode.specs.Machines.{blocks_of, seen_of}
use Rattle.smt_mode.proofs.IssuesOfOne.{none_marked}
use Rattle.smt_mode.proofs.TurnCounts.{stays, still}
use Rattle.smt_mode.proofs.turns.issue.Goals as goal

pub returns-else-is_marked-clause-value : goal.returns-else-is_marked-clause-value
returns-else-is_marked-clause-value c =
    let x = c.args.program.now in
    none_marked (blocks_of x) x.window.budget c.args.tile (seen_of x) c.args.marks c.requires.marked
    c.if-is_marked.ensures

pub returns-else-is_marked-clause-stays : goal.returns-else-is_marked-clause-stays
returns-else-is_marked-clause-stays c =
    let x = c.args.program.now in stays x x refl refl (seen_of x) refl (still (seen_of x))
