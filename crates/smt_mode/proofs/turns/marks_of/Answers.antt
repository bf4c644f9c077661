use Rattle.smt_mode.proofs.ReadMarksOf.{reads_marked}
use Rattle.smt_mode.proofs.turns.marks_of.Goals as goal

pub returns : goal.returns
returns c =
    let w = c.args.window.now in
    reads_marked w.image.blocks w.budget w.window c.unread-first.result c.unread-second.result c.unread-first.ensures
    c.unread-second.ensures
