use Rattle.smt_mode.proofs.MarksOfFour.{marks_four}
use Rattle.smt_mode.proofs.machine.Machine.marks.Goals as goal

pub returns : goal.returns
returns g c = marks_four c.args.self.now.programs.items c.requires.four _ _ _ _ c.marks_one.ensures
    c.marks_one-2.ensures c.marks_one-3.ensures c.marks_one-4.ensures
