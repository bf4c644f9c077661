use Rattle.grid_parts.proofs.read_marks.readable_of.Goals as goal

pub readable_in-requires-clause-marks : goal.readable_in-requires-clause-marks
readable_in-requires-clause-marks g c = λ r l e. c.requires.marked.none c.args.frame r c.requires.frame l e
