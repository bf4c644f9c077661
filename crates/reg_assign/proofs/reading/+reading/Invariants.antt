use Rattle.std.proofs.Common.{◌≡◌, drop}
use Rattle.ir_forms.specs.inside.FlatViews.{code_of}
use Rattle.reg_assign.specs.inside.Pass as pass
use Rattle.reg_assign.proofs.reading.+reading.Given as goal

abbrev pub invariant-read_stmts-loop-s : goal.invariant-read_stmts-loop-s
invariant-read_stmts-loop-s l =
    pass.reading (code_of (drop l.s-index l.stmts)) l.reading
    ≡ pass.reading (code_of l.stmts) l.fn.reading
