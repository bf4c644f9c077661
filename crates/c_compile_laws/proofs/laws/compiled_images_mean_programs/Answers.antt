use Rattle.std.proofs.Common.{◌*◌, suc}
use Rattle.c_compile_laws.proofs.Bounds.{has_bounds}
use Rattle.c_compile_laws.proofs.Compiled.{does_deep, does_finished, does_unfinished}
use Rattle.c_compile_laws.proofs.EndedRuns.{ends_as, never_ends}
use Rattle.c_compile_laws.proofs.laws.compiled_images_mean_programs.Goals as goal

pub returns-clause-finished : goal.returns-clause-finished
returns-clause-finished v = λ P F t p w i m c. does_finished P F t p w i m c

pub returns-clause-deep : goal.returns-clause-deep
returns-clause-deep v = λ P F t p w i m c. does_deep P F t p w i m c

pub returns-clause-unfinished : goal.returns-clause-unfinished
returns-clause-unfinished v = λ P F t p w i m c. does_unfinished P F t p w i m c

pub returns-clause-ends : goal.returns-clause-ends
returns-clause-ends v = λ P F t p w i m c.
    ends_as P (suc w * t) i (does_finished P F t p w i m c) (does_deep P F t p w i m c)
    (does_unfinished P F t p w i m c)

pub returns-clause-endless : goal.returns-clause-endless
returns-clause-endless v = λ P F t p w i m c.
    never_ends P (suc w * t) i (does_finished P F t p w i m c) (does_deep P F t p w i m c)
    (does_unfinished P F t p w i m c)

pub returns-clause-bounds : goal.returns-clause-bounds
returns-clause-bounds v = λ P F t p w i m c. has_bounds P F t p w i m c
