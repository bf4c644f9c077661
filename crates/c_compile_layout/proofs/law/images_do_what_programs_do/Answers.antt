use Rattle.c_compile_layout.proofs.ImageRuns.{does_plainly, does_the_same}
use Rattle.c_compile_layout.proofs.law.images_do_what_programs_do.Goals as goal

pub returns-clause-clean : goal.returns-clause-clean
returns-clause-clean v = λ B ts made. does_the_same B ts made

pub returns-clause-plain : goal.returns-clause-plain
returns-clause-plain v = λ B ts made. does_plainly B ts made
