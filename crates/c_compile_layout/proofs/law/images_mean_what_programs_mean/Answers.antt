use Rattle.c_compile_layout.proofs.UncheckedRuns.{means_plainly, means_the_same}
use Rattle.c_compile_layout.proofs.law.images_mean_what_programs_mean.Goals as goal

pub returns-clause-clean : goal.returns-clause-clean
returns-clause-clean v = λ B ts made. means_the_same B ts made

pub returns-clause-plain : goal.returns-clause-plain
returns-clause-plain v = λ B ts made. means_plainly B ts made
