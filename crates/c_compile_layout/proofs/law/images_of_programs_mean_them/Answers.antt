use Rattle.c_compile_layout.proofs.Faithful.{faithful, has_places}
use Rattle.c_compile_layout.proofs.Linked.{image_means, image_means_plainly, never_traps, are_few}
use Rattle.c_compile_layout.proofs.law.images_of_programs_mean_them.Goals as goal

pub returns-clause-means : goal.returns-clause-means
returns-clause-means v = λ B us all. image_means B us all

pub returns-clause-traps : goal.returns-clause-traps
returns-clause-traps v = λ B us all. never_traps B us all

pub returns-clause-plain : goal.returns-clause-plain
returns-clause-plain v = λ B us all. image_means_plainly B us all

pub returns-clause-faithful : goal.returns-clause-faithful
returns-clause-faithful v = λ B us all. faithful us (are_few B us all)

pub returns-clause-places : goal.returns-clause-places
returns-clause-places v = λ B us all. has_places us (are_few B us all)
