use Rattle.c_compile_layout.proofs.Linked.{layout_same, made, good_image}
use Rattle.c_compile_layout.proofs.law.linked_blocks_are_an_image.Goals as goal

pub returns-clause-layout : goal.returns-clause-layout
returns-clause-layout v = layout_same

pub returns-clause-made : goal.returns-clause-made
returns-clause-made v = λ B us all. made B us all

pub returns-clause-good : goal.returns-clause-good
returns-clause-good v = λ B us bytes all a l. good_image B us bytes all a l
