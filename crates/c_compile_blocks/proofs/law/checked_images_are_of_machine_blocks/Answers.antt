use Rattle.c_compile_blocks.proofs.Passed.{are_checked}
use Rattle.c_compile_blocks.proofs.law.checked_images_are_of_machine_blocks.Goals as goal

pub returns : goal.returns
returns c = are_checked
