use Rattle.c_compile_layout.proofs.Sizes.{has_sizes}
use Rattle.c_compile_layout.proofs.law.targeted_blocks_have_sizes.Goals as goal

pub returns : goal.returns
returns v = λ f t room is. has_sizes f t room is
