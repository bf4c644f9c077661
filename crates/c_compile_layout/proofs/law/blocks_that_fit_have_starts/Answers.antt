use Rattle.c_compile_layout.proofs.Starts.{has_starts}
use Rattle.c_compile_layout.proofs.law.blocks_that_fit_have_starts.Goals as goal

pub returns : goal.returns
returns v = λ f fits. has_starts f fits
