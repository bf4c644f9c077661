use Rattle.c_compile_layout.proofs.StandardFacts.{halves_make_it}
use Rattle.c_compile_layout.proofs.law.halves_make_an_address.Goals as goal

pub returns : goal.returns
returns v = halves_make_it
