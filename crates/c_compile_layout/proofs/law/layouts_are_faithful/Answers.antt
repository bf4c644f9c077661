use Rattle.c_compile_layout.proofs.Sums.{few_chunks}
use Rattle.c_compile_layout.proofs.Faithful.{faithful, has_places}
use Rattle.c_compile_layout.proofs.law.layouts_are_faithful.Goals as goal

pub returns-clause-faithful : goal.returns-clause-faithful
returns-clause-faithful v = λ ts few. faithful ts few

pub returns-clause-places : goal.returns-clause-places
returns-clause-places v = λ ts few. has_places ts few

pub returns-clause-few : goal.returns-clause-few
returns-clause-few v = λ ts few sizes. few_chunks ts few sizes
