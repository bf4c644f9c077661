use Rattle.std.proofs.Common.{◌≡◌, ◌++◌, length}
use Rattle.c_library.specs.Spelled.{forms_of, forms_from}
use Rattle.c_library.proofs.spelled.forms_of.Given as goal

abbrev pub invariant-loop-rest : goal.invariant-loop-rest
invariant-loop-rest l = forms_of l.fn.text ≡ l.forms ++ forms_from l.word l.rest

abbrev pub decreases-loop-rest : goal.decreases-loop-rest
decreases-loop-rest l = length l.rest
