use Rattle.std.proofs.Common.{◌≡◌, map, take}
use Rattle.c_meaning_spec.specs.Eval.{first_cells}
use Rattle.c_meaning.proofs.evaluation.global_arrays.Given as goal

abbrev pub invariant-loop-g : goal.invariant-loop-g
invariant-loop-g l = l.arrays ≡ map first_cells (take l.g-index l.program.globals)
