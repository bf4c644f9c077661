use Rattle.std.proofs.Common.{◌≡◌, map, take}
use Rattle.c_meaning_spec.specs.Eval.{global_row}
use Rattle.c_meaning.proofs.evaluation.global_rows.Given as goal

abbrev pub invariant-loop-g : goal.invariant-loop-g
invariant-loop-g l = l.rows.items ≡ map global_row (take l.g-index l.program.globals)
