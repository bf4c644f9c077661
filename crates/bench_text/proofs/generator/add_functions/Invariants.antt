use Rattle.std.proofs.Common.{◌≡◌, ◌++◌}
use Rattle.bench_text.specs.Text.{functions}
use Rattle.bench_text.proofs.generator.add_functions.Given as goal

abbrev pub invariant-loop-k : goal.invariant-loop-k
invariant-loop-k l = l.text.items ≡ l.initial.text.items ++ functions l.k
