use Rattle.std.proofs.Common.{◌≡◌, ◌++◌}
use Rattle.bench_text.specs.Text.{calls}
use Rattle.bench_text.proofs.generator.add_calls.Given as goal

abbrev pub invariant-loop-k : goal.invariant-loop-k
invariant-loop-k l = l.text.items ≡ l.initial.text.items ++ calls l.k
