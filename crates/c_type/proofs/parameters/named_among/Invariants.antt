use Rattle.std.proofs.Common.{◌≡◌, drop}
use Rattle.std.specs.Prelude.{◌||◌}
use Rattle.c_type.specs.States.{named_among}
use Rattle.c_type.proofs.parameters.named_among.Given as goal

abbrev pub invariant-loop-param : goal.invariant-loop-param
invariant-loop-param l = named_among l.params l.word ≡ l.found || named_among (drop l.param-index l.params) l.word
