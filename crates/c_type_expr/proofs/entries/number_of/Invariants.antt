use Rattle.std.proofs.Common.{◌≡◌, take}
use Rattle.std.specs.Prelude.{fold}
use Rattle.c_type_expr.specs.inside.Chains.{with_byte}
use Rattle.c_type_expr.proofs.entries.number_of.Given as goal

abbrev pub invariant-loop-byte : goal.invariant-loop-byte
invariant-loop-byte l = l.number ≡ fold with_byte 0 (take l.byte-index l.name)
