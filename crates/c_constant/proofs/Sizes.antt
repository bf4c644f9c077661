-- How many bytes some values take.
use Rattle.std.proofs.Common.{ℕ, ◌*◌, ◌^◌, ◌<◌, arith}
use Rattle.c_tree.specs.declared.Kind.{Kind}
use Rattle.c_tree.specs.declared.Kind.TheVariants.{Char, UChar, Short, UShort, Int, UInt, Long}
use Rattle.c_tree.specs.declared.Kind.TheVariants.{ULong}
use Rattle.c_tree.specs.declared.Kind.TheVariants as kind
use Rattle.c_constant.specs.Kinds.{bytes}

-- those of fewer than 2^32 values
pub bytes_below : (k : Kind) (n : ℕ) → n < 2 ^ 32 → n * bytes k < 2 ^ 35
bytes_below Char n h = omega arith
bytes_below UChar n h = omega arith
bytes_below Short n h = omega arith
bytes_below UShort n h = omega arith
bytes_below Int n h = omega arith
bytes_below UInt n h = omega arith
bytes_below Long n h = omega arith
bytes_below ULong n h = omega arith
bytes_below kind.Bool n h = omega arith
