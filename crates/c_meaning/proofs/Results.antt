-- What main returns, as the low 32 bits of its word by sign.
use Rattle.std.proofs.Common.{◌≡◌, ℕ, ◌<◌, ◌%◌, Bool}
use Rattle.std.proofs.Common.{nat_lt, refl, arith}
use Rattle.std.specs.Int.{cast_signed}
use Rattle.std.specs.Int.{w32, w64}
use Rattle.std.proofs.lemmas.Int.{ints}
use Rattle.c_tree.specs.declared.Kind.TheVariants.{Int}
use Rattle.c_constant.specs.Kinds.{converted, number, by_sign}

by-sign : (low : ℕ) (b : Bool) → low < 4294967296 → nat_lt low 2147483648 ≡ b
    → cast_signed w32 low ≡ cast_signed w64 (by_sign 2147483648 low)
by-sign low b h e = grind (arith, ints)

-- the low 32 bits of a word by sign are its number as an int
pub low-bits : (w : ℕ) → cast_signed w32 (w % 4294967296) ≡ number Int (converted Int w)
unfolding converted
low-bits w = by-sign (w % 4294967296) (nat_lt (w % 4294967296) 2147483648) (omega arith) refl
