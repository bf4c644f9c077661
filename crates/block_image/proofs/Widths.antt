-- The numbers that fit a field fit a wider one.
use Rattle.std.proofs.Common.{ℕ, ◌<◌, ◌≤◌, ◌≡◌, arith}
use Rattle.std.specs.Prelude.{ℤ, pos, negsuc}
use Rattle.trips_isa.specs.declared.op.Op.{Op}
use Rattle.trips_isa.specs.declared.op.Op.TheVariants.{Bro, Callo, Gens}
use Rattle.trips_isa.specs.Fits.{FitsSigned, FitsUnsigned, FitsOffset, FitsConstant}
use Rattle.trips_isa.specs.Limits.{offset_half}

widened : (few many : ℕ) (z : ℤ) → few ≤ many → FitsSigned few z → FitsSigned many z
widened few many (pos n) l f = let g : n < few = f in omega arith
widened few many (negsuc n) l f = let g : n < few = f in omega arith

-- a number that fits 9 bits fits 10
pub wider : (z : ℤ) → FitsSigned 256 z → FitsSigned 512 z
wider z f = widened 256 512 z (omega arith) f

zero_fits : (z : ℤ) → z ≡ pos 0 → FitsSigned 1048576 z
zero_fits (pos n) e = let f : n ≡ 0 = cc in omega arith
zero_fits (negsuc n) e = absurd cc

-- an offset that fits its operation fits 21 bits
pub offset_fits : (op : Op) (z : ℤ) → FitsOffset op z → FitsSigned 1048576 z
offset_fits Bro z f = widened offset_half 1048576 z (omega arith) f
offset_fits Callo z f = widened offset_half 1048576 z (omega arith) f
offset_fits op z f = zero_fits z f

unsigned_fits : (z : ℤ) → FitsUnsigned 65536 z → FitsSigned 65536 z
unsigned_fits (pos n) f = f
unsigned_fits (negsuc n) f = absurd f

-- a constant that fits its operation fits 17 bits
pub constant_fits : (op : Op) (z : ℤ) → FitsConstant op z → FitsSigned 65536 z
constant_fits Gens z f = widened 32768 65536 z (omega arith) f
constant_fits op z f = unsigned_fits z f
