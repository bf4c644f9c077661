-- No hold is above 3: the proofs of the trait's law.
use Rattle.std.proofs.Common.{ℕ, ◌<◌, ◌≤◌, arith}
use Rattle.std.proofs.Math.Nat.{mod-lt}
use Rattle.rand_pcg.specs.Lcg.{Lcg}
use Rattle.operand_net.specs.Seeded.{hold_of}

-- a weather that never holds keeps within any bound
pub zero_within : (n : ℕ) → 0 ≤ n
zero_within n = omega arith

-- a weather that always holds for the bound keeps within it
pub same_within : (n : ℕ) → n ≤ n
same_within n = omega arith

-- so does a weather that draws its holds from a generator, since they are words modulo 4
pub holds_within : (g : Lcg) → hold_of g ≤ 3
holds_within g = let l : hold_of g < 4 = mod-lt _ (omega arith) in omega (arith, l)
